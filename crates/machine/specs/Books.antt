-- What a service knows beside its pairs, and where it places a key.
use Rattle.std.specs.Prelude.{ℕ, ◌+◌, ◌%◌, ◌^◌, Bool, cond, List, [], ◌∷◌, Some, None, Option, nat_lt}
use Rattle.lists.specs.Numbers.{member}
use Rattle.placement.specs.Laws.{Rule}

-- an open change: the roster it leads to, the cursor below which the keys have moved (2 ^ 64 once it is past every
-- key), and the store that joins or leaves
pub record Move : Type 0 where
  pub target : List ℕ
  pub cursor : ℕ
  pub store : ℕ

-- the number of stores, the copies of each key, the roster, the open change, and how many copies steps have made
pub record Book : Type 0 where
  pub stores : ℕ
  pub copies : ℕ
  pub roster : List ℕ
  pub change : Option Move
  pub copied : ℕ

-- the first of a that does not stand in b
abbrev pub first_outside : List ℕ → List ℕ → Option ℕ
first_outside [] b = None
first_outside (x ∷ a) b = cond (member x b) (first_outside a b) (Some x)

module _ (p : Rule) where
  -- the stores of k under a roster
  abbrev pub list_under : Book → List ℕ → ℕ → List ℕ
  list_under b R k = p.list k R b.copies

  abbrev pub placed : Book → Option Move → ℕ → List ℕ
  placed b None k = list_under b b.roster k
  placed b (Some m) k = cond (nat_lt k m.cursor) (list_under b m.target k) (list_under b b.roster k)

  -- the stores of k: under the target where a change has moved it already, else under the roster
  abbrev pub place : Book → ℕ → List ℕ
  place b k = placed b b.change k

  -- whether k is placed on s
  abbrev pub on : Book → ℕ → ℕ → Bool
  on b s k = member s (place b k)

  -- the store that gains k when it moves, and the one that loses it
  abbrev pub gained : Book → Move → ℕ → Option ℕ
  gained b m k = first_outside (list_under b m.target k) (list_under b b.roster k)

  abbrev pub lost : Book → Move → ℕ → Option ℕ
  lost b m k = first_outside (list_under b b.roster k) (list_under b m.target k)

-- the book once a change to T is opened, once k has moved, and once the change is done
abbrev pub change_opened : Book → List ℕ → ℕ → Book
change_opened b T s = record { stores = b.stores; copies = b.copies; roster = b.roster; change = Some (record { target = T; cursor = 0; store = s }); copied = b.copied }

abbrev pub counted : Option ℕ → ℕ → ℕ
counted None n = n
counted (Some s) n = (n + 1) % 2 ^ 64

abbrev pub key_moved : Book → Move → ℕ → Option ℕ → Book
key_moved b m k g = record { stores = b.stores; copies = b.copies; roster = b.roster; change = Some (record { target = m.target; cursor = k + 1; store = m.store }); copied = counted g b.copied }

abbrev pub change_done : Book → Move → Book
change_done b m = record { stores = b.stores; copies = b.copies; roster = m.target; change = None; copied = b.copied }

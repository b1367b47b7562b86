-- How lent stores stand for the one map, and that they go on doing so through every list of calls.
use Rattle.std.specs.Prelude.{◌≡◌, ℕ, ◌<◌, ◌≤◌, List, [], map, length, Some, None, Ok, Option, slice_index}
use Rattle.placement.specs.Laws.{Rule, Rostered, Lawful, OneMoves}
use Rattle.pairs.specs.Pairs.{keep, Ascending}
use Rattle.store.specs.Meaning.{Meaning}
use Rattle.store.specs.Stores.{nth}
use Rattle.machine.specs.declared.call.Call.{Call}
use Rattle.machine.specs.Books.{Move, Book, list_under, on}
use Rattle.machine.specs.OneMap as one
use Rattle.machine.specs.OneMap.{OneMap}
use Rattle.machine.specs.Lent as lent
use Rattle.machine.specs.Lent.{Lent}

-- the caps of some stores, by number
abbrev pub caps_of : List Meaning → List ℕ
caps_of st = map (λ (x : Meaning). x.cap) st

-- every store is empty
abbrev pub Empty : List Meaning → Type 0
Empty st = (s : ℕ) → (nth st s).pairs ≡ []

-- a change leads to a roster, and moves at most one store of each key in and one out
pub record SoundMove (p : Rule) (n : ℕ) (b : Book) (m : Move) : Type 0 where
  pub target : Rostered n m.target
  pub moves : (k : ℕ) → OneMoves (list_under p b b.roster k) (list_under p b m.target k)

abbrev pub SoundChange : Rule → ℕ → Book → Option Move → Type 0
SoundChange p n b None = Unit {0}
SoundChange p n b (Some m) = SoundMove p n b m

pub record Sound (p : Rule) (n : ℕ) (b : Book) : Type 0 where
  pub stores : b.stores ≡ n
  pub few : n ≤ 16
  pub roster : Rostered n b.roster
  pub change : SoundChange p n b b.change

-- each store holds exactly the keys placed on it, with the map's values
pub record Holds (p : Rule) (o : OneMap) (l : Lent) : Type 0 where
  pub book : l.book ≡ o.book
  pub count : length l.stores ≡ length o.caps
  pub pairs : (s : ℕ) → s < length o.caps → (nth l.stores s).pairs ≡ keep (on p o.book s) o.entries
  pub caps : (s : ℕ) → s < length o.caps → (nth l.stores s).cap ≡ slice_index o.caps s
  pub ordered : Ascending o.entries
  pub sound : Sound p (length o.caps) o.book

abbrev pub ListsAgree : Type 0
ListsAgree = (p : Rule) → Lawful p → (o : OneMap) (l : Lent) → Holds p o l → (cs : List Call) →
    (lent.answers p l cs ≡ one.answers p o cs) × Holds p (one.after p o cs) (lent.after p l cs)

-- an opening over empty stores is the machine's, and holds its map
pub record OpensAlike (p : Rule) (st : List Meaning) (m r : ℕ) (l : Lent) : Type 0 where
  pub alike : one.opening p (caps_of st) m r ≡ Ok (one.fresh (caps_of st) m r)
  pub holds : Holds p (one.fresh (caps_of st) m r) l

abbrev pub OpeningHolds : Type 0
OpeningHolds = (p : Rule) (st : List Meaning) (m r : ℕ) (l : Lent) → lent.opening p st m r ≡ Ok l → Empty st × OpensAlike p st m r l

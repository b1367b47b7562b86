-- The turns of the table's walk, of which what is left gives the whole; and the keys of its cells.
use Rattle.std.proofs.Common.{◌≡◌, ℕ, suc, ◌+◌, ◌-◌, ◌%◌, ◌<◌, cond, eqb, leb, List, [], ◌∷◌, length, is_some, Some, None, Option, sym, refl, ap, ◌∙◌, subst, add-zero, add-suc, mod-lt, mod-eq_of_lt, add-one, arith}
use native.Mathlib.Nat.{mod-mod, suc-mod, mod_self}
use Rattle.std.proofs.lemmas.List.Recursion.{is_sum_by}
use Rattle.std.proofs.lemmas.Bool.{cond-true, cond-false, eq-eqb, ne_eqb}
use Rattle.std.specs.Int.{from_bool}
use Rattle.std.specs.List.{fold, sum_by}
use Rattle.std.specs.Option.{option_or}
use Rattle.pairs.specs.Pairs.{next_key, nearer}
use Rattle.pairs.proofs.Maps.{next_insert, nearer_assoc}
use Rattle.store.specs.declared.value.Value.{Value}
use Rattle.cells.specs.declared.Cell.{Cell}
use Rattle.cells.specs.declared.Cell.TheVariants.{Empty, Live, Gone}
use Rattle.cells.specs.declared.Walked.{Walked}
use Rattle.cells.specs.Walk.{cell_at, seat, walk_step, walk_from, walk}
use Rattle.cells.specs.Held.{key_of, held, live_one, live_count}

-- the walk's place

pub seat_none : (n k : ℕ) → k % n ≡ seat n k 0
seat_none n k = rw add-zero (sym (mod-mod k n))

pub seat_lt : (n k i : ℕ) → 0 < n → seat n k i < n
seat_lt n k i h = mod-lt (k % n + i) h

seat_suc : (n k i : ℕ) → seat n k (i + 1) ≡ suc (seat n k i) % n
seat_suc n k i = rw (add-one, add-suc) (suc-mod (k % n + i) n)

-- one step on, at the end of the cells and before it
pub seat_wraps : (n k i p : ℕ) → p ≡ seat n k i → p + 1 ≡ n → 0 ≡ seat n k (i + 1)
seat_wraps n k i p e h =
    sym (seat_suc n k i ∙ ap (λ x. suc x % n) (sym e) ∙ ap (λ x. x % n) (sym (add-one p) ∙ h) ∙ mod_self n)

pub seat_steps : (n k i p : ℕ) → p ≡ seat n k i → p + 1 < n → p + 1 ≡ seat n k (i + 1)
seat_steps n k i p e h =
    sym (seat_suc n k i ∙ ap (λ x. suc x % n) (sym e) ∙ ap (λ x. x % n) (sym (add-one p)) ∙ mod-eq_of_lt h)

-- a place is the walk's i-th
pub record Reached (cs : List Cell) (k i p : ℕ) : Type 0 where
  pub seated : p ≡ seat (length cs) k i
  pub within : i < length cs

-- a walk that goes on, after it has met the free cell o, or none
abbrev pub resumed : Option ℕ → Walked → Walked
resumed o w = record { found = w.found; free = option_or o w.free }

pub or_none : (o : Option ℕ) → option_or o None ≡ o
or_none None = refl
or_none (Some p) = refl

or_some : (o b : Option ℕ) (p : ℕ) → option_or (option_or o (Some p)) b ≡ option_or o (Some p)
or_some None b p = refl
or_some (Some q) b p = refl

-- the loop of the walk: what is left of the walk, with the free cell met, gives the whole walk
abbrev pub Resumes : List Cell → ℕ → Option ℕ → ℕ → Type 0
Resumes cs k o i = (f : ℕ) → i + f ≡ length cs → resumed o (walk_from (length cs) cs k f i) ≡ walk cs k

module _ (cs : List Cell) (k : ℕ) where
  pub walk_begins : Resumes cs k None 0
  walk_begins f e = let e' : f ≡ length cs = omega arith in ap (λ x. walk_from (length cs) cs k x 0) e'

  -- one turn, at the cell c in place p
  walk_turn : (o : Option ℕ) (i p : ℕ) (c : Cell) → Reached cs k i p → cell_at cs p ≡ c → Resumes cs k o i → (f : ℕ) → (i + 1) + f ≡ length cs → resumed o (walk_step k c p (walk_from (length cs) cs k f (i + 1))) ≡ walk cs k
  walk_turn o i p c e h inv f m =
      let m' : i + suc f ≡ length cs = omega arith in
      let r = walk_from (length cs) cs k f (i + 1) in
      subst (λ x. resumed o (walk_step k x p r) ≡ walk cs k) h
      (subst (λ q. resumed o (walk_step k (cell_at cs q) q r) ≡ walk cs k) (sym e.seated) (inv (suc f) m'))

  -- the walk ends at an empty cell
  pub walk_empty : (o : Option ℕ) (i p : ℕ) → Reached cs k i p → cell_at cs p ≡ Empty → Resumes cs k o i → record { found = None; free = option_or o (Some p) } ≡ walk cs k
  walk_empty o i p e h inv = walk_turn o i p Empty e h inv (length cs - (i + 1)) (let l = e.within in omega arith)

  -- or at its key
  pub walk_hit : (o : Option ℕ) (i p j : ℕ) (v : Value) → Reached cs k i p → cell_at cs p ≡ Live j v → j ≡ k → Resumes cs k o i → record { found = Some p; free = o } ≡ walk cs k
  walk_hit o i p j v e h d inv =
      let r = walk_from (length cs) cs k (length cs - (i + 1)) (i + 1) in
      let t = eq-eqb j k d in
      let a : Some p ≡ cond (eqb j k) (Some p) r.found = sym (cond-true (eqb j k) (Some p) r.found t) in
      let b : o ≡ option_or o (cond (eqb j k) None r.free) = sym (ap (option_or o) (cond-true (eqb j k) None r.free t) ∙ or_none o) in
      let s : Option ℕ → Option ℕ → Walked = λ x y. record { found = x; free = y } in
      ap (λ x. s x o) a ∙ ap (s (cond (eqb j k) (Some p) r.found)) b ∙ walk_turn o i p (Live j v) e h inv (length cs - (i + 1)) (let l = e.within in omega arith)

  -- it goes on at another key
  pub walk_pass : (o : Option ℕ) (i p j : ℕ) (v : Value) → Reached cs k i p → cell_at cs p ≡ Live j v → (j ≡ k → ⊥) → Resumes cs k o i → Resumes cs k o (i + 1)
  walk_pass o i p j v e h d inv f m =
      let r = walk_from (length cs) cs k f (i + 1) in
      let t = ne_eqb j k d in
      let a : r.found ≡ cond (eqb j k) (Some p) r.found = sym (cond-false (eqb j k) (Some p) r.found t) in
      let b : r.free ≡ cond (eqb j k) None r.free = sym (cond-false (eqb j k) None r.free t) in
      let s : Option ℕ → Option ℕ → Walked = λ x y. record { found = x; free = option_or o y } in
      ap (λ x. s x r.free) a ∙ ap (s (cond (eqb j k) (Some p) r.found)) b ∙ walk_turn o i p (Live j v) e h inv f m

  -- and at a gone cell
  pub walk_gone : (o : Option ℕ) (i p : ℕ) → Reached cs k i p → cell_at cs p ≡ Gone → Resumes cs k o i → Resumes cs k (option_or o (Some p)) (i + 1)
  walk_gone o i p e h inv f m =
      let r = walk_from (length cs) cs k f (i + 1) in
      let s : Option ℕ → Walked = λ y. record { found = r.found; free = y } in
      ap s (or_some o r.free p) ∙ walk_turn o i p Gone e h inv f m

  -- after all cells
  pub walk_ends : (o : Option ℕ) (i : ℕ) → i ≡ length cs → Resumes cs k o i → record { found = None; free = o } ≡ walk cs k
  walk_ends o i e inv =
      let s : Option ℕ → Walked = λ y. record { found = None; free = y } in
      ap s (sym (or_none o)) ∙ inv 0 (omega arith)

-- a live cell has a key, and counts 1

abbrev pub one_a_key : Cell → ℕ
one_a_key c = from_bool (is_some (key_of c))

one_lives : (c : Cell) → live_one c ≡ one_a_key c
one_lives Empty = refl
one_lives (Live k v) = refl
one_lives Gone = refl

pub keys_sum : (cs : List Cell) → live_count cs ≡ sum_by one_a_key cs
keys_sum cs = is_sum_by live_count one_a_key refl (λ c xs. ap (λ n. n + live_count xs) (one_lives c)) cs

-- the least of the keys of the live cells from k on is the next

-- the key of a live cell, if it is not below k
abbrev pub key_from : ℕ → Cell → Option ℕ
key_from k Empty = None
key_from k (Live j v) = cond (leb k j) (Some j) None
key_from k Gone = None

nearer_none : (a : Option ℕ) → nearer a None ≡ a
nearer_none None = refl
nearer_none (Some j) = refl

next_from : (cs : List Cell) (k : ℕ) (best : Option ℕ) → fold (λ b c. nearer b (key_from k c)) best cs ≡ nearer best (next_key (held cs) k)
next_from [] k best = sym (nearer_none best)
next_from (Empty ∷ cs) k best = ap (λ b. fold (λ b c. nearer b (key_from k c)) b cs) (nearer_none best) ∙ next_from cs k best
next_from (Live j v ∷ cs) k best =
    let m : Option ℕ = cond (leb k j) (Some j) None in
    next_from cs k (nearer best m)
    ∙ nearer_assoc best m (next_key (held cs) k)
    ∙ ap (nearer best) (sym (next_insert (held cs) j v k))
next_from (Gone ∷ cs) k best = ap (λ b. fold (λ b c. nearer b (key_from k c)) b cs) (nearer_none best) ∙ next_from cs k best

pub keys_next : (cs : List Cell) (k : ℕ) → fold (λ b c. nearer b (key_from k c)) None cs ≡ next_key (held cs) k
keys_next cs k = next_from cs k None

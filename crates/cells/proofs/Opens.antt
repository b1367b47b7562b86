-- Opening: cells written empty hold nothing, and stand exactly where the check accepts.
use Rattle.std.proofs.Common.{◌≡◌, ℕ, zero, suc, true, ◌&&◌, leb, [], refl, arith}
use Rattle.std.proofs.lemmas.List.{length-replicate}
use Rattle.std.proofs.lemmas.Bool.{and_parts, leb-true}
use Rattle.store.specs.Meaning.{most}
use Rattle.cells.specs.declared.Cell.TheVariants.{Empty}
use Rattle.cells.specs.Walk.{cell_at}
use Rattle.cells.specs.Held.{held, live_count, Limits, Standing, cleared, allowed}
use Rattle.cells.proofs.Calls.{stand_out}

pub held_cleared : (n : ℕ) → held (cleared n) ≡ []
held_cleared zero = refl
held_cleared (suc n) = held_cleared n

count_cleared : (n : ℕ) → live_count (cleared n) ≡ 0
count_cleared zero = refl
count_cleared (suc n) = let ih = count_cleared n in omega arith

cell_cleared : (n p : ℕ) → cell_at (cleared n) p ≡ Empty
cell_cleared zero p = refl
cell_cleared (suc n) zero = refl
cell_cleared (suc n) (suc p) = cell_cleared n p

allowed_limits : (n m : ℕ) → allowed n m ≡ true → Limits n m
allowed_limits n m h =
    let a = and_parts (leb 1 m) (leb m n && leb m most) h in
    let b = and_parts (leb m n) (leb m most) a.1 in
    (leb-true 1 m a.0, leb-true m n b.0, leb-true m most b.1)

pub cleared_stands : (n m : ℕ) → allowed n m ≡ true → Standing (cleared n) m
cleared_stands n m a =
    let h = allowed_limits n m a in
    let e = length-replicate n Empty in
    let z = count_cleared n in
    stand_out (cleared n) m
    (record {
      limits = rw e h;
      found = λ p k v d. absurd (let c = cell_cleared n p in let y : ◌≡◌ {A = ℕ} 0 1 = cc in omega arith);
      worded = λ p k v d. absurd (let c = cell_cleared n p in let y : ◌≡◌ {A = ℕ} 0 1 = cc in omega arith);
      room = omega arith;
    })

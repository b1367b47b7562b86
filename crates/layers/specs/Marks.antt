-- What a mixed store takes from its two stores: all of the marked one.
use Rattle.std.specs.Prelude.{ℕ, List}
use Rattle.pairs.specs.Pairs.{Pair}
use Rattle.store.specs.declared.value.Value.{Value}
use Rattle.store.specs.Meaning.{Lawful}
use Rattle.layers.specs.declared.mixed.mark.Marked.{Marked}
use Rattle.layers.specs.declared.mixed.mark.Marked.TheVariants.{First, Second}

-- a value, and a fact, of the marked one
abbrev pub of_marked : {X : Type 0} → Marked → X → X → X
of_marked First x y = x
of_marked Second x y = y

abbrev pub OfMarked : Marked → Type 0 → Type 0 → Type 0
OfMarked First P Q = P
OfMarked Second P Q = Q

pub mixed_lawful : (m : Marked)
    (ps : List (Pair Value)) (c : ℕ) (P : Type 0) → (P → Lawful ps c) →
    (qs : List (Pair Value)) (d : ℕ) (Q : Type 0) → (Q → Lawful qs d) →
    OfMarked m P Q → Lawful (of_marked m ps qs) (of_marked m c d)
mixed_lawful First ps c P f qs d Q g h = f h
mixed_lawful Second ps c P f qs d Q g h = g h

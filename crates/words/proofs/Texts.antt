-- The greatest number of bytes that a text has in common with some of several.
use Rattle.std.proofs.Common.{◌≡◌, ℕ, max, List, [], ◌∷◌, map, refl, arith}
use Rattle.std.specs.Borrow.{Bor}
use Rattle.std.specs.List.{fold, reduce}
use Rattle.std.specs.Option.{unwrap_or}
use Rattle.grammar.specs.Slots.{common, furthest}
use Rattle.words.specs.Texts.{texts}

furthest_fold : (w : List ℕ) (ws : List (Bor (List ℕ))) (n : ℕ) → fold max n (map (λ a. common w a.now) ws) ≡ max n (furthest (texts ws) w)
furthest_fold w [] n = omega arith
furthest_fold w (a ∷ ws) n = omega (arith, furthest_fold w ws (max n (common w a.now)))

pub furthest_most : (w : List ℕ) (ws : List (Bor (List ℕ))) → unwrap_or (reduce max (map (λ a. common w a.now) ws)) 0 ≡ furthest (texts ws) w
furthest_most w [] = refl
furthest_most w (a ∷ ws) = furthest_fold w ws (common w a.now)

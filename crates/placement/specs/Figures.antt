-- Worked figures: what the definitions give, each beside what it should be.
use Rattle.std.specs.Prelude.{◌≡◌, ℕ, ◌-◌, ◌^◌, List, ◌∷◌, map}
use Rattle.std.specs.List.{AllByRecursion}
use Rattle.lists.specs.Numbers.{count_up}
use Rattle.placement.specs.Rendezvous.{digest, weight_at}
use Rattle.placement.specs.Jump.{position}

pub record Figure : Type 0 where
  pub given : ℕ
  pub due : ℕ

abbrev fig : ℕ → ℕ → Figure
fig g d = record { given = g; due = d }

-- weights at digest 0 of stores 0 to 4; digests; positions: of key 1 at lengths 6 and 7, of key 0 at lengths 1 to 16
abbrev pub figures : List Figure
figures =
    fig (weight_at 0 0) 1406932606 ∷ fig (weight_at 0 1) 377401575 ∷ fig (weight_at 0 2) 1495354192 ∷ fig (weight_at 0 3) 465823161 ∷ fig (weight_at 0 4) 1583775778
    ∷ fig (digest (2 ^ 31)) 1 ∷ fig (digest (2 ^ 62)) 1 ∷ fig (digest (2 ^ 64 - 1)) 3
    ∷ fig (position 1 6) 0 ∷ fig (position 1 7) 6
    ∷ map (λ (n : ℕ). fig (position 0 n) 0) (count_up 1 16)

abbrev pub FiguresHold : Type 0
FiguresHold = AllByRecursion (λ f. f.given ≡ f.due) figures

use Rattle.std.proofs.Common.{rules, ◌≡◌, ◌≤◌, ℕ, List, [], ◌∷◌, length, None, Some, Option, ap, Bor, arith}
use Rattle.std.specs.Iterator.{YieldsFirstRef}
use Rattle.grammar.proofs.Cuts.{lines_within}
use Rattle.simulation.proofs.run_script.Goals as goal

-- no more lines are left than there were
left_within : (before after : List (List ℕ)) (line : Option (Bor (List ℕ))) → YieldsFirstRef (λ (l : List (List ℕ)). l) before line after → length after ≤ length before
left_within before after None h = search rules
left_within before after (Some line) h = omega (arith, ap length h)

pub read_rows-requires : goal.read_rows-requires
read_rows-requires c =
    omega (arith, left_within c.new-lines.result c.next.new.self c.next.result c.next.ensures.steps, ap length c.new-lines.ensures, lines_within c.args.script.now)

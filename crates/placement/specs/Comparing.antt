-- How candidates compare: greater weight first, then smaller number. The order is total, transitive and antisymmetric.
use Rattle.std.specs.Prelude.{◌≡◌}
use Rattle.std.specs.declared.cmp.Ordering.{Ordering}
use Rattle.std.specs.Ordering.{nat_cmp, ordering_then}
use Rattle.std.proofs.Common.{sym, subst, arith, rules}
use Rattle.std.proofs.lemmas.Bool.Decides.{nat_tests}
use Rattle.order.specs.Sorting.{Ordered, before}
use Rattle.placement.specs.declared.rendezvous.Candidate.{Candidate}
use Rattle.placement.specs.Candidates.{heavier}

-- what the derived comparison answers
abbrev pub compared : Candidate → Candidate → Ordering
compared a b = ordering_then (nat_cmp b.weight.0 a.weight.0) (nat_cmp a.store b.store)

compared_so : (a b : Candidate) → before compared a b ≡ heavier a b
compared_so a b = grind (arith, nat_tests)

pub compared_heavier : before compared ≡ heavier
compared_heavier i a b = compared_so a b i

pub heavier_ordered : Ordered heavier
heavier_ordered = record {
  total = λ a b h. search rules;
  transitive = λ a b c h k. search rules;
  antisymmetric = λ a b h k. search rules;
}

pub candidates_ordered : Ordered (before compared)
candidates_ordered = subst Ordered (sym compared_heavier) heavier_ordered

use Rattle.placement.specs.declared.policies.Policy.{Policy}
use Rattle.placement.specs.declared.policies.Policy.TheVariants.{Rendezvous, Jump}
use Rattle.placement.specs.Laws.{Rule}
use Rattle.placement.specs.Rendezvous.{rendezvous}
use Rattle.placement.specs.Jump.{jump}

-- the rule that a policy names
abbrev pub rule_of : Policy → Rule
rule_of Rendezvous = rendezvous
rule_of Jump = jump

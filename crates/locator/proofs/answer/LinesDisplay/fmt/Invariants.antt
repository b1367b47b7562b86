use Rattle.std.proofs.Common.{take}
use Rattle.std.specs.Fmt.{HasWritten, IsPlainFormatter}
use Rattle.placement.specs.Policies.{rule_of}
use Rattle.locator.specs.Lines.{lines, members_of}
use Rattle.locator.proofs.answer.LinesDisplay.fmt.Given as goal

-- the lines of the keys so far are written
abbrev pub invariant-loop-key : goal.invariant-loop-key
invariant-loop-key g l =
    let p = l.self.placing in
    IsPlainFormatter l.initial.f → HasWritten g.W.Write.write_str_gives l.initial.f (lines (rule_of p.policy) p.copies (members_of p.roster) (members_of p.rest) (take l.key-index l.key-items)) l.f

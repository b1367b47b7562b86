use Rattle.std.proofs.Common.{◌≡◌, ◌++◌}
use Rattle.std.specs.Fmt.{HasWritten, IsPlainFormatter}
use Rattle.locator.specs.Lines.{more_stores}
use Rattle.locator.proofs.answer.JoinedDisplay.fmt.Given as goal

-- the stores so far are written
abbrev pub invariant-loop-store : goal.invariant-loop-store
invariant-loop-store g l =
    (l.yielded ++ l.store-iterator ≡ l.initial.store-iterator)
    × (IsPlainFormatter l.initial.f → HasWritten g.W.Write.write_str_gives l.initial.f (more_stores l.yielded) l.f)

use Rattle.std.proofs.Common.{ℕ, ◌+◌, ◌*◌, ◌%◌, ◌^◌, sym, ◌∙◌}
use Rattle.placement.specs.Walking.{wrapped, turn_on, turn_off}
use Rattle.placement.proofs.jump.walk_end.Goals as goal

-- the code's next state, which wraps twice
abbrev after : ℕ → ℕ
after s = ((s * 2862933555777941757) % 2 ^ 64 + 1) % 2 ^ 64

pub loop-key-preserved : goal.loop-key-preserved
loop-key-preserved c = (
  c.if-next-end.false,
  turn_on c.args.len c.loop-key.state c.loop-key.at (after c.loop-key.state) (wrapped c.loop-key.state) c.loop-key.invariant.0 c.if-next-end.false ∙ c.loop-key.invariant.1,
)

pub returns-then-next-end : goal.returns-then-next-end
returns-then-next-end c = (
  sym (turn_off c.args.len c.loop-key.state c.loop-key.at (after c.loop-key.state) (wrapped c.loop-key.state) c.loop-key.invariant.0 c.if-next-end.true) ∙ c.loop-key.invariant.1,
  c.loop-key.invariant.0,
)

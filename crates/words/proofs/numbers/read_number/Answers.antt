use Rattle.std.proofs.Common.{◌≡◌, ⊎_elim, arith}
use Rattle.std.proofs.lemmas.Result.{err_from_is_err_and}
use Rattle.grammar.proofs.Numbers.{front_more, front_other}
use Rattle.words.proofs.numbers.read_number.Goals as goal

pub returns-in_err-n : goal.returns-in_err-n
returns-in_err-n c =
    let none = c.in_err-n.ensures.ok_part in
    let told = rw none at c.in_err-n.ensures.value in
    let at : c.in_err-n.field-0.0 ≡ c.loop-i.i = cc in
    let far = err_from_is_err_and c.from_residual.result c.from_residual.ensures.1 in
    rw (far.1, far.2, at) (front_other _ _ _ c.loop-i-test.true c.loop-i.invariant (rw none at c.longer.ensures))

pub loop-i-preserved : goal.loop-i-preserved
loop-i-preserved c =
    front_more _ _ _ _ c.loop-i-test.true c.loop-i.invariant
    (λ some zero. ⊎_elim (λ (e : _). omega arith) (λ (e : _). omega arith) c.else-i-gt0.either)
    (rw c.in_ok-n.ensures.ok_part at c.longer.ensures)

use Rattle.std.proofs.Common.{◌≡◌, ℕ, suc, ◌||◌, Bool, false, eqb, List, [], get_or, drop, sym, ap, ◌∙◌, add-one, drop-cons}
use Rattle.std.proofs.lemmas.Bool.{ne_eqb}
use Rattle.codec.specs.declared.Record.{Record}
use Rattle.codec.specs.Records.{decoded}
use Rattle.log_theory.specs.Rows.{in_row, any_has}
use Rattle.log_store.proofs.any_has.Goals as goal

pub loop-i-preserved : goal.loop-i-preserved
loop-i-preserved c =
    let ss = c.args.slots.now in
    let k = c.args.key in
    let i = c.loop-i.i in
    let other : eqb (decoded (get_or ss i [])).key k ≡ false =
    ne_eqb _ _ (λ e. c.if-read-key.false (ap (λ (r : Record). r.key) c.read.ensures ∙ e)) in
    ap (λ (m : ℕ). any_has (in_row (drop m ss)) k) (add-one i)
    ∙ sym (ap (λ (b : Bool). b || any_has (in_row (drop (suc i) ss)) k) other)
    ∙ sym (ap (λ (z : List (List ℕ)). any_has (in_row z) k) (drop-cons ss i [] c.loop-i-test.true))
    ∙ c.loop-i.invariant

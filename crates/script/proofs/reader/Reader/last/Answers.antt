use Rattle.std.proofs.Common.{[], drop, sym, ap, ◌∙◌}
use Rattle.script.proofs.Going.{by_word, by_line, here, further}
use Rattle.script.proofs.reader.Reader.last.Goals as goal

pub returns-in_err-value : goal.returns-in_err-value
returns-in_err-value g c =
    let told = c.in_err-value.ensures in
    record { reads_last = by_word _ _ _ c.from_residual.ensures.1 (here g.T.Spelled.slot [] _ _ _ _ told.reads_next) }

pub returns-in_err-end : goal.returns-in_err-end
returns-in_err-end g c =
    let told = c.in_ok-value.ensures in
    record {
      reads_last = by_line _ _ _ c.from_residual-in_err-end.ensures.1
          (further g.T.Spelled.spells g.T.Spelled.slot g.met.T.Spelled.fits [] _ _ _ _ c.in_ok-value.value _
          told.reads_next told.line_stays c.in_err-end.ensures);
    }

pub returns : goal.returns
returns g c =
    let told = c.in_ok-value.ensures in
    record { reads_last = record { next = told.reads_next; ends = ap (λ l. drop c.next.new.self.at l.text.now) (sym told.line_stays) ∙ c.in_ok-end.ensures } }

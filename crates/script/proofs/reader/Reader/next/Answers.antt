use Rattle.std.proofs.Common.{ap, ◌∙◌, arith}
use Rattle.std.proofs.lemmas.Result.{err_from_is_err_and, MatchResult-weaker}
use Rattle.grammar.proofs.Seams.{tail_gap, tail_miss}
use Rattle.script.proofs.reader.Reader.next.Goals as goal

pub returns-in_err-field : goal.returns-in_err-field
returns-in_err-field g c =
    let told = c.in_err-field.ensures in
    let line = c.args.self.now.line.text.now in
    let i = c.args.self.now.at in
    let p = err_from_is_err_and c.from_residual.result c.from_residual.ensures.1 in
    record {
      line_stays = told.line_stays;
      reads_next = rw (p.1, p.2) (record { here = ap (λ q. q.line) told.cases.0; misfits = λ ss. tail_gap g.T.Spelled.slot ss line i _ told.cases.1 (ap (λ q. q.column) told.cases.0) });
    }

pub returns : goal.returns
returns g c =
    let told = c.in_ok-field.ensures in
    let reads = told.cases.0 in
    let line = c.args.self.now.line.text.now in
    let i = c.args.self.now.at in
    let word = c.in_ok-field.field-0.text.now in
    record {
      line_stays = told.line_stays;
      reads_next = MatchResult-weaker c.read.result c.read.ensures
          (λ v h. record { word = word; reads = reads; spelled = h })
          (λ f h. record {
            here = h.0 ∙ ap (λ q. q.line) told.cases.2;
            misfits = λ ss. tail_miss g.T.Spelled.slot ss line i c.field.new.self.at word h.1.far f.place.column reads told.cases.1 h.1.stops (omega (arith, h.1.at, ap (λ q. q.column) told.cases.2));
          });
    }

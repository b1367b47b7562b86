use Rattle.std.proofs.Common.{ap, ◌∙◌, arith}
use Rattle.std.proofs.lemmas.Result.{MatchResult-weaker}
use Rattle.grammar.proofs.Firsts.{opens_word}
use Rattle.script.proofs.reader.Reader.first.Goals as goal

pub returns : goal.returns
returns g c =
    let told = c.word.ensures in
    let line = c.args.self.now.line.text.now in
    let opens = opens_word line c.word.result.text.now c.args.self.now.at c.word.new.self.at c.requires told.text told.after in
    record {
      line_stays = told.line_stays;
      reads_first = MatchResult-weaker c.read.result c.read.ensures
          (λ v h. record { word = c.word.result.text.now; opens = opens; spelled = h })
          (λ f h. record { here = h.0 ∙ ap (λ p. p.line) told.place; word = c.word.result.text.now; end = c.word.new.self.at; opens = opens; strays = record { far = h.1.far; at = omega (arith, h.1.at, ap (λ p. p.column) told.place, c.requires); stops = h.1.stops } });
    }

use Rattle.std.proofs.Common.{◌+◌, drop, refl, arith}
use Rattle.grammar.proofs.Firsts.{reads_word, plain_word, no_space}
use Rattle.script.proofs.reader.Reader.field.Goals as goal
use Rattle.script.proofs.reader.Reader.field.Goals.{else-self-via-then-self+else-self-eq32, else-self-via-else-self}

pub returns-then-self-eq32 : goal.returns-then-self-eq32
returns-then-self-eq32 c =
    let told = c.word.ensures in
    let line = c.args.self.now.line.text.now in
    let i = c.args.self.now.at in
    record {
      line_stays = told.line_stays;
      cases = (
        reads_word line i _ _ c.if-self.true c.if-self-eq32.true told.text told.after,
        plain_word _ (drop (i + 1) line) told.text,
        told.place,
      );
    }

pub returns : goal.returns
returns c =
    let line = c.args.self.now.line.text.now in
    let i = c.args.self.now.at in
    record {
      line_stays = refl;
      cases = (c.place.ensures, no_space line i (λ lt e. elim c.else-self.branch [ else-self-via-then-self+else-self-eq32 w ↦ w.if-self-eq32.false e | else-self-via-else-self w ↦ omega (arith, w.if-self.false) ]));
    }

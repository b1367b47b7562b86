use Rattle.std.proofs.Common.{◌≡◌, ap, ◌∙◌, rules}
use Rattle.codec.specs.Words.{le, over}
use Rattle.codec.specs.Records.{encoded, decoded, FitsRecord}
use Rattle.codec.proofs.Digits.{record_read_back}
use Rattle.codec.proofs.Record.to_bytes.Goals as goal

pub returns : goal.returns
unfolding le over
returns c =
    let fits : FitsRecord c.args.self = search rules in
    let e : c.set_word-4.new.bytes ≡ encoded c.args.self =
    c.set_word-4.ensures ∙ ap (λ z. over z 24 (le c.args.self.kind)) (c.set_word-3.ensures
    ∙ ap (λ z. over z 16 (le c.args.self.b)) (c.set_word-2.ensures ∙ ap (λ z. over z 8 (le c.args.self.a)) c.set_word.ensures)) in
    record { bytes_are_encoded = e; reads_back = ap decoded e ∙ record_read_back c.args.self fits }

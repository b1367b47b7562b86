use Rattle.std.proofs.Common.{◌≡◌, ap, ◌∙◌, rules}
use Rattle.codec.specs.Words.{le, over}
use Rattle.codec.specs.Records.{trailer_encoded, trailer_decoded, FitsTrailer}
use Rattle.codec.proofs.Digits.{trailer_read_back}
use Rattle.codec.proofs.Trailer.to_bytes.Goals as goal

pub returns : goal.returns
unfolding le over
returns c =
    let fits : FitsTrailer c.args.self = search rules in
    let e : c.set_word-2.new.bytes ≡ trailer_encoded c.args.self =
    c.set_word-2.ensures ∙ ap (λ z. over z 8 (le c.args.self.cap)) c.set_word.ensures in
    record { bytes_are_encoded = e; reads_back = ap trailer_decoded e ∙ trailer_read_back c.args.self fits }

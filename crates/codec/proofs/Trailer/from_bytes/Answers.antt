use Rattle.std.proofs.Common.{◌≡◌, ap, ◌∙◌, arith, rules}
use Rattle.codec.specs.declared.Trailer.{Trailer}
use Rattle.codec.specs.Words.{Bytes}
use Rattle.codec.specs.Records.{trailer_encoded, trailer_decoded}
use Rattle.codec.proofs.Digits.{same_trailer, trailer_written_back}
use Rattle.codec.proofs.Trailer.from_bytes.Goals as goal

pub returns : goal.returns
returns c =
    let f : Bytes c.args.bytes = search rules in
    let t : Trailer = record { distance = c.word.result; cap = c.word-2.result } in
    let e : t ≡ trailer_decoded c.args.bytes = same_trailer t (trailer_decoded c.args.bytes) c.word.ensures c.word-2.ensures in
    record { trailer_is_decoded = e; writes_back = ap trailer_encoded e ∙ trailer_written_back c.args.bytes f (omega arith) }

use Rattle.std.proofs.Common.{◌≡◌, ap, ◌∙◌, arith, rules}
use Rattle.codec.specs.declared.Record.{Record}
use Rattle.codec.specs.Words.{Bytes}
use Rattle.codec.specs.Records.{encoded, decoded}
use Rattle.codec.proofs.Digits.{same_record, record_written_back}
use Rattle.codec.proofs.Record.from_bytes.Goals as goal

pub returns : goal.returns
returns c =
    let f : Bytes c.args.bytes = search rules in
    let r : Record = record { key = c.word.result; a = c.word-2.result; b = c.word-3.result; kind = c.word-4.result } in
    let e : r ≡ decoded c.args.bytes = same_record r (decoded c.args.bytes) c.word.ensures c.word-2.ensures c.word-3.ensures c.word-4.ensures in
    record { record_is_decoded = e; writes_back = ap encoded e ∙ record_written_back c.args.bytes f (omega arith) }

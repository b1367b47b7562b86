-- Reading and writing undo each other, both ways, for words, records and trailers.
use Rattle.std.specs.Prelude.{◌≡◌, ℕ, ◌+◌, ◌^◌, ◌<◌, ◌≤◌, List, length, take, drop}
use Rattle.codec.specs.declared.Record.{Record}
use Rattle.codec.specs.declared.Trailer.{Trailer}
use Rattle.codec.specs.Words.{word_at, le, Bytes}
use Rattle.codec.specs.Records.{encoded, decoded, trailer_encoded, trailer_decoded, FitsRecord, FitsTrailer}

pub record CodecLaws : Type 0 where
  pub word_read_back : (x : ℕ) → x < 2 ^ 64 → word_at (le x) 0 ≡ x
  pub word_written_back : (bs : List ℕ) (o : ℕ) → Bytes bs → o + 8 ≤ length bs → le (word_at bs o) ≡ take 8 (drop o bs)
  pub record_read_back : (r : Record) → FitsRecord r → decoded (encoded r) ≡ r
  pub record_written_back : (ws : List ℕ) → Bytes ws → length ws ≡ 32 → encoded (decoded ws) ≡ ws
  pub trailer_read_back : (t : Trailer) → FitsTrailer t → trailer_decoded (trailer_encoded t) ≡ t
  pub trailer_written_back : (ws : List ℕ) → Bytes ws → length ws ≡ 16 → trailer_encoded (trailer_decoded ws) ≡ ws

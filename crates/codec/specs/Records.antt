-- A record is four words, a trailer two.
use Rattle.std.specs.Prelude.{ℕ, ◌^◌, ◌<◌, List, ◌++◌}
use Rattle.codec.specs.declared.Record.{Record}
use Rattle.codec.specs.declared.Trailer.{Trailer}
use Rattle.codec.specs.Words.{word_at, le}

-- the 32 bytes of a record, and the record that 32 bytes are
abbrev pub encoded : Record → List ℕ
encoded r = le r.key ++ (le r.a ++ (le r.b ++ le r.kind))

abbrev pub decoded : List ℕ → Record
decoded ws = record { key = word_at ws 0; a = word_at ws 8; b = word_at ws 16; kind = word_at ws 24 }

-- the 16 bytes of a trailer, and the trailer that 16 bytes are
abbrev pub trailer_encoded : Trailer → List ℕ
trailer_encoded t = le t.distance ++ le t.cap

abbrev pub trailer_decoded : List ℕ → Trailer
trailer_decoded ws = record { distance = word_at ws 0; cap = word_at ws 8 }

-- the words of a record, and of a trailer, fit 64 bits
pub record FitsRecord (r : Record) : Type 0 where
  pub key_fits : r.key < 2 ^ 64
  pub a_fits : r.a < 2 ^ 64
  pub b_fits : r.b < 2 ^ 64
  pub kind_fits : r.kind < 2 ^ 64

pub record FitsTrailer (t : Trailer) : Type 0 where
  pub distance_fits : t.distance < 2 ^ 64
  pub cap_fits : t.cap < 2 ^ 64

-- Words as bytes, and bytes written over others.
use Rattle.std.specs.Prelude.{ℕ, ◌+◌, ◌*◌, ◌/◌, ◌%◌, ◌<◌, List, [], ◌∷◌, ◌++◌, length, take, drop, slice_index}

-- the word whose eight bytes, lowest first, begin at a place
unfoldable pub word_at : List ℕ → ℕ → ℕ
word_at bs o = slice_index bs o + slice_index bs (o + 1) * 256 + slice_index bs (o + 2) * 65536 + slice_index bs (o + 3) * 16777216 + slice_index bs (o + 4) * 4294967296 + slice_index bs (o + 5) * 1099511627776 + slice_index bs (o + 6) * 281474976710656 + slice_index bs (o + 7) * 72057594037927936

-- the eight bytes of a word, lowest first
unfoldable pub le : ℕ → List ℕ
le x = (x % 256) ∷ (x / 256 % 256) ∷ (x / 65536 % 256) ∷ (x / 16777216 % 256) ∷ (x / 4294967296 % 256) ∷ (x / 1099511627776 % 256) ∷ (x / 281474976710656 % 256) ∷ (x / 72057594037927936 % 256) ∷ []

-- a list with another written over it from a place on
unfoldable pub over : List ℕ → ℕ → List ℕ → List ℕ
over bs o ws = take o bs ++ (ws ++ drop (o + length ws) bs)

-- every number of a list is a byte
abbrev pub Bytes : List ℕ → Type 0
Bytes bs = (i : ℕ) → slice_index bs i < 256

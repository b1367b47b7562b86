-- What a log holds, as text.
use Rattle.std.specs.Prelude.{ℕ, List, [], ◌∷◌, ◌++◌, codes, decimal}
use Rattle.pairs.specs.Pairs.{Pair}
use Rattle.store.specs.declared.value.Value.{Value}
use Rattle.log_theory.specs.Tape.{Tape, pairs_of}
use Rattle.log_theory.specs.Moves.{superseded_count}
use Rattle.log_theory.specs.Image.{trailer_at, image_tape}

-- a pair's line: its key and the two words of its value
abbrev pub pair_line : ℕ → Value → List ℕ
pair_line k v = codes "pair " ++ (decimal k ++ (codes " " ++ (decimal v.a ++ (codes " " ++ (decimal v.b ++ codes "\n")))))

abbrev pub pair_lines : List (Pair Value) → List ℕ
pair_lines [] = []
pair_lines (p ∷ ps) = pair_line p.key p.value ++ pair_lines ps

abbrev pub cap_line : ℕ → List ℕ
cap_line c = codes "cap " ++ (decimal c ++ codes "\n")

abbrev pub superseded_line : ℕ → List ℕ
superseded_line n = codes "superseded " ++ (decimal n ++ codes "\n")

abbrev pub log_text : Tape → ℕ → List ℕ
log_text t c = cap_line c ++ (pair_lines (pairs_of t) ++ superseded_line (superseded_count t.bytes t.used t.used))

-- the text of the image in the first n bytes
abbrev pub image_text : List ℕ → ℕ → List ℕ
image_text bs n = log_text (image_tape bs n) (trailer_at bs n).cap

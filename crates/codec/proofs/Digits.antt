-- Digits in base 256: why reading and writing undo each other.
use Rattle.std.proofs.Common.{◌≡◌, ℕ, ◌+◌, ◌*◌, ◌/◌, ◌%◌, ◌^◌, ◌<◌, ◌≤◌, List, [], ◌∷◌, ◌++◌, length, get_or, take, drop, sym, refl, ap, ◌∙◌, add-zero, arith}
use Rattle.std.proofs.lemmas.List.{length-take-le, length-drop, get_or-take, get_or-drop, take-append-drop, drop-drop, take_all}
use Rattle.codec.specs.declared.Record.{Record}
use Rattle.codec.specs.declared.Trailer.{Trailer}
use Rattle.codec.specs.Words.{word_at, le, Bytes}
use Rattle.codec.specs.Records.{encoded, decoded, trailer_encoded, trailer_decoded, FitsRecord, FitsTrailer}
use Rattle.codec.specs.Laws.{CodecLaws}

digits : (x : ℕ) → x < 2 ^ 64 → x % 256 + x / 256 % 256 * 256 + x / 65536 % 256 * 65536 + x / 16777216 % 256 * 16777216 + x / 4294967296 % 256 * 4294967296 + x / 1099511627776 % 256 * 1099511627776 + x / 281474976710656 % 256 * 281474976710656 + x / 72057594037927936 % 256 * 72057594037927936 ≡ x
digits x h = omega arith

digits_of : (a b c d e f g h : ℕ) → a < 256 → b < 256 → c < 256 → d < 256 → e < 256 → f < 256 → g < 256 → h < 256
    → le (a + b * 256 + c * 65536 + d * 16777216 + e * 4294967296 + f * 1099511627776 + g * 281474976710656 + h * 72057594037927936) ≡ a ∷ b ∷ c ∷ d ∷ e ∷ f ∷ g ∷ h ∷ []
unfolding le
digits_of a b c d e f g h ha hb hc hd he hf hg hh =
    let x = a + b * 256 + c * 65536 + d * 16777216 + e * 4294967296 + f * 1099511627776 + g * 281474976710656 + h * 72057594037927936 in
    let d0 : x % 256 ≡ a = omega arith in
    let q1 : x / 256 ≡ b + c * 256 + d * 65536 + e * 16777216 + f * 4294967296 + g * 1099511627776 + h * 281474976710656 = omega arith in
    let m1 : (b + c * 256 + d * 65536 + e * 16777216 + f * 4294967296 + g * 1099511627776 + h * 281474976710656) % 256 ≡ b = omega arith in
    let d1 : x / 256 % 256 ≡ b = ap (λ t. t % 256) q1 ∙ m1 in
    let q2 : x / 65536 ≡ c + d * 256 + e * 65536 + f * 16777216 + g * 4294967296 + h * 1099511627776 = omega arith in
    let m2 : (c + d * 256 + e * 65536 + f * 16777216 + g * 4294967296 + h * 1099511627776) % 256 ≡ c = omega arith in
    let d2 : x / 65536 % 256 ≡ c = ap (λ t. t % 256) q2 ∙ m2 in
    let q3 : x / 16777216 ≡ d + e * 256 + f * 65536 + g * 16777216 + h * 4294967296 = omega arith in
    let m3 : (d + e * 256 + f * 65536 + g * 16777216 + h * 4294967296) % 256 ≡ d = omega arith in
    let d3 : x / 16777216 % 256 ≡ d = ap (λ t. t % 256) q3 ∙ m3 in
    let q4 : x / 4294967296 ≡ e + f * 256 + g * 65536 + h * 16777216 = omega arith in
    let m4 : (e + f * 256 + g * 65536 + h * 16777216) % 256 ≡ e = omega arith in
    let d4 : x / 4294967296 % 256 ≡ e = ap (λ t. t % 256) q4 ∙ m4 in
    let q5 : x / 1099511627776 ≡ f + g * 256 + h * 65536 = omega arith in
    let m5 : (f + g * 256 + h * 65536) % 256 ≡ f = omega arith in
    let d5 : x / 1099511627776 % 256 ≡ f = ap (λ t. t % 256) q5 ∙ m5 in
    let q6 : x / 281474976710656 ≡ g + h * 256 = omega arith in
    let m6 : (g + h * 256) % 256 ≡ g = omega arith in
    let d6 : x / 281474976710656 % 256 ≡ g = ap (λ t. t % 256) q6 ∙ m6 in
    let q7 : x / 72057594037927936 ≡ h = omega arith in
    let m7 : (h) % 256 ≡ h = omega arith in
    let d7 : x / 72057594037927936 % 256 ≡ h = ap (λ t. t % 256) q7 ∙ m7 in
    cc

pub same_record : (r s : Record) → r.key ≡ s.key → r.a ≡ s.a → r.b ≡ s.b → r.kind ≡ s.kind → r ≡ s
same_record r s e f g h =
    let m : (k a b t : ℕ) → Record = λ k a b t. record { key = k; a = a; b = b; kind = t } in
    ap (λ x. m x r.a r.b r.kind) e ∙ ap (λ x. m s.key x r.b r.kind) f ∙ ap (λ x. m s.key s.a x r.kind) g ∙ ap (m s.key s.a s.b) h

pub same_trailer : (s t : Trailer) → s.distance ≡ t.distance → s.cap ≡ t.cap → s ≡ t
same_trailer s t e f =
    let m : (d c : ℕ) → Trailer = λ d c. record { distance = d; cap = c } in
    ap (λ x. m x s.cap) e ∙ ap (m t.distance) f

pub word_le : (x : ℕ) → x < 2 ^ 64 → word_at (le x) 0 ≡ x
unfolding word_at le
word_le x h = digits x h

pub record_read_back : (r : Record) → FitsRecord r → decoded (encoded r) ≡ r
unfolding word_at le
record_read_back r f = same_record _ r (digits r.key f.key_fits) (digits r.a f.a_fits) (digits r.b f.b_fits) (digits r.kind f.kind_fits)

pub trailer_read_back : (t : Trailer) → FitsTrailer t → trailer_decoded (trailer_encoded t) ≡ t
unfolding word_at le
trailer_read_back t f = same_trailer _ t (digits t.distance f.distance_fits) (digits t.cap f.cap_fits)

pub length_encoded : (r : Record) → length (encoded r) ≡ 32
unfolding le
length_encoded r = refl

pub length_trailer : (t : Trailer) → length (trailer_encoded t) ≡ 16
unfolding le
length_trailer t = refl

-- eight bytes, one by one
eight : (l : List ℕ) → length l ≡ 8 → l ≡ get_or l 0 0 ∷ get_or l 1 0 ∷ get_or l 2 0 ∷ get_or l 3 0 ∷ get_or l 4 0 ∷ get_or l 5 0 ∷ get_or l 6 0 ∷ get_or l 7 0 ∷ []
eight [] e = absurd (omega arith)
eight (a ∷ []) e = absurd (omega arith)
eight (a ∷ b ∷ []) e = absurd (omega arith)
eight (a ∷ b ∷ c ∷ []) e = absurd (omega arith)
eight (a ∷ b ∷ c ∷ d ∷ []) e = absurd (omega arith)
eight (a ∷ b ∷ c ∷ d ∷ f ∷ []) e = absurd (omega arith)
eight (a ∷ b ∷ c ∷ d ∷ f ∷ g ∷ []) e = absurd (omega arith)
eight (a ∷ b ∷ c ∷ d ∷ f ∷ g ∷ h ∷ []) e = absurd (omega arith)
eight (a ∷ b ∷ c ∷ d ∷ f ∷ g ∷ h ∷ i ∷ []) e = refl
eight (a ∷ b ∷ c ∷ d ∷ f ∷ g ∷ h ∷ i ∷ j ∷ l) e = absurd (omega arith)

pub word_written_back : (bs : List ℕ) (o : ℕ) → Bytes bs → o + 8 ≤ length bs → le (word_at bs o) ≡ take 8 (drop o bs)
unfolding word_at
word_written_back bs o hb hl =
    let l = take 8 (drop o bs) in
    let n : length l ≡ 8 = length-take-le 8 (drop o bs) (let d = length-drop o bs in omega arith) in
    let at : (i : ℕ) → i < 8 → get_or l i 0 ≡ get_or bs (o + i) 0 = λ i h. get_or-take 8 (drop o bs) i 0 h ∙ get_or-drop o bs i 0 in
    let e0 : get_or l 0 0 ≡ get_or bs o 0 = at 0 (omega arith) ∙ ap (λ m. get_or bs m 0) (add-zero o) in
    let e1 = at 1 (omega arith) in
    let e2 = at 2 (omega arith) in
    let e3 = at 3 (omega arith) in
    let e4 = at 4 (omega arith) in
    let e5 = at 5 (omega arith) in
    let e6 = at 6 (omega arith) in
    let e7 = at 7 (omega arith) in
    let w = eight l n in
    let d = digits_of (get_or bs o 0) (get_or bs (o + 1) 0) (get_or bs (o + 2) 0) (get_or bs (o + 3) 0) (get_or bs (o + 4) 0) (get_or bs (o + 5) 0) (get_or bs (o + 6) 0) (get_or bs (o + 7) 0)
    (hb o) (hb (o + 1)) (hb (o + 2)) (hb (o + 3)) (hb (o + 4)) (hb (o + 5)) (hb (o + 6)) (hb (o + 7)) in
    cc

pub word_fits : (bs : List ℕ) (o : ℕ) → Bytes bs → word_at bs o < 2 ^ 64
unfolding word_at
word_fits bs o h =
    let a = h o in let b = h (o + 1) in let c = h (o + 2) in let d = h (o + 3) in let e = h (o + 4) in let f = h (o + 5) in let g = h (o + 6) in let i = h (o + 7) in
    omega arith

-- a list in parts of eight
next_eight : (ws : List ℕ) (k : ℕ) → take 8 (drop k ws) ++ drop (k + 8) ws ≡ drop k ws
next_eight ws k = ap (λ z. take 8 (drop k ws) ++ z) (sym (drop-drop 8 k ws)) ∙ take-append-drop 8 (drop k ws)

last_eight : (ws : List ℕ) (k : ℕ) → length ws ≡ k + 8 → take 8 (drop k ws) ≡ drop k ws
last_eight ws k e = take_all 8 (drop k ws) (let d = length-drop k ws in omega arith)

pub trailer_written_back : (ws : List ℕ) → Bytes ws → length ws ≡ 16 → trailer_encoded (trailer_decoded ws) ≡ ws
trailer_written_back ws h e =
    ap (λ z. z ++ le (word_at ws 8)) (word_written_back ws 0 h (omega arith))
    ∙ ap (λ z. take 8 (drop 0 ws) ++ z) (word_written_back ws 8 h (omega arith) ∙ last_eight ws 8 (omega arith))
    ∙ next_eight ws 0

pub record_written_back : (ws : List ℕ) → Bytes ws → length ws ≡ 32 → encoded (decoded ws) ≡ ws
record_written_back ws h e =
    let w0 = word_written_back ws 0 h (omega arith) in
    let w1 = word_written_back ws 8 h (omega arith) in
    let w2 = word_written_back ws 16 h (omega arith) in
    let w3 = word_written_back ws 24 h (omega arith) ∙ last_eight ws 24 (omega arith) in
    let t2 : le (word_at ws 16) ++ le (word_at ws 24) ≡ drop 16 ws = ap (λ z. le (word_at ws 16) ++ z) w3 ∙ ap (λ z. z ++ drop 24 ws) w2 ∙ next_eight ws 16 in
    let t1 : le (word_at ws 8) ++ (le (word_at ws 16) ++ le (word_at ws 24)) ≡ drop 8 ws = ap (λ z. le (word_at ws 8) ++ z) t2 ∙ ap (λ z. z ++ drop 16 ws) w1 ∙ next_eight ws 8 in
    ap (λ z. le (word_at ws 0) ++ z) t1 ∙ ap (λ z. z ++ drop 8 ws) w0 ∙ next_eight ws 0

pub codec_laws : CodecLaws
codec_laws =
    record {
      word_read_back = word_le;
      word_written_back = word_written_back;
      record_read_back = record_read_back;
      record_written_back = record_written_back;
      trailer_read_back = trailer_read_back;
      trailer_written_back = trailer_written_back;
    }

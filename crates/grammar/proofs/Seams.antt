-- Where a line of words stops, from where its words do.
use Rattle.std.proofs.Common.{◌≡◌, ℕ, zero, suc, ◌+◌, ◌<◌, ◌≤◌, Bool, true, not, ◌&&◌, eqb, List, [], ◌∷◌, ◌++◌, length, get_or, take, drop, codes, decimal, sym, refl, ap, ◌∙◌, subst, inl, inr, ⊎_elim, append_assoc, add-one, arith, length-append}
use lib.Seq.{take-append-add}
use Rattle.std.specs.Str.Parse.{AllDigits}
use Rattle.std.proofs.lemmas.Str.Parse.{digit_from_value}
use Rattle.std.proofs.lemmas.Fmt.{digits_decimal}
use Rattle.std.proofs.lemmas.Bool.{cases_lt, eqb-false, and_parts, not-true}
use Rattle.std.proofs.lemmas.List.{take-append-le, length-take-le}
use Rattle.grammar.specs.Languages.{Begins, Stops, OneOf}
use Rattle.grammar.specs.Spelling.{states, policies, kinds, verbs, keywords}
use Rattle.grammar.specs.Slots.{Slot, number, state, policy, kind, verb, keyword, In, Edge, Spaceless, Tail, Reads, Misfit}
use Rattle.grammar.proofs.Numbers.{own}

clash : {A : Type 0} (c : ℕ) (l : List ℕ) → ◌≡◌ {A = List ℕ} [] (c ∷ l) → A
clash c l e = let z : ◌≡◌ {A = ℕ} 0 1 = cc in absurd (omega arith)

-- a text is cut in one way only into a word and what follows it
pub split_same : (w v s t : List ℕ) → Spaceless w → Spaceless v → Edge s → Edge t → w ++ s ≡ v ++ t → (w ≡ v) × (s ≡ t)
split_same [] [] s t a b p q e = (refl, e)
split_same [] (d ∷ v) [] t a b p q e = clash d (v ++ t) e
split_same [] (d ∷ v) (c ∷ s) t a b p q e = let h : c ≡ d = cc in absurd (b.0 (sym h ∙ p))
split_same (c ∷ w) [] s [] a b p q e = clash c (w ++ s) (sym e)
split_same (c ∷ w) [] s (d ∷ t) a b p q e = let h : c ≡ d = cc in absurd (a.0 (h ∙ q))
split_same (c ∷ w) (d ∷ v) s t a b p q e =
    let h : c ≡ d = cc in
    let r : w ++ s ≡ v ++ t = cc in
    let (same, rest) = split_same w v s t a.1 b.1 p q r in
    ((λ i. h i ∷ same i), rest)

-- bytes without a space that begin a text begin its first word
split_front : (p v s t : List ℕ) → Spaceless p → Edge t → p ++ s ≡ v ++ t → (r : List ℕ) × (v ≡ p ++ r)
split_front [] v s t a q e = (v, refl)
split_front (c ∷ p) [] s [] a q e = clash c (p ++ s) (sym e)
split_front (c ∷ p) [] s (d ∷ t) a q e = let h : c ≡ d = cc in absurd (a.0 (h ∙ q))
split_front (c ∷ p) (d ∷ v) s t a q e =
    let h : c ≡ d = cc in
    let r : p ++ s ≡ v ++ t = cc in
    let (more, same) = split_front p v s t a.1 q r in
    (more, λ i. sym h i ∷ same i)

spaceless_take : (k : ℕ) (w : List ℕ) → Spaceless w → Spaceless (take k w)
spaceless_take zero w h = tt
spaceless_take (suc k) [] h = tt
spaceless_take (suc k) (c ∷ w) h = (h.0, spaceless_take k w h.1)

edge_take : (k : ℕ) (t rest : List ℕ) → 0 < length t → Edge t → Edge (take (k + 1) t ++ rest)
edge_take k [] rest some h = absurd (omega arith)
edge_take k (c ∷ t) rest some h = rw add-one h

-- a word of A, and then what T lets follow it
abbrev pub After : (List ℕ → Type 0) → (List ℕ → List ℕ → Type 0) → List ℕ → Type 0
After A T l = (w : List ℕ) × (t : List ℕ) × (l ≡ w ++ t) × A w × T w t

module _ (A : List ℕ → Type 0) (T : List ℕ → List ℕ → Type 0) (word : (w : List ℕ) → A w → Spaceless w) (edge : (w t : List ℕ) → T w t → Edge t) where
  -- the word stands, and what follows it stops
  pub after_more : (w t : List ℕ) (k : ℕ) → A w → Edge t → Stops (T w) t k → Stops (After A T) (w ++ t) (length w + k)
  after_more w t k a q h = record {
    within = simp length-append (omega (arith, h.within));
    begins = let (rest, b) = h.begins in subst (Begins (After A T)) (sym (take-append-add w t k)) (rest, (w, take k t ++ rest, append_assoc w (take k t) rest, a, b));
    leaves = λ lt b.
        let long = length-append w t in
        let (rest, (v, s, e, a2, b2)) = subst (Begins (After A T)) (ap (λ n. take n (w ++ t)) (omega arith) ∙ take-append-add w t (k + 1)) b in
        let (same, tail) = split_same w v (take (k + 1) t ++ rest) s (word w a) (word v a2) (edge_take k t rest (omega arith) q) (edge v s b2) (sym (append_assoc w (take (k + 1) t) rest) ∙ e) in
        h.leaves (omega arith) (rest, subst (λ x. T w x) (sym tail) (subst (λ x. T x s) (sym same) b2));
    none = λ (v, s, e, a2, b2).
        let (same, tail) = split_same w v t s (word w a) (word v a2) q (edge v s b2) e in
        h.none (subst (λ x. T w x) (sym tail) (subst (λ x. T x s) (sym same) b2));
  }

  -- the word does not stand
  pub after_fault : (live : (w : List ℕ) → A w → (t : List ℕ) × T w t) (w t : List ℕ) (k : ℕ) → Spaceless w → Edge t → Stops A w k → Stops (After A T) (w ++ t) k
  after_fault live w t k a q h = record {
    within = simp length-append (omega (arith, h.within));
    begins =
        let (rest, b) = h.begins in
        let (s, more) = live (take k w ++ rest) b in
        subst (Begins (After A T)) (sym (take-append-le k w t h.within)) (rest ++ s, (take k w ++ rest, s, sym (append_assoc (take k w) rest s), b, more));
    leaves = λ lt b.
        ⊎_elim
        (λ (inside : k < length w).
        let (rest, (v, s, e, a2, b2)) = subst (Begins (After A T)) (take-append-le (k + 1) w t (omega arith)) b in
        let (r, same) = split_front (take (k + 1) w) v rest s (spaceless_take (k + 1) w a) (edge v s b2) e in
        h.leaves inside (r, subst A same a2))
        (λ (past : length w ≤ k).
        let long = length-append w t in
        let within = h.within in
        let (rest, (v, s, e, a2, b2)) = subst (Begins (After A T)) (ap (λ n. take n (w ++ t)) (omega arith) ∙ take-append-add w t (0 + 1)) b in
        let (same, tail) = split_same w v (take (0 + 1) t ++ rest) s a (word v a2) (edge_take 0 t rest (omega arith) q) (edge v s b2) (sym (append_assoc w (take (0 + 1) t) rest) ∙ e) in
        h.none (subst A (sym same) a2))
        (cases_lt k (length w));
    none = λ (v, s, e, a2, b2).
        let (same, tail) = split_same w v t s a (word v a2) q (edge v s b2) e in
        h.none (subst A (sym same) a2);
  }

-- one language for another that says the same
pub stops_same : (L M : List ℕ → Type 0) (l : List ℕ) (k : ℕ) → ((x : List ℕ) → L x → M x) → ((x : List ℕ) → M x → L x) → Stops L l k → Stops M l k
stops_same L M l k to from h = record {
  within = h.within;
  begins = let (rest, b) = h.begins in (rest, to _ b);
  leaves = λ lt (rest, b). h.leaves lt (rest, from _ b);
  none = λ m. h.none (from l m);
}

-- a byte before
pub stops_cons : (L : List ℕ → Type 0) (c : ℕ) (l : List ℕ) (k : ℕ) → Stops (λ x. L (c ∷ x)) l k → Stops L (c ∷ l) (k + 1)
stops_cons L c l k h = record {
  within = omega (arith, h.within);
  begins = rw add-one h.begins;
  leaves = λ lt b. h.leaves (omega arith) (rw (add-one (k + 1)) at b);
  none = h.none;
}

-- a list's own test, which computes on a word that is written out
abbrev spaces : List ℕ → Bool
spaces [] = true
spaces (c ∷ l) = not (eqb c 32) && spaces l

pub spaceless_word : (w : List ℕ) → spaces w ≡ true → Spaceless w
spaceless_word [] h = tt
spaceless_word (c ∷ w) h = (eqb-false c 32 (not-true _ (and_parts _ _ h).0), spaceless_word w (and_parts _ _ h).1)

abbrev all_spaceless : List (List ℕ) → Bool
all_spaceless [] = true
all_spaceless (w ∷ ws) = spaces w && all_spaceless ws

pub spaceless_digits : (w : List ℕ) → AllDigits 10 w → Spaceless w
spaceless_digits [] d = tt
spaceless_digits (c ∷ w) d = (λ e. let h = digit_from_value c d.0 in omega arith, spaceless_digits w d.1)

pub each_spaceless : (ws : List (List ℕ)) → all_spaceless ws ≡ true → (w : List ℕ) → OneOf ws w → Spaceless w
each_spaceless [] h w o = absurd o
each_spaceless (a ∷ ws) h w (inl e) = subst Spaceless (sym e) (spaceless_word a (and_parts _ _ h).0)
each_spaceless (a ∷ ws) h w (inr o) = each_spaceless ws (and_parts _ _ h).1 w o

pub slot_spaceless : (s : Slot) (w : List ℕ) → In s w → Spaceless w
slot_spaceless number w (n, h, e) = subst Spaceless (sym e) (spaceless_digits (decimal n) (digits_decimal own n h))
slot_spaceless state w o = each_spaceless states refl w o
slot_spaceless policy w o = each_spaceless policies refl w o
slot_spaceless kind w o = each_spaceless kinds refl w o
slot_spaceless verb w o = each_spaceless verbs refl w o
slot_spaceless keyword w o = each_spaceless keywords refl w o

slot_live : (s : Slot) → (w : List ℕ) × In s w
slot_live number = (decimal 0, (0, omega arith, refl))
slot_live state = (codes "valid", inl refl)
slot_live policy = (codes "rendezvous", inl refl)
slot_live kind = (codes "table", inl refl)
slot_live verb = (codes "cal", inl refl)
slot_live keyword = (codes "cluster", inl refl)

pub tail_live : (ss : List Slot) → (t : List ℕ) × Tail ss t
tail_live [] = ([], refl)
tail_live (s ∷ ss) =
    let (w, a) = slot_live s in
    let (t, b) = tail_live ss in
    (32 ∷ (w ++ t), (w, t, refl, a, b))

pub tail_edge : (ss : List Slot) (t : List ℕ) → Tail ss t → Edge t
tail_edge [] t e = subst Edge (sym e) tt
tail_edge (s ∷ ss) t (w, r, e, a, b) = subst Edge (sym e) refl

abbrev Word : Slot → List Slot → List ℕ → Type 0
Word s ss l = After (In s) (λ _. Tail ss) l

tail_to : (s : Slot) (ss : List Slot) (l : List ℕ) → Word s ss l → Tail (s ∷ ss) (32 ∷ l)
tail_to s ss l (w, t, e, a, b) = (w, t, ap (λ x. 32 ∷ x) e, a, b)

tail_from : (s : Slot) (ss : List Slot) (l : List ℕ) → Tail (s ∷ ss) (32 ∷ l) → Word s ss l
tail_from s ss l (w, t, e, a, b) = let r : l ≡ w ++ t = cc in (w, t, r, a, b)

tail_stops : (s : Slot) (ss : List Slot) (l : List ℕ) (k : ℕ) → Stops (Word s ss) l k → Stops (Tail (s ∷ ss)) (32 ∷ l) (k + 1)
tail_stops s ss l k h = stops_cons (Tail (s ∷ ss)) 32 l k (stops_same (Word s ss) (λ x. Tail (s ∷ ss) (32 ∷ x)) l k (tail_to s ss) (tail_from s ss) h)

-- the word stands, and what follows it stops
pub tail_more : (s : Slot) (ss : List Slot) (line : List ℕ) (i j : ℕ) (w : List ℕ) (column : ℕ) → Reads line i j w → In s w → (now : List ℕ) → now ≡ line → Misfit ss now j column → Misfit (s ∷ ss) line i column
tail_more s ss line i j w column r a now same g = let h = subst (λ l. Misfit ss l j column) same g in record {
  far = length w + h.far + 1;
  at = omega (arith, h.at, r.moved);
  stops = subst (λ l. Stops (Tail (s ∷ ss)) l (length w + h.far + 1)) (sym r.word) (tail_stops s ss (w ++ drop j line) (length w + h.far)
      (after_more (In s) (λ _. Tail ss) (slot_spaceless s) (λ _. tail_edge ss) w (drop j line) h.far a r.edge h.stops));
}

-- the word does not
pub tail_miss : (s : Slot) (ss : List Slot) (line : List ℕ) (i j : ℕ) (w : List ℕ) (k column : ℕ) → Reads line i j w → Spaceless w → Stops (In s) w k → column ≡ i + 2 + k → Misfit (s ∷ ss) line i column
tail_miss s ss line i j w k column r plain h e = record {
  far = k + 1;
  at = omega arith;
  stops = subst (λ l. Stops (Tail (s ∷ ss)) l (k + 1)) (sym r.word) (tail_stops s ss (w ++ drop j line) k
      (after_fault (In s) (λ _. Tail ss) (slot_spaceless s) (λ _. tail_edge ss) (λ _ _. tail_live ss) w (drop j line) k plain r.edge h));
}

-- there is no space where one has to be
pub tail_gap : (s : Slot) (ss : List Slot) (line : List ℕ) (i column : ℕ) → (get_or (drop i line) 0 0 ≡ 32 → ⊥) → column ≡ i + 1 → Misfit (s ∷ ss) line i column
tail_gap s ss line i column other e = record {
  far = 0;
  at = omega arith;
  stops = at_gap (drop i line) other;
}
  where
    at_gap : (l : List ℕ) → (get_or l 0 0 ≡ 32 → ⊥) → Stops (Tail (s ∷ ss)) l 0
    at_gap l other = record {
      within = omega arith;
      begins = tail_live (s ∷ ss);
      leaves = λ lt (rest, (w, t, e, a, b)). other (leads l rest (w ++ t) (omega arith) e);
      none = λ (w, t, e, a, b). other (ap (λ x. get_or x 0 0) e);
    }
      where
        leads : (l rest m : List ℕ) → 0 < length l → take (0 + 1) l ++ rest ≡ 32 ∷ m → get_or l 0 0 ≡ 32
        leads [] rest m h e = absurd (omega arith)
        leads (c ∷ l) rest m h e = ap (λ x. get_or x 0 0) e

-- there is more where the line has to end
pub tail_end : (line : List ℕ) (i column : ℕ) → 0 < length (drop i line) → column ≡ i + 1 → Misfit [] line i column
tail_end line i column some e = record {
  far = 0;
  at = omega arith;
  stops = record {
    within = omega arith;
    begins = ([], refl);
    leaves = λ lt (rest, b). let n = ap length b in let m = length-append (take (0 + 1) (drop i line)) rest in let t = length-take-le (0 + 1) (drop i line) (omega arith) in omega arith;
    none = λ b. let n = ap length b in omega arith;
  };
}

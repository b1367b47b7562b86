-- An opening over lent stores: it finds them empty, and they hold the empty map.
use Rattle.std.proofs.Common.{◌≡◌, ℕ, zero, suc, ◌+◌, ◌≤◌, true, false, ◌&&◌, leb, List, [], ◌∷◌, length, get_or, Some, None, Ok, Err, Option, sym, refl, ap, ◌∙◌, subst, inl, inr, arith}
use Rattle.std.proofs.lemmas.Bool.Decides.{nat_tests}
use Rattle.std.proofs.lemmas.Bool.{cases_Bool, cond-true, cond-false, and_parts, leb-true}
use Rattle.std.proofs.lemmas.List.{length-map, nil_from_length}
use lib.ListN.{get_or-map}
use Rattle.placement.specs.Laws.{Rule}
use Rattle.placement.proofs.Holding.{count_up_rostered}
use Rattle.store.specs.Meaning.{Meaning, nothing}
use Rattle.store.specs.Stores.{nth}
use Rattle.machine.specs.declared.fault.Fault.{Fault}
use Rattle.machine.specs.declared.fault.Fault.TheVariants.{BeyondLimit}
use Rattle.machine.specs.OneMap as one
use Rattle.machine.specs.OneMap.{within_limits, fresh, fresh_book}
use Rattle.machine.specs.Lent as lent
use Rattle.machine.specs.Lent.{Lent, first_holding, open_unless}
use Rattle.machine.specs.Holds.{Holds, Empty, caps_of, OpensAlike}

cap_at : (st : List Meaning) (s : ℕ) → (nth st s).cap ≡ get_or (caps_of st) s 0
cap_at st s = sym (get_or-map (λ (x : Meaning). x.cap) st s nothing)

pub caps_length : (st : List Meaning) → length (caps_of st) ≡ length st
caps_length st = length-map st (λ (x : Meaning). x.cap)

-- the limits, one by one
pub record Limits (p : Rule) (n m r : ℕ) : Type 0 where
  pub some_stores : 1 ≤ n
  pub few_stores : n ≤ 16
  pub some_members : 1 ≤ m
  pub few_members : m ≤ n
  pub some_copies : 1 ≤ r
  pub few_copies : r ≤ p.greatest

pub limits_of : (p : Rule) (n m r : ℕ) → within_limits p n m r ≡ true → Limits p n m r
limits_of p n m r e =
    let a = and_parts (leb 1 n && leb n 16) ((leb 1 m && leb m n) && (leb 1 r && leb r p.greatest)) e in
    let b = and_parts (leb 1 n) (leb n 16) a.0 in
    let c = and_parts (leb 1 m && leb m n) (leb 1 r && leb r p.greatest) a.1 in
    let d = and_parts (leb 1 m) (leb m n) c.0 in
    let f = and_parts (leb 1 r) (leb r p.greatest) c.1 in
    record {
      some_stores = leb-true 1 n b.0;
      few_stores = leb-true n 16 b.1;
      some_members = leb-true 1 m d.0;
      few_members = leb-true m n d.1;
      some_copies = leb-true 1 r f.0;
      few_copies = leb-true r p.greatest f.1;
    }

-- no store holds a pair exactly where all are empty
pub none_holding : (st : List Meaning) (i : ℕ) → first_holding i st ≡ None → Empty st
none_holding [] i e s = refl
none_holding (x ∷ st) i e zero = nil_from_length x.pairs (grind (arith, nat_tests))
none_holding (x ∷ st) i e (suc s) = none_holding st (i + 1) (grind (arith, nat_tests)) s

pub empty_none_holding : (st : List Meaning) (i : ℕ) → Empty st → first_holding i st ≡ None
empty_none_holding [] i e = refl
empty_none_holding (x ∷ st) i e =
    let a : length x.pairs ≡ 0 = ap length (e 0) in
    let ih : first_holding (i + 1) st ≡ None = empty_none_holding st (i + 1) (λ s. e (suc s)) in
    grind (arith, nat_tests)

fresh_holds : (p : Rule) (st : List Meaning) (m r : ℕ) → Limits p (length st) m r → Empty st →
    Holds p (fresh (caps_of st) m r) (record { stores = st; book = fresh_book (length st) m r })
fresh_holds p st m r ok empty = record {
  book = ap (λ (n : ℕ). fresh_book n m r) (sym (caps_length st));
  count = sym (caps_length st);
  pairs = λ s l. empty s;
  caps = λ s l. cap_at st s;
  ordered = tt;
  sound = record {
    stores = refl;
    few = let a : length st ≤ 16 = ok.few_stores in omega (arith, caps_length st);
    roster = count_up_rostered m (length (caps_of st)) ok.some_members (let a : m ≤ length st = ok.few_members in omega (arith, caps_length st));
    change = tt;
  };
}

module _ (p : Rule) (st : List Meaning) (m r : ℕ) where
  one_opening_is : within_limits p (length st) m r ≡ true → one.opening p (caps_of st) m r ≡ Ok (fresh (caps_of st) m r)
  one_opening_is w = cond-true (within_limits p (length (caps_of st)) m r) _ _ (ap (λ (n : ℕ). within_limits p n m r) (caps_length st) ∙ w)

  -- an accepted opening kept the limits and found no pair
  pub record Accepted (l : Lent) : Type 0 where
    pub within : within_limits p (length st) m r ≡ true
    pub none : first_holding 0 st ≡ None
    pub is : l ≡ record { stores = st; book = fresh_book (length st) m r }

  pub accepted : (l : Lent) → lent.opening p st m r ≡ Ok l → Accepted l
  accepted l e = elim (cases_Bool (within_limits p (length st) m r)) [
    | inl t ↦ go (first_holding 0 st) refl (sym (cond-true (within_limits p (length st) m r) _ _ t) ∙ e) t
    | inr t ↦ absurd (let f : Err BeyondLimit ≡ Ok l = sym (cond-false (within_limits p (length st) m r) _ _ t) ∙ e in let z : ◌≡◌ {A = ℕ} 0 1 = cc in omega arith)
  ]
    where
      go : (x : Option ℕ) → first_holding 0 st ≡ x → open_unless x st m r ≡ Ok l → within_limits p (length st) m r ≡ true → Accepted l
      go None q f t = record { within = t; none = q; is = cc }
      go (Some s) q f t = absurd (let z : ◌≡◌ {A = ℕ} 0 1 = cc in omega arith)

  pub opening_holds : (l : Lent) → lent.opening p st m r ≡ Ok l → Empty st × OpensAlike p st m r l
  opening_holds l e =
      let a = accepted l e in
      let empty : Empty st = none_holding st 0 a.none in (
        empty,
        record {
          alike = one_opening_is a.within;
          holds = subst (λ (x : Lent). Holds p (fresh (caps_of st) m r) x) (sym a.is) (fresh_holds p st m r (limits_of p (length st) m r a.within) empty);
        },
      )

  -- over empty stores an opening is refused as the machine's is
  pub empty_refused : Empty st → (f : Fault) → lent.opening p st m r ≡ Err f → (within_limits p (length st) m r ≡ false) × (f ≡ BeyondLimit)
  empty_refused empty f e = elim (cases_Bool (within_limits p (length st) m r)) [
    | inl t ↦ absurd (let q : open_unless (first_holding 0 st) st m r ≡ Err f = sym (cond-true (within_limits p (length st) m r) _ _ t) ∙ e in
        let u : open_unless None st m r ≡ Err f = ap (λ (x : Option ℕ). open_unless x st m r) (sym (empty_none_holding st 0 empty)) ∙ q in
        let z : ◌≡◌ {A = ℕ} 0 1 = cc in omega arith)
    | inr t ↦ (t, let q : Err BeyondLimit ≡ Err f = sym (cond-false (within_limits p (length st) m r) _ _ t) ∙ e in cc)
  ]

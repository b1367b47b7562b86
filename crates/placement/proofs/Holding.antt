-- Rosters: what their type keeps, and what their calls make of the list.
use Rattle.std.proofs.Common.{◌≡◌, ℕ, zero, suc, ◌+◌, ◌<◌, ◌≤◌, true, false, cond, ◌&&◌, eqb, ltb, leb, List, [], ◌∷◌, ◌++◌, length, take, is_some, Some, None, Ok, Err, Option, sym, refl, ap, ◌∙◌, subst, inl, inr, arith, length-append}
use Rattle.std.specs.List.{AllByRecursion, list_any, position}
use Rattle.std.specs.Option.{option_map}
use Rattle.std.proofs.lemmas.Bool.Decides.{nat_tests}
use Rattle.std.proofs.lemmas.Bool.{cases_Bool, cond_both, cond-true, cond-false, lt-ltb}
use Rattle.lists.specs.Numbers.{member, place_of, all_distinct, without, count_up}
use Rattle.lists.proofs.Members.{member_append, without_distinct, without_in, without_length, push_distinct, pigeons, count_up_member, count_up_high, count_up_distinct, length_count_up, distinct_from_test, test_from_distinct}
use Rattle.placement.specs.declared.roster.Roster.{Roster}
use Rattle.placement.specs.declared.roster.RosterFault.TheVariants.{OnlyMember, NotAMember}
use Rattle.placement.specs.Packing.{unpack, cut}
use Rattle.placement.specs.Laws.{Rostered}
use Rattle.placement.specs.Rosters.{members, first_of, with_store, without_store}
use Rattle.placement.proofs.Digits.{length_unpack, take_unpack, unpack_small}

pub push_roster : (n : ℕ) (R : List ℕ) (s : ℕ) → Rostered n R → member s R ≡ false → s < n → Rostered n (R ++ s ∷ [])
push_roster n R s r m l = record {
  distinct = push_distinct R s r.distinct m;
  below = λ x i. let a = member_append x R (s ∷ []) in
      elim (cases_Bool (member x R)) [ inl t ↦ r.below x t | inr t ↦ let e : s ≡ x = grind (arith, nat_tests) in omega arith ];
  some = simp length-append (omega arith);
}

pub without_roster : (n : ℕ) (R : List ℕ) (s : ℕ) → Rostered n R → member s R ≡ true → 2 ≤ length R → Rostered n (without s R)
without_roster n R s r m l = record {
  distinct = without_distinct s R r.distinct;
  below = λ x i. r.below x (without_in s x R i);
  some = omega (arith, without_length s R m);
}

pub count_up_rostered : (m n : ℕ) → 1 ≤ m → m ≤ n → Rostered n (count_up 0 m)
count_up_rostered m n p q = record {
  distinct = count_up_distinct m 0;
  below = λ s h. let b : s < 0 + m = count_up_high m 0 s h in omega arith;
  some = let e = length_count_up m 0 in omega arith;
}

-- a roster has no more members than there are stores
pub rostered_few : (n : ℕ) (R : List ℕ) → Rostered n R → length R ≤ n
rostered_few n R r =
    let p : length R ≤ length (count_up 0 n) = pigeons R (count_up 0 n) r.distinct (λ x h. let b : x < n = r.below x h in count_up_member n 0 x (omega arith) (omega arith)) in
    let e = length_count_up n 0 in omega arith

pub rostered_push_few : (n : ℕ) (R : List ℕ) (s : ℕ) → Rostered n R → member s R ≡ false → s < n → length R < n
rostered_push_few n R s r m l =
    let p : length (R ++ s ∷ []) ≤ n = rostered_few n (R ++ s ∷ []) (push_roster n R s r m l) in
    omega (arith, length-append R (s ∷ []))

pub roster_more : (n : ℕ) (R : List ℕ) → n ≤ 16 → Rostered n R → Rostered 16 R
roster_more n R h r = record { distinct = r.distinct; below = λ s m. let b : s < n = r.below s m in omega arith; some = r.some }

pub members_rostered : (r : Roster) → Rostered r.stores (members r)
unfolding members
members_rostered r = record {
  distinct = distinct_from_test (unpack r.word r.len) r.distinct;
  below = r.below;
  some = let l = length_unpack r.word r.len in let s : 1 ≤ r.len = r.some in omega arith;
}

pub length_members : (r : Roster) → length (members r) ≡ r.len
unfolding members
length_members r = length_unpack r.word r.len

pub members_small : (r : Roster) → AllByRecursion (λ s. s < 16) (members r)
unfolding members
members_small r = unpack_small r.word r.len

-- the facts in a roster's ghost fields, from what its word lists
abbrev pub Kept : ℕ → ℕ → ℕ → Type 0
Kept word len n = record {
  few : n ≤ 16;
  some : 1 ≤ len;
  fits : len ≤ 16;
  distinct : all_distinct (unpack word len) ≡ true;
  below : (s : ℕ) → member s (unpack word len) ≡ true → s < n;
}

pub kept : (word len n : ℕ) (S : List ℕ) → n ≤ 16 → unpack word len ≡ S → Rostered n S → Kept word len n
kept word len n S few e h =
    let l : len ≡ length S = sym (length_unpack word len) ∙ ap length e in
    let some : 1 ≤ length S = h.some in
    let most : length S ≤ n = rostered_few n S h in
    record {
      few = few;
      some = omega arith;
      fits = omega arith;
      distinct = subst (λ (L : List ℕ). all_distinct L ≡ true) (sym e) (test_from_distinct S h.distinct);
      below = subst (λ (L : List ℕ). (s : ℕ) → member s L ≡ true → s < n) (sym e) h.below;
    }

-- places and members
pub some_mapped : (o : Option ℕ) → is_some (option_map (λ i. i + 1) o) ≡ is_some o
some_mapped None = refl
some_mapped (Some i) = refl

pub place_member : (s : ℕ) (l : List ℕ) → is_some (place_of s l) ≡ member s l
place_member s [] = refl
place_member s (x ∷ l) =
    let ih : is_some (place_of s l) ≡ member s l = place_member s l in
    let m = some_mapped (place_of s l) in
    cond_both (eqb x s) (Some 0) (option_map (λ i. i + 1) (place_of s l)) (λ o. is_some o ≡ cond (eqb x s) true (member s l))
    (λ e. grind (arith, nat_tests)) (λ e. m ∙ ih ∙ grind (arith, nat_tests))

-- a store's place is what a search for it finds
pub place_position : (s : ℕ) (l : List ℕ) → place_of s l ≡ position (λ x. eqb x s) l
place_position s [] = refl
place_position s (x ∷ l) =
    let ih : place_of s l ≡ position (λ x. eqb x s) l = place_position s l in
    grind (arith, nat_tests)

-- and a store is a member where one of the members is it
pub member_any : (s : ℕ) (l : List ℕ) → member s l ≡ list_any (λ x. eqb x s) l
member_any s [] = refl
member_any s (x ∷ l) =
    let ih : member s l ≡ list_any (λ x. eqb x s) l = member_any s l in
    grind (arith, nat_tests)

mapped_some : (o : Option ℕ) (i : ℕ) → option_map (λ j. j + 1) o ≡ Some i → (j : ℕ) × (o ≡ Some j) × (i ≡ suc j)
mapped_some None i e = absurd (let z : ◌≡◌ {A = ℕ} 0 1 = cc in omega arith)
mapped_some (Some j) i e = (j, refl, (let z : j + 1 ≡ i = cc in omega arith))

-- a store's place is inside the list, and cutting there takes the store out
pub place_cut : (s : ℕ) (l : List ℕ) (i : ℕ) → place_of s l ≡ Some i → (i < length l) × (cut i l ≡ without s l)
place_cut s [] i e = absurd (let z : ◌≡◌ {A = ℕ} 0 1 = cc in omega arith)
place_cut s (x ∷ l) i e = elim (cases_Bool (eqb x s)) [
  | inl t ↦ (let z : Some 0 ≡ Some i = sym (ap (λ b. cond b (Some 0) (option_map (λ j. j + 1) (place_of s l))) t) ∙ e in
      let i0 : 0 ≡ i = cc in
      (omega arith, ap (λ (u : ℕ). cut u (x ∷ l)) (sym i0) ∙ sym (ap (λ b. cond b l (x ∷ without s l)) t)))
  | inr t ↦ (let z : option_map (λ j. j + 1) (place_of s l) ≡ Some i = sym (ap (λ b. cond b (Some 0) (option_map (λ j. j + 1) (place_of s l))) t) ∙ e in
      let m = mapped_some (place_of s l) i z in
      let ih = place_cut s l m.0 m.1 in
      let si : i ≡ suc m.0 = m.2 in
      (let q : m.0 < length l = ih.0 in omega arith, ap (λ (u : ℕ). cut u (x ∷ l)) si ∙ ap (λ (u : List ℕ). x ∷ u) ih.1 ∙ sym (ap (λ b. cond b l (x ∷ without s l)) t)))
]

-- what the calls answer, by case
pub first_accepts : (m n : ℕ) → 1 ≤ m → m ≤ n → n ≤ 16 → first_of m n ≡ Ok (count_up 0 m)
first_accepts m n a b c = cond-true (leb 1 m && (leb m n && leb n 16)) _ _ (grind (arith, nat_tests))

pub with_accepts : (n s : ℕ) (R : List ℕ) → s < n → member s R ≡ false → with_store n s R ≡ Ok (R ++ s ∷ [])
with_accepts n s R l m = cond-true (ltb s n) _ _ (lt-ltb s n l) ∙ cond-false (member s R) _ _ m

pub without_accepts : (s : ℕ) (R : List ℕ) → member s R ≡ true → 2 ≤ length R → without_store s R ≡ Ok (without s R)
without_accepts s R m l = cond-true (member s R) _ _ m ∙ cond-true (leb 2 (length R)) _ _ (grind (arith, nat_tests))

pub without_only : (s : ℕ) (R : List ℕ) → member s R ≡ true → length R < 2 → without_store s R ≡ Err OnlyMember
without_only s R m l = cond-true (member s R) _ _ m ∙ cond-false (leb 2 (length R)) _ _ (grind (arith, nat_tests))

pub without_none : (s : ℕ) (R : List ℕ) → member s R ≡ false → without_store s R ≡ Err NotAMember
without_none s R m = cond-false (member s R) _ _ m

-- the first stores
take_count_up : (m n i : ℕ) → m ≤ n → take m (count_up i n) ≡ count_up i m
take_count_up zero n i h = refl
take_count_up (suc m) zero i h = absurd (omega arith)
take_count_up (suc m) (suc n) i h = ap (λ (x : List ℕ). i ∷ x) (take_count_up m n (i + 1) (omega arith))

pub count_up_word : (m : ℕ) → m ≤ 16 → unpack 18364758544493064720 m ≡ count_up 0 m
count_up_word m h = sym (take_unpack m 16 18364758544493064720 h) ∙ take_count_up m 16 0 h

-- one store alone
pub alone_rostered : (n s : ℕ) → s < n → Rostered n (s ∷ [])
alone_rostered n s h = record {
  distinct = (refl, tt);
  below = λ x m. let e : s ≡ x = grind (arith, nat_tests) in omega arith;
  some = omega arith;
}

-- Under a lawful rule a leave and a join each move at most one store of a key.
use Rattle.std.proofs.Common.{◌≡◌, ℕ, ◌<◌, ◌≤◌, true, false, eqb, List, [], ◌∷◌, ◌++◌, length, sym, ap, ◌∙◌, subst, inl, inr, arith, length-append}
use Rattle.std.proofs.lemmas.Bool.Decides.{nat_tests}
use Rattle.std.proofs.lemmas.Bool.{cases_eq, cases_Bool, ne_eqb, both_ways}
use Rattle.lists.specs.Numbers.{member, Distinct, without}
use Rattle.lists.proofs.Members.{member_append, without_in, without_length, without_distinct, without_gone, push_without, pigeons}
use Rattle.placement.specs.Laws.{Rule, Rostered, Lawful, OneMoreAtMost, OneMoves, LawfulMovesOne}
use Rattle.placement.proofs.Holding.{push_roster, without_roster}

-- two lists, of which the second has all of the first but m and is no longer: it has at most one number that the first lacks
module _ (a b : List ℕ) (m : ℕ) (da : Distinct a) (short : length b ≤ length a) (inside : member m a ≡ true)
    (stay : (s : ℕ) → (s ≡ m → ⊥) → member s a ≡ true → member s b ≡ true) where
  one_gained : OneMoreAtMost b a
  one_gained x y xb xa yb ya = elim (cases_eq x y) [
    | inl e ↦ e
    | inr n ↦ absurd (
        let d : Distinct (x ∷ y ∷ without m a) =
        (let xy : eqb y x ≡ false = ne_eqb y x (λ e. n (sym e)) in
        let xw = out x xa in let yw = out y ya in
        (grind (arith, nat_tests), (yw, without_distinct m a da))) in
        let p : length (x ∷ y ∷ without m a) ≤ length b = pigeons (x ∷ y ∷ without m a) b d (all x y xb yb) in
        let l = without_length m a inside in
        omega arith)
  ]
    where
      out : (z : ℕ) → member z a ≡ false → member z (without m a) ≡ false
      out z h = elim (cases_Bool (member z (without m a))) [ inl t ↦ absurd (both_ways (member z a) h (without_in m z a t)) | inr t ↦ t ]

      all : (x y : ℕ) → member x b ≡ true → member y b ≡ true → (z : ℕ) → member z (x ∷ y ∷ without m a) ≡ true → member z b ≡ true
      all x y xb yb z h = elim (cases_eq x z) [
        | inl e ↦ subst (λ (u : ℕ). member u b ≡ true) e xb
        | inr n ↦ elim (cases_eq y z) [
          | inl e ↦ subst (λ (u : ℕ). member u b ≡ true) e yb
          | inr q ↦ (let nx : eqb x z ≡ false = ne_eqb x z n in let ny : eqb y z ≡ false = ne_eqb y z q in
              let w : member z (without m a) ≡ true = grind (arith, nat_tests) in
              stay z (λ e. both_ways (member m (without m a)) (without_gone m a da) (subst (λ (u : ℕ). member u (without m a) ≡ true) e w)) (without_in m z a w))
        ]
      ]

-- what is gained one way is lost the other
turned : (old new : List ℕ) → OneMoves old new → OneMoves new old
turned old new h = record { gained = h.lost; lost = h.gained }

module _ (p : Rule) (law : Lawful p) where
  leave_moves : (k r m : ℕ) (R : List ℕ) → Rostered 16 R → member m R ≡ true → p.may_leave R m ≡ true → 2 ≤ length R →
      OneMoves (p.list k R r) (p.list k (without m R) r)
  leave_moves k r m R ros mem may two =
      let old = p.list k R r in
      let new = p.list k (without m R) r in
      let lo = law.size k R r ros in
      let ln = law.size k (without m R) r (without_roster 16 R m ros mem two) in
      let lw = without_length m R mem in
      let stay = law.others_stay k R r ros m mem may two in
      let only : (x : ℕ) → member x old ≡ true → member x new ≡ false → x ≡ m =
      λ x h n. elim (cases_eq x m) [ inl e ↦ e | inr q ↦ absurd (both_ways (member x new) n (stay x q h)) ] in
      record {
        gained = elim (cases_Bool (member m old)) [
          | inl t ↦ one_gained old new m (law.apart k R r ros) (omega arith) t stay
          | inr t ↦ (let same = law.untouched k R r ros m mem may two t in
              λ x y xb xa yb ya. absurd (both_ways (member x old) xa (ap (member x) (sym same) ∙ xb)))
        ];
        lost = λ x y xa xb ya yb. only x xa xb ∙ sym (only y ya yb);
      }

  join_moves : (k r s : ℕ) (R : List ℕ) → Rostered 16 R → member s R ≡ false → s < 16 → OneMoves (p.list k R r) (p.list k (R ++ s ∷ []) r)
  join_moves k r s R ros out low =
      let T = R ++ s ∷ [] in
      let rosT : Rostered 16 T = push_roster 16 R s ros out low in
      let memT : member s T ≡ true = (let a = member_append s R (s ∷ []) in grind (arith, nat_tests)) in
      let some : 1 ≤ length R = ros.some in
      let back : OneMoves (p.list k T r) (p.list k (without s T) r) =
      leave_moves k r s T rosT memT (law.last_may_leave R s rosT) (simp length-append (omega arith)) in
      turned (p.list k T r) (p.list k R r) (subst (λ (u : List ℕ). OneMoves (p.list k T r) (p.list k u r)) (push_without R s out) back)

pub lawful_moves_one : LawfulMovesOne
lawful_moves_one p law = record { leave = leave_moves p law; join = join_moves p law }

-- Join and leave over lent stores, and on the one map.
use Rattle.std.proofs.Common.{◌≡◌, ℕ, ◌<◌, ◌≤◌, Bool, true, false, cond, not, ◌||◌, ltb, leb, List, [], ◌∷◌, ◌++◌, length, Some, None, Option, sym, refl, ap, ◌∙◌, subst, inl, inr, zero-le, arith}
use Rattle.std.proofs.lemmas.Bool.{cases_Bool, cond-false, le-ltb, leb-false, or_parts, not-false, both_ways}
use Rattle.lists.specs.Numbers.{member, without}
use Rattle.placement.specs.Laws.{Rule, Rostered, Lawful}
use Rattle.placement.proofs.Holding.{roster_more, push_roster, without_roster}
use Rattle.placement.proofs.Moving.{lawful_moves_one}
use Rattle.pairs.specs.Pairs.{Pair}
use Rattle.pairs.proofs.Maps.{keep_nothing}
use Rattle.store.specs.Meaning.{Meaning}
use Rattle.store.specs.Stores.{nth}
use Rattle.store.specs.declared.value.Value.{Value}
use Rattle.machine.specs.Books.{Move, list_under, placed, place, on, change_opened}
use Rattle.machine.specs.Outcomes.{Outcome}
use Rattle.machine.specs.OneMap as one
use Rattle.machine.specs.OneMap.{OneMap}
use Rattle.machine.specs.Lent as lent
use Rattle.machine.specs.Lent.{Lent}
use Rattle.machine.specs.Holds.{Holds, SoundMove}
use Rattle.machine.proofs.Calls.{over, Follows, lent_all}
use Rattle.machine.proofs.Steps.{rebooked}

-- two calls that go by the same test follow where both branches do
either_follows : (p : Rule) {R : Type 0} (x : Bool) {t1 t2 : Outcome OneMap R} {l1 l2 : Outcome Lent R} →
    (x ≡ true → Follows p t1 l1) → (x ≡ false → Follows p t2 l2) → Follows p (cond x t1 t2) (cond x l1 l2)
either_follows p true a b = a refl
either_follows p false a b = b refl

module _ (p : Rule) (law : Lawful p) (o : OneMap) (st : List Meaning) (h : Holds p o (over o st)) where
  rostered_16 : Rostered 16 o.book.roster
  rostered_16 = roster_more (length o.caps) o.book.roster h.sound.few h.sound.roster

  below_16 : (s : ℕ) → s < o.book.stores → s < 16
  below_16 s l = let a : length o.caps ≤ 16 = h.sound.few in let b : o.book.stores ≡ length o.caps = h.sound.stores in omega arith

  below : (s : ℕ) → s < o.book.stores → s < length o.caps
  below s l = let b : o.book.stores ≡ length o.caps = h.sound.stores in omega arith

  opens : (T : List ℕ) (s : ℕ) → o.book.change ≡ None → SoundMove p (length o.caps) o.book (record { target = T; cursor = 0; store = s }) →
      Follows p (one.open_change p o T s) (lent.open_change p (over o st) T s)
  opens T s e ok = record {
    result = refl;
    holds = rebooked p law o st h (change_opened o.book T s)
        (record {
          stores = h.sound.stores;
          few = h.sound.few;
          roster = h.sound.roster;
          change = record { target = ok.target; moves = ok.moves };
        })
        (λ q. inr (cond-false (ltb q 0) (list_under p o.book T q) (list_under p o.book o.book.roster q) (le-ltb q 0 zero-le) ∙ sym (ap (λ (c : Option Move). placed p o.book c q) e)));
  }

  -- a store that is no member has no key
  none_held : (s : ℕ) → o.book.change ≡ None → s < length o.caps → member s o.book.roster ≡ false → (nth st s).pairs ≡ []
  none_held s e l m = h.pairs s l ∙ keep_nothing (on p o.book s) o.entries not_placed
    where
      not_placed : (q : ℕ) → on p o.book s q ≡ false
      not_placed q =
          let a : place p o.book q ≡ list_under p o.book o.book.roster q = ap (λ (c : Option Move). placed p o.book c q) e in
          let w : member s (list_under p o.book o.book.roster q) ≡ true → member s o.book.roster ≡ true = law.within q o.book.roster o.book.copies rostered_16 s in
          ap (λ (x : List ℕ). member s x) a ∙ elim (cases_Bool (member s (list_under p o.book o.book.roster q))) [ inl t ↦ absurd (both_ways (member s o.book.roster) m (w t)) | inr t ↦ t ]

  join_opens : (s : ℕ) → o.book.change ≡ None → s < o.book.stores → member s o.book.roster ≡ false →
      Follows p (one.open_change p o (o.book.roster ++ s ∷ []) s) (lent.join_empty p (nth st s).pairs (over o st) s)
  join_opens s e l m =
      subst (λ (x : List (Pair Value)). Follows p (one.open_change p o (o.book.roster ++ s ∷ []) s) (lent.join_empty p x (over o st) s)) (sym (none_held s e (below s l) m))
      (opens (o.book.roster ++ s ∷ []) s e (record {
        target = push_roster (length o.caps) o.book.roster s h.sound.roster m (below s l);
        moves = λ k. (lawful_moves_one p law).join k o.book.copies s o.book.roster rostered_16 m (below_16 s l);
      }))

  pub join_follows : (s : ℕ) → Follows p (one.join p o s) (lent.join p (over o st) s)
  join_follows s = lent_all p law o st h (go o.book.change refl)
    where
      go : (c : Option Move) → o.book.change ≡ c → Follows p (one.join_in p c o s) (lent.join_in p c (over o st) s)
      go (Some m) e = record { result = refl; holds = h }
      go None e =
          either_follows p (leb o.book.stores s || member s o.book.roster) (λ _. record { result = refl; holds = h })
          (λ t. let u = or_parts (leb o.book.stores s) (member s o.book.roster) t in join_opens s e (leb-false o.book.stores s u.0) u.1)

  leave_opens : (s : ℕ) → o.book.change ≡ None → member s o.book.roster ≡ true → p.may_leave o.book.roster s ≡ true → 2 ≤ length o.book.roster →
      Follows p (one.open_change p o (without s o.book.roster) s) (lent.open_change p (over o st) (without s o.book.roster) s)
  leave_opens s e is may two = opens (without s o.book.roster) s e (record {
    target = without_roster (length o.caps) o.book.roster s h.sound.roster is two;
    moves = λ k. (lawful_moves_one p law).leave k o.book.copies s o.book.roster rostered_16 is may two;
  })

  pub leave_follows : (s : ℕ) → Follows p (one.leave p o s) (lent.leave p (over o st) s)
  leave_follows s = lent_all p law o st h (go o.book.change refl)
    where
      go : (c : Option Move) → o.book.change ≡ c → Follows p (one.leave_in p c o s) (lent.leave_in p c (over o st) s)
      go (Some m) e = record { result = refl; holds = h }
      go None e =
          either_follows p (leb o.book.stores s || not (member s o.book.roster)) (λ _. record { result = refl; holds = h })
          (λ t. either_follows p (leb (length o.book.roster) 1 || not (p.may_leave o.book.roster s)) (λ _. record { result = refl; holds = h })
          (λ u. leave_opens s e
          (not-false (member s o.book.roster) (or_parts (leb o.book.stores s) (not (member s o.book.roster)) t).1)
          (not-false (p.may_leave o.book.roster s) (or_parts (leb (length o.book.roster) 1) (not (p.may_leave o.book.roster s)) u).1)
          (leb-false (length o.book.roster) 1 (or_parts (leb (length o.book.roster) 1) (not (p.may_leave o.book.roster s)) u).0)))

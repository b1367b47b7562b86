-- A step over lent stores, and on the one map.
use Rattle.std.proofs.Common.{◌≡◌, ℕ, ◌+◌, ◌<◌, ◌≤◌, Bool, true, false, cond, ltb, leb, ◌⊎◌, List, ◌++◌, length, get_or, is_some, Some, None, Option, sym, refl, ap, ◌∙◌, subst, subst₂, inl, inr, arith}
use Rattle.std.proofs.lemmas.Bool.Decides.{nat_tests}
use Rattle.std.proofs.lemmas.Bool.{cases_lt, cases_order, cases_Bool, cond-true, cond-false, lt-ltb, le-ltb}
use Rattle.std.proofs.lemmas.Option.{none-some}
use Rattle.lists.specs.Numbers.{member}
use Rattle.lists.proofs.Members.{member_append}
use Rattle.placement.specs.Laws.{Rule, Rostered, Lawful}
use Rattle.placement.proofs.Holding.{roster_more}
use Rattle.pairs.specs.Pairs.{Pair, find, has, insert, erase, next_key, keep, Ascending}
use Rattle.pairs.proofs.Maps.{find_keep, keep_same, keep_gain, keep_lose, keep_ascends, next_none, next_none_is, next_present, next_bound, next_least, next_is}
use Rattle.store.specs.Meaning.{Meaning}
use Rattle.store.specs.Outcomes.{put_meaning, erase_meaning}
use Rattle.store.specs.Stores.{nth}
use Rattle.store.specs.declared.value.Value.{Value}
use Rattle.machine.specs.Faults.{full_store}
use Rattle.machine.specs.Books.{Move, Book, first_outside, list_under, placed, place, on, key_moved, change_done}
use Rattle.machine.specs.Outcomes.{refuse}
use Rattle.machine.specs.OneMap as one
use Rattle.machine.specs.OneMap.{OneMap}
use Rattle.machine.specs.Lent as lent
use Rattle.machine.specs.Lent.{Lent, first_store, full_for, put_some, erase_some, least}
use Rattle.machine.specs.Holds.{Holds, Sound, SoundChange, SoundMove}
use Rattle.machine.proofs.Rosters.{first_member, list_rostered, outside_in, outside_out, outside_is}
use Rattle.machine.proofs.Rows.{change_some_length, change_some_at, change_some_here, change_some_cap, least_none, least_some}
use Rattle.machine.proofs.Calls.{over, Follows, lent_all, find_elsewhere, find_first}

abbrev old_of : Rule → OneMap → ℕ → List ℕ
old_of p o k = list_under p o.book o.book.roster k

abbrev new_of : Rule → OneMap → Move → ℕ → List ℕ
new_of p o ch k = list_under p o.book ch.target k

module _ (p : Rule) (law : Lawful p) (o : OneMap) (st : List Meaning) (h : Holds p o (over o st)) where
  -- another book, under which each key held has the same place
  pub rebooked : (b : Book) → Sound p (length o.caps) b → ((q : ℕ) → (find o.entries q ≡ None) ⊎ (place p b q ≡ place p o.book q)) →
      Holds p (one.with_book p o b) (record { stores = st; book = b })
  rebooked b ok e = record {
    book = refl;
    count = h.count;
    caps = h.caps;
    ordered = h.ordered;
    sound = ok;
    pairs = λ s l. h.pairs s l ∙ keep_same (on p o.book s) (on p b s) o.entries h.ordered
        (λ q. elim (e q) [ inl n ↦ inl n | inr t ↦ inr (ap (λ (x : List ℕ). member s x) (sym t)) ]);
  }

  module _ (ch : Move) (e : o.book.change ≡ Some ch) where
    sound_move : SoundMove p (length o.caps) o.book ch
    sound_move = subst (λ (c : Option Move). SoundChange p (length o.caps) o.book c) e h.sound.change

    place_is : (q : ℕ) → place p o.book q ≡ cond (ltb q ch.cursor) (new_of p o ch q) (old_of p o q)
    place_is q = ap (λ (c : Option Move). placed p o.book c q) e

    place_old : (q : ℕ) → ch.cursor ≤ q → place p o.book q ≡ old_of p o q
    place_old q l = place_is q ∙ cond-false (ltb q ch.cursor) (new_of p o ch q) (old_of p o q) (le-ltb q ch.cursor l)

    place_new : (q : ℕ) → q < ch.cursor → place p o.book q ≡ new_of p o ch q
    place_new q l = place_is q ∙ cond-true (ltb q ch.cursor) (new_of p o ch q) (old_of p o q) (lt-ltb q ch.cursor l)

    -- the last step
    done_holds : next_key o.entries ch.cursor ≡ None → Holds p (one.with_book p o (change_done o.book ch)) (record { stores = st; book = change_done o.book ch })
    done_holds n = rebooked (change_done o.book ch)
        (record { stores = h.sound.stores; few = h.sound.few; roster = sound_move.target; change = tt })
        (λ q. elim (cases_lt q ch.cursor) [ inl l ↦ inr (sym (place_new q l)) | inr l ↦ inl (next_none o.entries ch.cursor q n l) ])

    within : (s : ℕ) → member s (o.book.roster ++ ch.target) ≡ true → s < length o.caps
    within s m =
        let a = member_append s o.book.roster ch.target in
        elim (cases_Bool (member s o.book.roster))
        [ inl t ↦ h.sound.roster.below s t | inr t ↦ sound_move.target.below s (grind (arith, nat_tests)) ]

    least_is_none : next_key o.entries ch.cursor ≡ None → least (o.book.roster ++ ch.target) st ch.cursor ≡ None
    least_is_none n = least_none st ch.cursor (o.book.roster ++ ch.target)
        (λ s m. next_none_is (nth st s).pairs ch.cursor (λ q l.
        let a : find o.entries q ≡ None = next_none o.entries ch.cursor q n l in
        let b = find_keep (on p o.book s) o.entries q in
        let c = h.pairs s (within s m) in
        ap (λ (x : List (Pair Value)). find x q) c ∙ b ∙ grind (arith, nat_tests)))

    module _ (k : ℕ) (n : next_key o.entries ch.cursor ≡ Some k) where
      above : ch.cursor ≤ k
      above = next_bound o.entries ch.cursor k n

      find_store : (s q : ℕ) → s < length o.caps → find (nth st s).pairs q ≡ cond (on p o.book s q) (find o.entries q) None
      find_store s q l = ap (λ (x : List (Pair Value)). find x q) (h.pairs s l) ∙ find_keep (on p o.book s) o.entries q

      gap : (s q : ℕ) → s < length o.caps → ch.cursor ≤ q → q < k → find (nth st s).pairs q ≡ None
      gap s q l x y =
          let a : find o.entries q ≡ None = next_least o.entries ch.cursor k q h.ordered n x y in
          let b = find_store s q l in
          grind (arith, nat_tests)

      old_first : find (nth st (first_store (old_of p o k))).pairs k ≡ find o.entries k
      old_first = subst (λ (l : List ℕ). find (nth st (first_store l)).pairs k ≡ find o.entries k) (place_old k above) (find_first p law o st h k)

      old_roster : Rostered (length o.caps) (old_of p o k)
      old_roster = list_rostered p law (length o.caps) k o.book.roster o.book.copies h.sound.few h.sound.roster

      new_roster : Rostered (length o.caps) (new_of p o ch k)
      new_roster = list_rostered p law (length o.caps) k ch.target o.book.copies h.sound.few sound_move.target

      first_in : member (first_store (old_of p o k)) o.book.roster ≡ true
      first_in = law.within k o.book.roster o.book.copies (roster_more (length o.caps) o.book.roster h.sound.few h.sound.roster) (first_store (old_of p o k)) (first_member (old_of p o k) old_roster.some)

      store_ascends : (s : ℕ) → s < length o.caps → Ascending (nth st s).pairs
      store_ascends s l = subst (λ (x : List (Pair Value)). Ascending x) (sym (h.pairs s l)) (keep_ascends (on p o.book s) o.entries h.ordered)

      first_below : first_store (old_of p o k) < length o.caps
      first_below = old_roster.below (first_store (old_of p o k)) (first_member (old_of p o k) old_roster.some)

      at_least : (s : ℕ) → s < length o.caps → (i : ℕ) → next_key (nth st s).pairs ch.cursor ≡ Some i → k ≤ i
      at_least s l i x =
          let a : has (nth st s).pairs i ≡ true = next_present (nth st s).pairs ch.cursor i x in
          let b : ch.cursor ≤ i = next_bound (nth st s).pairs ch.cursor i x in
          let c : i < k → find (nth st s).pairs i ≡ None = gap s i l b in
          grind (arith, nat_tests)

      least_is_some : least (o.book.roster ++ ch.target) st ch.cursor ≡ Some k
      least_is_some = least_some st ch.cursor k (o.book.roster ++ ch.target)
          (λ s m. at_least s (within s m))
          (first_store (old_of p o k)) (member_append (first_store (old_of p o k)) o.book.roster ch.target ∙ rw first_in)
          (next_is (nth st (first_store (old_of p o k))).pairs ch.cursor k (store_ascends (first_store (old_of p o k)) first_below) (ap (λ (x : Option Value). is_some x) old_first ∙ next_present o.entries ch.cursor k n) above
          (λ q x y. gap (first_store (old_of p o k)) q first_below x y))

      -- the place of each key after the step
      after_place : (g : Option ℕ) (q : ℕ) → (q ≡ k) ⊎ ((find o.entries q ≡ None) ⊎ (place p o.book q ≡ place p (key_moved o.book ch k g) q))
      after_place g q =
          elim (cases_lt q ch.cursor) [
            | inl l ↦ inr (inr (place_new q l ∙ sym (cond-true (ltb q (k + 1)) (new_of p o ch q) (old_of p o q) (lt-ltb q (k + 1) (let a : ch.cursor ≤ k = above in omega arith)))))
            | inr l ↦ elim (cases_order q k) [
              | inl t ↦ inl t
              | inr t ↦ elim t [
                | inl u ↦ inr (inl (next_least o.entries ch.cursor k q h.ordered n l u))
                | inr u ↦ inr (inr (place_old q l ∙ sym (cond-false (ltb q (k + 1)) (new_of p o ch q) (old_of p o q) (le-ltb q (k + 1) (omega arith)))))
              ]
            ]
          ]

      place_after : (g : Option ℕ) → place p (key_moved o.book ch k g) k ≡ new_of p o ch k
      place_after g = cond-true (ltb k (k + 1)) (new_of p o ch k) (old_of p o k) (lt-ltb k (k + 1) (omega arith))

      after_sound : (g : Option ℕ) → Sound p (length o.caps) (key_moved o.book ch k g)
      after_sound g = record {
        stores = h.sound.stores;
        few = h.sound.few;
        roster = h.sound.roster;
        change = record { target = sound_move.target; moves = sound_move.moves };
      }

      module _ (v : Value) (here : find o.entries k ≡ Some v) (g l : Option ℕ)
          (eg : first_outside (new_of p o ch k) (old_of p o k) ≡ g) (el : first_outside (old_of p o k) (new_of p o ch k) ≡ l)
          (room : (s : ℕ) → g ≡ Some s → full_for (nth st s) k ≡ false) where
        agree : (s q : ℕ) → (q ≡ k) ⊎ ((find o.entries q ≡ None) ⊎ (on p o.book s q ≡ on p (key_moved o.book ch k g) s q))
        agree s q = elim (after_place g q) [ inl t ↦ inl t | inr t ↦ elim t [ inl u ↦ inr (inl u) | inr u ↦ inr (inr (ap (λ (x : List ℕ). member s x) u)) ] ]

        same_at_k : (s : ℕ) → member s (new_of p o ch k) ≡ member s (old_of p o k) → on p o.book s k ≡ on p (key_moved o.book ch k g) s k
        same_at_k s same = ap (λ (x : List ℕ). member s x) (place_old k above) ∙ sym same ∙ sym (ap (λ (x : List ℕ). member s x) (place_after g))

        agree_all : (s : ℕ) → member s (new_of p o ch k) ≡ member s (old_of p o k) → (q : ℕ) → (find o.entries q ≡ None) ⊎ (on p o.book s q ≡ on p (key_moved o.book ch k g) s q)
        agree_all s same q = elim (agree s q)
            [ inl t ↦ inr (subst (λ (x : ℕ). on p o.book s x ≡ on p (key_moved o.book ch k g) s x) (sym t) (same_at_k s same)) | inr t ↦ t ]

        put_bound : (x : ℕ) → g ≡ Some x → x < length st
        put_bound x t =
            let a : x < length o.caps = new_roster.below x (outside_in (new_of p o ch k) (old_of p o k) x (eg ∙ t)) in
            let c : length st ≡ length o.caps = h.count in omega arith

        put_length : length (put_some g st k v) ≡ length st
        put_length = change_some_length (λ (x : Meaning). put_meaning x k v) g st

        erase_bound : (x : ℕ) → l ≡ Some x → x < length (put_some g st k v)
        erase_bound x t =
            let a : x < length o.caps = old_roster.below x (outside_in (old_of p o k) (new_of p o ch k) x (el ∙ t)) in
            let c : length st ≡ length o.caps = h.count in
            let d : length (put_some g st k v) ≡ length st = put_length in omega arith

        not_gained : (s : ℕ) → (member s (new_of p o ch k) ≡ false) ⊎ (member s (old_of p o k) ≡ true) → g ≡ Some s → ⊥
        not_gained s c t =
            let a : member s (new_of p o ch k) ≡ true = outside_in (new_of p o ch k) (old_of p o k) s (eg ∙ t) in
            let b : member s (old_of p o k) ≡ false = outside_out (new_of p o ch k) (old_of p o k) s (eg ∙ t) in
            grind (arith, nat_tests)

        not_lost : (s : ℕ) → (member s (old_of p o k) ≡ false) ⊎ (member s (new_of p o ch k) ≡ true) → l ≡ Some s → ⊥
        not_lost s c t =
            let a : member s (old_of p o k) ≡ true = outside_in (old_of p o k) (new_of p o ch k) s (el ∙ t) in
            let b : member s (new_of p o ch k) ≡ false = outside_out (old_of p o k) (new_of p o ch k) s (el ∙ t) in
            grind (arith, nat_tests)

        stays_erase : (s : ℕ) → (l ≡ Some s → ⊥) → nth (erase_some l (put_some g st k v) k) s ≡ nth (put_some g st k v) s
        stays_erase s = change_some_at (λ (x : Meaning). erase_meaning x k) l (put_some g st k v) s erase_bound

        stays_put : (s : ℕ) → (g ≡ Some s → ⊥) → nth (put_some g st k v) s ≡ nth st s
        stays_put s = change_some_at (λ (x : Meaning). put_meaning x k v) g st s put_bound

        pairs_gained : (s : ℕ) → s < length o.caps → member s (new_of p o ch k) ≡ true → member s (old_of p o k) ≡ false →
            (nth (erase_some l (put_some g st k v) k) s).pairs ≡ keep (on p (key_moved o.book ch k g) s) o.entries
        pairs_gained s b t u =
            let gs : g ≡ Some s = sym eg ∙ outside_is (new_of p o ch k) (old_of p o k) s (sound_move.moves k).gained t u in
            let sb : s < length st = put_bound s gs in
            ap (λ (x : Meaning). x.pairs) (stays_erase s (not_lost s (inl u)) ∙ change_some_here (λ (x : Meaning). put_meaning x k v) g st s sb gs) ∙
            cond-false (full_for (nth st s) k) (nth st s).pairs (insert (nth st s).pairs k v) (room s gs) ∙
            ap (λ (y : List (Pair Value)). insert y k v) (h.pairs s b) ∙
            keep_gain (on p o.book s) (on p (key_moved o.book ch k g) s) o.entries k v h.ordered here (ap (λ (x : List ℕ). member s x) (place_after g) ∙ t) (agree s)

        pairs_lost : (s : ℕ) → s < length o.caps → member s (new_of p o ch k) ≡ false → member s (old_of p o k) ≡ true →
            (nth (erase_some l (put_some g st k v) k) s).pairs ≡ keep (on p (key_moved o.book ch k g) s) o.entries
        pairs_lost s b t u =
            let ls : l ≡ Some s = sym el ∙ outside_is (old_of p o k) (new_of p o ch k) s (sound_move.moves k).lost u t in
            ap (λ (x : Meaning). x.pairs) (change_some_here (λ (x : Meaning). erase_meaning x k) l (put_some g st k v) s (erase_bound s ls) ls) ∙
            ap (λ (y : Meaning). erase y.pairs k) (stays_put s (not_gained s (inl t))) ∙
            ap (λ (y : List (Pair Value)). erase y k) (h.pairs s b) ∙
            keep_lose (on p o.book s) (on p (key_moved o.book ch k g) s) o.entries k h.ordered (ap (λ (x : List ℕ). member s x) (place_after g) ∙ t) (agree s)

        pairs_same : (s : ℕ) → s < length o.caps → member s (new_of p o ch k) ≡ member s (old_of p o k) →
            (nth (erase_some l (put_some g st k v) k) s).pairs ≡ keep (on p (key_moved o.book ch k g) s) o.entries
        pairs_same s b t =
            let cs = cases_Bool (member s (old_of p o k)) in
            let ng : g ≡ Some s → ⊥ = not_gained s (elim cs [ inl x ↦ inr x | inr x ↦ inl (t ∙ x) ]) in
            let nl : l ≡ Some s → ⊥ = not_lost s (elim cs [ inl x ↦ inr (t ∙ x) | inr x ↦ inl x ]) in
            ap (λ (x : Meaning). x.pairs) (stays_erase s nl ∙ stays_put s ng) ∙ h.pairs s b ∙
            keep_same (on p o.book s) (on p (key_moved o.book ch k g) s) o.entries h.ordered (agree_all s t)

        holds_pairs : (s : ℕ) → s < length o.caps → (nth (erase_some l (put_some g st k v) k) s).pairs ≡ keep (on p (key_moved o.book ch k g) s) o.entries
        holds_pairs s b = elim (cases_Bool (member s (new_of p o ch k))) [
          | inl t ↦ elim (cases_Bool (member s (old_of p o k))) [ inl u ↦ pairs_same s b (t ∙ sym u) | inr u ↦ pairs_gained s b t u ]
          | inr t ↦ elim (cases_Bool (member s (old_of p o k))) [ inl u ↦ pairs_lost s b t u | inr u ↦ pairs_same s b (t ∙ sym u) ]
        ]

        advance_follows : Follows p (one.advance p o ch k g l) (lent.advance p (over o st) ch k v g l)
        advance_follows = record {
          result = refl;
          holds = record {
            book = refl;
            count = change_some_length (λ (x : Meaning). erase_meaning x k) l (put_some g st k v) ∙ put_length ∙ h.count;
            pairs = holds_pairs;
            caps = λ s b. change_some_cap (λ (x : Meaning). erase_meaning x k) (λ x. refl) l (put_some g st k v) s erase_bound ∙ change_some_cap (λ (x : Meaning). put_meaning x k v) (λ x. refl) g st s put_bound ∙ h.caps s b;
            ordered = h.ordered;
            sound = after_sound g;
          };
        }

      full_gained : (s : ℕ) → first_outside (new_of p o ch k) (old_of p o k) ≡ Some s → full_for (nth st s) k ≡ leb (get_or o.caps s 0) (one.load p o s)
      full_gained s t =
          let b : s < length o.caps = new_roster.below s (outside_in (new_of p o ch k) (old_of p o k) s t) in
          let u : member s (place p o.book k) ≡ false = ap (λ (x : List ℕ). member s x) (place_old k above) ∙ outside_out (new_of p o ch k) (old_of p o k) s t in
          let a : find (nth st s).pairs k ≡ None = find_elsewhere p law o st h k s b u in
          let c : (nth st s).cap ≡ get_or o.caps s 0 = h.caps s b in
          let d : (nth st s).pairs ≡ keep (on p o.book s) o.entries = h.pairs s b in
          rw (a, c, d)

      unless_follows : (v : Value) → find o.entries k ≡ Some v → (g l : Option ℕ) → first_outside (new_of p o ch k) (old_of p o k) ≡ g → first_outside (old_of p o k) (new_of p o ch k) ≡ l →
          Follows p (one.advance_unless p o ch k g l) (lent.advance_unless p (over o st) ch k v g l)
      unless_follows v here None l eg el = advance_follows v here None l eg el (λ s t. absurd (none-some s t))
      unless_follows v here (Some s) l eg el =
          elim (cases_Bool (full_for (nth st s) k)) [
            | inl t ↦ subst₂ (λ (x y : Bool). Follows p (cond x (refuse o (full_store s)) (one.advance p o ch k (Some s) l)) (cond y (refuse (over o st) (full_store s)) (lent.advance p (over o st) ch k v (Some s) l)))
                (sym (sym (full_gained s eg) ∙ t)) (sym t) (record { result = refl; holds = h })
            | inr t ↦ subst₂ (λ (x y : Bool). Follows p (cond x (refuse o (full_store s)) (one.advance p o ch k (Some s) l)) (cond y (refuse (over o st) (full_store s)) (lent.advance p (over o st) ch k v (Some s) l)))
                (sym (sym (full_gained s eg) ∙ t)) (sym t)
                (advance_follows v here (Some s) l eg el (λ x e. let q : s ≡ x = cc in subst (λ (y : ℕ). full_for (nth st y) k ≡ false) q t))
          ]

      value_follows : (x : Option Value) → find o.entries k ≡ x → Follows p (one.step_at p o ch (Some k)) (lent.step_with p x (over o st) ch k)
      value_follows None t =
          let a : has o.entries k ≡ true = next_present o.entries ch.cursor k n in
          absurd (let z : ◌≡◌ {A = Bool} true false = sym a ∙ ap (λ (x : Option Value). is_some x) t in grind (arith, nat_tests))
      value_follows (Some v) t = unless_follows v t (first_outside (new_of p o ch k) (old_of p o k)) (first_outside (old_of p o k) (new_of p o ch k)) refl refl

      some_follows : Follows p (one.step_at p o ch (Some k)) (lent.step_at p (over o st) ch (Some k))
      some_follows = subst (λ (x : Option Value). Follows p (one.step_at p o ch (Some k)) (lent.step_with p x (over o st) ch k)) (sym old_first) (value_follows (find o.entries k) refl)

    at_follows : (x : Option ℕ) → next_key o.entries ch.cursor ≡ x → Follows p (one.step_at p o ch (next_key o.entries ch.cursor)) (lent.step_at p (over o st) ch (least (o.book.roster ++ ch.target) st ch.cursor))
    at_follows None n =
        subst₂ (λ (x y : Option ℕ). Follows p (one.step_at p o ch x) (lent.step_at p (over o st) ch y)) (sym n) (sym (least_is_none n)) (record { result = refl; holds = done_holds n })
    at_follows (Some k) n =
        subst₂ (λ (x y : Option ℕ). Follows p (one.step_at p o ch x) (lent.step_at p (over o st) ch y)) (sym n) (sym (least_is_some k n)) (some_follows k n)

  in_follows : (c : Option Move) → o.book.change ≡ c → Follows p (one.step_in p c o) (lent.step_in p c (over o st))
  in_follows None e = record { result = refl; holds = h }
  in_follows (Some ch) e = at_follows ch e (next_key o.entries ch.cursor) refl

  pub step_follows : Follows p (one.step p o) (lent.step p (over o st))
  step_follows = lent_all p law o st h (in_follows o.book.change refl)

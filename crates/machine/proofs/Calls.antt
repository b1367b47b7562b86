-- get, put, remove and the typed calls: over lent stores as on the one map.
use Rattle.std.proofs.Common.{◌≡◌, ℕ, ◌<◌, Bool, true, false, cond, eqb, List, [], ◌∷◌, length, get_or, is_some, Some, None, Ok, Err, Option, Result, sym, refl, ap, ◌∙◌, subst, subst₂, inl, inr, arith}
use Rattle.std.proofs.lemmas.Bool.Decides.{nat_tests}
use Rattle.std.proofs.lemmas.Bool.{cases_Bool, cond-true, cond-false, eq-eqb}
use Rattle.lists.specs.Numbers.{member}
use Rattle.placement.specs.Laws.{Rule, Rostered, Lawful}
use Rattle.pairs.specs.Pairs.{Pair, find, has, insert, erase, keep, Ascending}
use Rattle.pairs.proofs.Maps.{find_keep, keep_insert_yes, keep_insert_no, keep_erase, erase_absent, insert_ascends, erase_ascends}
use Rattle.store.specs.Meaning.{Meaning}
use Rattle.store.specs.Outcomes.{put_meaning, erase_meaning}
use Rattle.store.specs.Stores.{nth}
use Rattle.store.specs.declared.value.Value.{Value}
use Rattle.entry.specs.declared.fault.EntryFault.{EntryFault}
use Rattle.entry.specs.Kinds.{Kind, encoded}
use Rattle.machine.specs.Books.{place, on}
use Rattle.machine.specs.Outcomes.{Outcome, put_as, entry_in}
use Rattle.machine.specs.OneMap as one
use Rattle.machine.specs.OneMap.{OneMap}
use Rattle.machine.specs.Lent as lent
use Rattle.machine.specs.Lent.{Lent, first_store, change_all, first_full, all_lent}
use Rattle.machine.specs.Holds.{Holds}
use Rattle.machine.proofs.Rosters.{first_member, place_rostered}
use Rattle.machine.proofs.Rows.{change_all_length, change_all_at, held_not_full, room_in_all}

-- stores under the book of o
abbrev pub over : OneMap → List Meaning → Lent
over o st = record { stores = st; book = o.book }

-- what is owed of each call
pub record Follows (p : Rule) {R : Type 0} (t : Outcome OneMap R) (l : Outcome Lent R) : Type 0 where
  pub result : l.result ≡ t.result
  pub holds : Holds p t.after l.after

module _ (p : Rule) (law : Lawful p) (o : OneMap) (st : List Meaning) (h : Holds p o (over o st)) where
  pub rostered : (k : ℕ) → Rostered (length o.caps) (place p o.book k)
  rostered k = place_rostered p law (length o.caps) o.book k h.sound

  -- as many stores are lent as the service has
  pub lent_all : {R : Type 0} {t : Outcome OneMap R} {l : Outcome Lent R} → Follows p t l → Follows p t (all_lent (over o st) l)
  lent_all {R} {t} {l} f =
      subst (λ (x : Outcome Lent R). Follows p t x)
      (sym (cond-true (eqb (length st) o.book.stores) l _ (eq-eqb (length st) o.book.stores (h.count ∙ sym h.sound.stores)))) f

  -- a store of the place of k has what the map has there, and another store has nothing
  pub find_there : (k s : ℕ) → member s (place p o.book k) ≡ true → find (nth st s).pairs k ≡ find o.entries k
  find_there k s m =
      ap (λ (x : List (Pair Value)). find x k) (h.pairs s ((rostered k).below s m)) ∙ find_keep (on p o.book s) o.entries k ∙ rw m

  pub find_elsewhere : (k s : ℕ) → s < length o.caps → member s (place p o.book k) ≡ false → find (nth st s).pairs k ≡ None
  find_elsewhere k s l m =
      ap (λ (x : List (Pair Value)). find x k) (h.pairs s l) ∙ find_keep (on p o.book s) o.entries k ∙ rw m

  pub find_first : (k : ℕ) → find (nth st (first_store (place p o.book k))).pairs k ≡ find o.entries k
  find_first k = find_there k (first_store (place p o.book k)) (first_member (place p o.book k) (rostered k).some)

  pub get_follows : (k : ℕ) → Follows p (one.get p o k) (lent.get p (over o st) k)
  get_follows k = lent_all (record { result = ap Ok (find_first k); holds = h })

  pub get_entry_follows : {E : Type 0} (kind : Kind E) (k : ℕ) → Follows p (one.get_entry p kind o k) (lent.get_entry p kind (over o st) k)
  get_entry_follows kind k = lent_all (record { result = ap (λ (v : Option Value). entry_in kind v) (find_first k); holds = h })

  -- all of the place of k changed by f, and the map changed so that each store's part changes by f
  changed : (k : ℕ) (f : Meaning → Meaning) (m : List (Pair Value)) → Ascending m →
      ((x : Meaning) → (f x).cap ≡ x.cap) →
      ((s : ℕ) → member s (place p o.book k) ≡ true → (nth st s).pairs ≡ keep (on p o.book s) o.entries → (f (nth st s)).pairs ≡ keep (on p o.book s) m) →
      ((s : ℕ) → member s (place p o.book k) ≡ false → keep (on p o.book s) o.entries ≡ keep (on p o.book s) m) →
      Holds p (one.with_entries p o m) (over o (change_all f (place p o.book k) st))
  changed k f m asc same inside outside = record {
    book = refl;
    count = change_all_length f (place p o.book k) st ∙ h.count;
    pairs = λ s l. elim (cases_Bool (member s (place p o.book k))) [
      | inl t ↦ ap (λ (x : Meaning). x.pairs) (at_yes s t) ∙ inside s t (h.pairs s l)
      | inr t ↦ ap (λ (x : Meaning). x.pairs) (at_no s t) ∙ h.pairs s l ∙ outside s t
    ];
    caps = λ s l. elim (cases_Bool (member s (place p o.book k))) [
      | inl t ↦ ap (λ (x : Meaning). x.cap) (at_yes s t) ∙ same (nth st s) ∙ h.caps s l
      | inr t ↦ ap (λ (x : Meaning). x.cap) (at_no s t) ∙ h.caps s l
    ];
    ordered = asc;
    sound = h.sound;
  }
    where
      at_s : (s : ℕ) → nth (change_all f (place p o.book k) st) s ≡ cond (member s (place p o.book k)) (f (nth st s)) (nth st s)
      at_s s = change_all_at f (place p o.book k) st s (rostered k).distinct (λ x m. let b : x < length o.caps = (rostered k).below x m in let c : length st ≡ length o.caps = h.count in omega arith)

      at_yes : (s : ℕ) → member s (place p o.book k) ≡ true → nth (change_all f (place p o.book k) st) s ≡ f (nth st s)
      at_yes s t = at_s s ∙ cond-true (member s (place p o.book k)) (f (nth st s)) (nth st s) t

      at_no : (s : ℕ) → member s (place p o.book k) ≡ false → nth (change_all f (place p o.book k) st) s ≡ nth st s
      at_no s t = at_s s ∙ cond-false (member s (place p o.book k)) (f (nth st s)) (nth st s) t

  pub remove_follows : (k : ℕ) → Follows p (one.remove p o k) (lent.remove p (over o st) k)
  remove_follows k = lent_all (record {
    result = ap (λ (x : Option Value). Ok (is_some x)) (find_first k);
    holds = changed k (λ x. erase_meaning x k) (erase o.entries k) (erase_ascends o.entries k h.ordered) (λ x. refl)
        (λ s m e. ap (λ (y : List (Pair Value)). erase y k) e ∙ sym (keep_erase (on p o.book s) o.entries k h.ordered))
        (λ s m. sym (keep_erase (on p o.book s) o.entries k h.ordered ∙
        erase_absent (keep (on p o.book s) o.entries) k (find_keep (on p o.book s) o.entries k ∙ rw m)));
  })

  stored : (k : ℕ) (v : Value) → first_full (place p o.book k) st k ≡ None → Follows p (one.store p o k v) (lent.put_unless None (place p o.book k) (over o st) k v)
  stored k v room = record {
    result = ap (λ (x : Option Value). Ok (put_as (is_some x))) (find_first k);
    holds = changed k (λ x. put_meaning x k v) (insert o.entries k v) (insert_ascends o.entries k v h.ordered) (λ x. refl)
        (λ s m e. cond-false (lent.full_for (nth st s) k) (nth st s).pairs (insert (nth st s).pairs k v) (room_in_all (place p o.book k) st k s room m)
        ∙ ap (λ (y : List (Pair Value)). insert y k v) e ∙ sym (keep_insert_yes (on p o.book s) o.entries k v h.ordered m))
        (λ s m. sym (keep_insert_no (on p o.book s) o.entries k v h.ordered m));
  }

  -- where k is absent, the first full store is the same
  full_same : (k : ℕ) (ss : List ℕ) → has o.entries k ≡ false → ((s : ℕ) → member s ss ≡ true → member s (place p o.book k) ≡ true) → first_full ss st k ≡ one.first_full p o ss
  full_same k [] n e = refl
  full_same k (s ∷ ss) n e =
      let ih : first_full ss st k ≡ one.first_full p o ss = full_same k ss n (λ x m. e x (grind (arith, nat_tests))) in
      let there : member s (place p o.book k) ≡ true = e s (grind (arith, nat_tests)) in
      let l : s < length o.caps = (rostered k).below s there in
      let a : has (nth st s).pairs k ≡ false = ap (λ (x : Option Value). is_some x) (find_there k s there) ∙ n in
      let b : (nth st s).cap ≡ get_or o.caps s 0 = h.caps s l in
      let c : (nth st s).pairs ≡ keep (on p o.book s) o.entries = h.pairs s l in
      rw (a, b, c, ih)

  unless : (k : ℕ) (v : Value) (b : Option ℕ) → first_full (place p o.book k) st k ≡ b → Follows p (one.store_unless p b o k v) (lent.put_unless b (place p o.book k) (over o st) k v)
  unless k v None e = stored k v e
  unless k v (Some s) e = record { result = refl; holds = h }

  put_on_follows : (k : ℕ) (v : Value) → Follows p (one.put p o k v) (lent.put_on (place p o.book k) (over o st) k v)
  put_on_follows k v = elim (cases_Bool (has o.entries k)) [
    | inl t ↦
        let e : first_full (place p o.book k) st k ≡ None = held_not_full (place p o.book k) st k (λ s m. ap (λ (x : Option Value). is_some x) (find_there k s m) ∙ t) in
        subst₂ (λ (b : Bool) (x : Option ℕ). Follows p (cond b (one.store p o k v) (one.store_unless p (one.first_full p o (place p o.book k)) o k v)) (lent.put_unless x (place p o.book k) (over o st) k v))
        (sym t) (sym e) (stored k v e)
    | inr t ↦
        let e : first_full (place p o.book k) st k ≡ one.first_full p o (place p o.book k) = full_same k (place p o.book k) t (λ s m. m) in
        subst₂ (λ (b : Bool) (x : Option ℕ). Follows p (cond b (one.store p o k v) (one.store_unless p (one.first_full p o (place p o.book k)) o k v)) (lent.put_unless x (place p o.book k) (over o st) k v))
        (sym t) (sym e) (unless k v (one.first_full p o (place p o.book k)) e)
  ]

  pub put_follows : (k : ℕ) (v : Value) → Follows p (one.put p o k v) (lent.put p (over o st) k v)
  put_follows k v = lent_all (put_on_follows k v)

  pub put_entry_follows : {E : Type 0} (kind : Kind E) (k : ℕ) (e : E) → Follows p (one.put_entry p kind o k e) (lent.put_entry p kind (over o st) k e)
  put_entry_follows kind k e = go (encoded kind e)
    where
      go : (x : Result Value EntryFault) → Follows p (one.put_words p o k x) (lent.put_words p (over o st) k x)
      go (Ok v) = put_follows k v
      go (Err f) = record { result = refl; holds = h }

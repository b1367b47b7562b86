-- What the calls of a table do: a standing table stays standing, its pairs follow the store's
-- meaning, and its cells are those of `put_cells` and `remove_cells`.
use Rattle.std.proofs.Common.{◌≡◌, ℕ, ◌<◌, ◌≤◌, Bool, true, false, cond, not, ◌&&◌, eqb, leb, List, length, set, is_some, Some, None, Option, sym, refl, ap, ◌∙◌, subst, ⊎_elim, arith}
use Rattle.std.proofs.lemmas.List.{get_or-set_same, get_or-set_other, length-set}
use Rattle.std.proofs.lemmas.Bool.{ne_eqb, cases_eq, cases_Bool, cond-true, cond-false, cond_both, true≢false, eqb-true, leb-false, le-leb, lt-leb, and_from}
use Rattle.std.specs.Option.{option_or}
use Rattle.pairs.specs.Pairs.{find, has, insert, erase}
use Rattle.pairs.proofs.Maps.{find_insert, find_erase, insert_ascends, erase_ascends, ext, erase_absent, none_some, some_same}
use Rattle.store.specs.declared.value.Value.{Value}
use Rattle.store.specs.Meaning.{FitsWords, Lawful}
use Rattle.store.specs.Outcomes.{refuses, put_pairs}
use Rattle.cells.specs.declared.Cell.{Cell}
use Rattle.cells.specs.declared.Cell.TheVariants.{Empty, Live, Gone}
use Rattle.cells.specs.Walk.{cell_at, walk_from, sought, vacancy}
use Rattle.cells.specs.Held.{value_of, held, live_one, live_count, Worded, Limits, Standing, write_at, put_place, put_cells, remove_cells}
use Rattle.cells.proofs.Steps.{Found, Other, idle_other, live_in, seek_sound, seek_keep, seek_again, seek_new}
use Rattle.cells.proofs.Holds.{Without, found_distinct, held_ascending, held_none, held_at, held_words, find_set, count_held, count_set, vacancy_none, free_sound}
use Rattle.cells.proofs.Laws.{idle_one}
use Rattle.cells.proofs.Plain.{plain_found, found_unbroken}

-- a standing table, by its walks
pub record Stand (cs : List Cell) (c : ℕ) : Type 0 where
  pub limits : Limits (length cs) c
  pub found : Found cs
  pub worded : Worded cs
  pub room : live_count cs ≤ c

stand_in : (cs : List Cell) (m : ℕ) → Standing cs m → Stand cs m
stand_in cs m s = record { limits = s.limits; found = plain_found cs s.distinct s.unbroken; worded = s.worded; room = s.room }

pub stand_out : (cs : List Cell) (m : ℕ) → Stand cs m → Standing cs m
stand_out cs m s = record { limits = s.limits; distinct = found_distinct cs s.found; unbroken = found_unbroken cs s.found; worded = s.worded; room = s.room }

-- a standing table obeys the laws of stores
pub standing_lawful : (cs : List Cell) (m : ℕ) → Standing cs m → Lawful (held cs) m
standing_lawful cs m s =
    let e = count_held cs s.distinct in
    let l = s.limits in
    let r = s.room in
    record { ordered = held_ascending cs; words = held_words cs s.worded; few = omega arith; cap_few = omega arith }

sought_set : (cs : List Cell) (p : ℕ) (c : Cell) (k : ℕ) (o : Option ℕ) → (walk_from (length cs) (set cs p c) k (length cs) 0).found ≡ o → sought (set cs p c) k ≡ o
sought_set cs p c k o h = ap (λ n. (walk_from n (set cs p c) k n 0).found) (length-set cs p c) ∙ h

live_key : (j k : ℕ) (v w : Value) → Live j v ≡ Live k w → j ≡ k
live_key j k v w e = cc

live_value : (j k : ℕ) (v w : Value) → Live j v ≡ Live k w → v ≡ w
live_value j k v w e = cc

gone_live : (k : ℕ) (v : Value) → Gone ≡ Live k v → ⊥
gone_live k v e = let y : ◌≡◌ {A = ℕ} 0 1 = cc in omega arith

-- what the walk finds, k has
seen : (cs : List Cell) → Found cs → (k p : ℕ) (v : Value) → cell_at cs p ≡ Live k v → find (held cs) k ≡ Some v
seen cs h k p v e = held_at cs (found_distinct cs h) p k v e

unseen : (cs : List Cell) → Found cs → (k : ℕ) → sought cs k ≡ None → find (held cs) k ≡ None
unseen cs h k e = held_none cs k (λ p v d. none_some (sought cs k) p e (h p k v d))

has_seen : (cs : List Cell) → Found cs → (k p : ℕ) → sought cs k ≡ Some p → has (held cs) k ≡ true
has_seen cs h k p e =
    let s = seek_sound (length cs) cs k (length cs) 0 p e in
    ap is_some (seen cs h k p s.0 s.1)

has_unseen : (cs : List Cell) → Found cs → (k : ℕ) → sought cs k ≡ None → has (held cs) k ≡ false
has_unseen cs h k e = ap is_some (unseen cs h k e)

-- a cell written live

found_live : (cs : List Cell) (p k : ℕ) (v : Value) → Found cs → p < length cs → ((q : ℕ) (w : Value) → cell_at cs q ≡ Live k w → q ≡ p) → sought (set cs p (Live k v)) k ≡ Some p → Found (set cs p (Live k v))
found_live cs p k v h l alone own q j w e =
    ⊎_elim
    (λ (d : q ≡ p).
    let s : Live k v ≡ Live j w = sym (get_or-set_same cs p (Live k v) Empty l) ∙ ap (cell_at (set cs p (Live k v))) (sym d) ∙ e in
    ap (sought (set cs p (Live k v))) (sym (live_key k j v w s)) ∙ own ∙ ap Some (sym d))
    (λ (d : q ≡ p → ⊥).
    let s : cell_at cs q ≡ Live j w = sym (get_or-set_other cs p q (Live k v) Empty d) ∙ e in
    sought_set cs p (Live k v) j (Some q)
    (seek_keep (length cs) cs j p (Live k v) q l (ne_eqb k j (λ x. d (alone q w (s ∙ ap (λ y. Live y w) (sym x))))) d (length cs) 0 (h q j w s)))
    (cases_eq q p)

held_live : (cs : List Cell) (p k : ℕ) (v : Value) → Found (set cs p (Live k v)) → p < length cs → ((j : ℕ) → eqb k j ≡ false → Other j (cell_at cs p)) → held (set cs p (Live k v)) ≡ insert (held cs) k v
held_live cs p k v h l old =
    ext (held (set cs p (Live k v))) (insert (held cs) k v) (held_ascending (set cs p (Live k v))) (insert_ascends (held cs) k v (held_ascending cs))
    (λ j. ⊎_elim
    (λ (e : eqb k j ≡ true).
    ap (find (held (set cs p (Live k v)))) (sym (eqb-true k j e))
    ∙ seen (set cs p (Live k v)) h k p v (get_or-set_same cs p (Live k v) Empty l)
    ∙ sym (cond-true (eqb k j) (Some v) (find (held cs) j) e) ∙ sym (find_insert (held cs) k v j))
    (λ (e : eqb k j ≡ false).
    find_set cs p (Live k v) j e (old j e)
    ∙ sym (cond-false (eqb k j) (Some v) (find (held cs) j) e) ∙ sym (find_insert (held cs) k v j))
    (cases_Bool (eqb k j)))

-- words that fit, after a write
worded_set : (cs : List Cell) (p : ℕ) (c : Cell) → p < length cs → Worded cs → ((k : ℕ) (v : Value) → c ≡ Live k v → FitsWords k v) → Worded (set cs p c)
worded_set cs p c l h new q k v e =
    ⊎_elim
    (λ (d : q ≡ p). new k v (sym (get_or-set_same cs p c Empty l) ∙ ap (cell_at (set cs p c)) (sym d) ∙ e))
    (λ (d : q ≡ p → ⊥). h q k v (sym (get_or-set_other cs p q c Empty d) ∙ e))
    (cases_eq q p)

live_fits : (k : ℕ) (v : Value) → FitsWords k v → (j : ℕ) (w : Value) → Live k v ≡ Live j w → FitsWords j w
live_fits k v f j w e = subst (λ x. FitsWords j x) (live_value k j v w e) (subst (λ x. FitsWords x v) (live_key k j v w e) f)

limits_set : (cs : List Cell) (p : ℕ) (c : Cell) (m : ℕ) → Limits (length cs) m → Limits (length (set cs p c)) m
limits_set cs p c m h = rw length-set h

put_replaced : (cs : List Cell) (m k p : ℕ) (v : Value) → FitsWords k v → Stand cs m → sought cs k ≡ Some p → Stand (set cs p (Live k v)) m × (held (set cs p (Live k v)) ≡ insert (held cs) k v)
put_replaced cs m k p v fit s e =
    let w = seek_sound (length cs) cs k (length cs) 0 p e in
    let l : p < length cs = live_in cs p k w.0 w.1 in
    let own = sought_set cs p (Live k v) k (Some p) (seek_again (length cs) cs k p v l (length cs) 0 e) in
    let f = found_live cs p k v s.found l (λ q u d. some_same (sought cs k) q p (s.found q k u d) e) own in
    let n = count_set cs p (Live k v) l in
    let o : live_one (cell_at cs p) ≡ 1 = ap live_one w.1 in (
      record { limits = limits_set cs p (Live k v) m s.limits; found = f; worded = worded_set cs p (Live k v) l s.worded (live_fits k v fit); room = let r = s.room in omega arith },
      held_live cs p k v f l (λ j d. subst (Other j) (sym w.1) d),
    )

put_fresh : (cs : List Cell) (m k p : ℕ) (v : Value) → FitsWords k v → Stand cs m → sought cs k ≡ None → live_count cs < m → vacancy cs k ≡ Some p → Stand (set cs p (Live k v)) m × (held (set cs p (Live k v)) ≡ insert (held cs) k v)
put_fresh cs m k p v fit s e b g =
    let z : 0 < length cs = let t = s.limits in omega arith in
    let w = free_sound (length cs) cs k z (length cs) 0 p g in
    let own = sought_set cs p (Live k v) k (Some p) (seek_new (length cs) cs k p v w.0 (length cs) 0 e g) in
    let f = found_live cs p k v s.found w.0 (λ q u d. absurd (none_some (sought cs k) q e (s.found q k u d))) own in
    let n = count_set cs p (Live k v) w.0 in
    let o : live_one (cell_at cs p) ≡ 0 = idle_one (cell_at cs p) w.1 in (
      record { limits = limits_set cs p (Live k v) m s.limits; found = f; worded = worded_set cs p (Live k v) w.0 s.worded (live_fits k v fit); room = omega arith },
      held_live cs p k v f w.0 (λ j d. idle_other j (cell_at cs p) w.1),
    )

room_left : (cs : List Cell) (m k : ℕ) → Stand cs m → live_count cs < m → sought cs k ≡ None → vacancy cs k ≡ None → ⊥
room_left cs m k s b g e = let n = vacancy_none cs k g e in let t = s.limits in omega arith

-- the refusal
refuses_seen : (cs : List Cell) (m k p : ℕ) → Stand cs m → sought cs k ≡ Some p → refuses (held cs) m k ≡ false
refuses_seen cs m k p s e = ap (λ x. not x && leb m (length (held cs))) (has_seen cs s.found k p e)

refuses_unseen : (cs : List Cell) (m k : ℕ) → Stand cs m → sought cs k ≡ None → refuses (held cs) m k ≡ leb m (live_count cs)
refuses_unseen cs m k s e =
    ap (λ x. not x && leb m (length (held cs))) (has_unseen cs s.found k e)
    ∙ ap (leb m) (sym (count_held cs (found_distinct cs s.found)))

-- put

put_stand : (cs : List Cell) (m k : ℕ) (v : Value) → FitsWords k v → Stand cs m → Stand (put_cells cs m k v) m × (held (put_cells cs m k v) ≡ put_pairs (held cs) m k v)
put_stand cs m k v fit s = by (sought cs k) refl where
  fresh : (o : Option ℕ) → sought cs k ≡ None → live_count cs < m → vacancy cs k ≡ o → Stand (write_at o cs (Live k v)) m × (held (write_at o cs (Live k v)) ≡ insert (held cs) k v)
  fresh None e b g = absurd (room_left cs m k s b e g)
  fresh (Some p) e b g = put_fresh cs m k p v fit s e b g

  by : (o : Option ℕ) → sought cs k ≡ o → Stand (write_at (option_or o (cond (leb m (live_count cs)) None (vacancy cs k))) cs (Live k v)) m × (held (write_at (option_or o (cond (leb m (live_count cs)) None (vacancy cs k))) cs (Live k v)) ≡ put_pairs (held cs) m k v)
  by (Some p) e =
      let r = put_replaced cs m k p v fit s e in
      (r.0, r.1 ∙ sym (cond-false (refuses (held cs) m k) (held cs) (insert (held cs) k v) (refuses_seen cs m k p s e)))
  by None e =
      let q = refuses_unseen cs m k s e in
      cond_both (leb m (live_count cs)) None (vacancy cs k) (λ o. Stand (write_at o cs (Live k v)) m × (held (write_at o cs (Live k v)) ≡ put_pairs (held cs) m k v))
      (λ t. (s, sym (cond-true (refuses (held cs) m k) (held cs) (insert (held cs) k v) (q ∙ t))))
      (λ t. let r = fresh (vacancy cs k) e (leb-false m (live_count cs) t) refl in
      (r.0, r.1 ∙ sym (cond-false (refuses (held cs) m k) (held cs) (insert (held cs) k v) (q ∙ t))))

-- remove

found_gone : (cs : List Cell) (p : ℕ) → Found cs → p < length cs → Found (set cs p Gone)
found_gone cs p h l q j w e =
    ⊎_elim
    (λ (d : q ≡ p). absurd (gone_live j w (sym (get_or-set_same cs p Gone Empty l) ∙ ap (cell_at (set cs p Gone)) (sym d) ∙ e)))
    (λ (d : q ≡ p → ⊥).
    let s : cell_at cs q ≡ Live j w = sym (get_or-set_other cs p q Gone Empty d) ∙ e in
    sought_set cs p Gone j (Some q) (seek_keep (length cs) cs j p Gone q l tt d (length cs) 0 (h q j w s)))
    (cases_eq q p)

held_gone : (cs : List Cell) (k p : ℕ) → Found cs → sought cs k ≡ Some p → held (set cs p Gone) ≡ erase (held cs) k
held_gone cs k p h e =
    let w = seek_sound (length cs) cs k (length cs) 0 p e in
    let l : p < length cs = live_in cs p k w.0 w.1 in
    let none : Without (set cs p Gone) k = λ q u d.
    ⊎_elim
    (λ (x : q ≡ p). gone_live k u (sym (get_or-set_same cs p Gone Empty l) ∙ ap (cell_at (set cs p Gone)) (sym x) ∙ d))
    (λ (x : q ≡ p → ⊥). x (some_same (sought cs k) q p (h q k u (sym (get_or-set_other cs p q Gone Empty x) ∙ d)) e))
    (cases_eq q p) in
    ext (held (set cs p Gone)) (erase (held cs) k) (held_ascending (set cs p Gone)) (erase_ascends (held cs) k (held_ascending cs))
    (λ j. ⊎_elim
    (λ (d : eqb k j ≡ true).
    ap (find (held (set cs p Gone))) (sym (eqb-true k j d)) ∙ held_none (set cs p Gone) k none
    ∙ sym (cond-true (eqb k j) None (find (held cs) j) d) ∙ sym (find_erase (held cs) k j (held_ascending cs)))
    (λ (d : eqb k j ≡ false).
    find_set cs p Gone j tt (subst (Other j) (sym w.1) d)
    ∙ sym (cond-false (eqb k j) None (find (held cs) j) d) ∙ sym (find_erase (held cs) k j (held_ascending cs)))
    (cases_Bool (eqb k j)))

remove_stand : (cs : List Cell) (m k : ℕ) → Stand cs m → Stand (remove_cells cs k) m × (held (remove_cells cs k) ≡ erase (held cs) k)
remove_stand cs m k s = by (sought cs k) refl where
  by : (o : Option ℕ) → sought cs k ≡ o → Stand (write_at o cs Gone) m × (held (write_at o cs Gone) ≡ erase (held cs) k)
  by None e = (s, sym (erase_absent (held cs) k (unseen cs s.found k e)))
  by (Some p) e =
      let w = seek_sound (length cs) cs k (length cs) 0 p e in
      let l : p < length cs = live_in cs p k w.0 w.1 in
      let n = count_set cs p Gone l in (
        record { limits = limits_set cs p Gone m s.limits; found = found_gone cs p s.found l; worded = worded_set cs p Gone l s.worded (λ j w d. absurd (gone_live j w d)); room = let r = s.room in omega arith },
        held_gone cs k p s.found e,
      )

-- the same of a table that stands

module _ (cs : List Cell) (m k : ℕ) (standing : Standing cs m) where
  pub put_stands : (v : Value) → FitsWords k v → Standing (put_cells cs m k v) m × (held (put_cells cs m k v) ≡ put_pairs (held cs) m k v)
  put_stands v fit = let r = put_stand cs m k v fit (stand_in cs m standing) in (stand_out (put_cells cs m k v) m r.0, r.1)

  pub remove_stands : Standing (remove_cells cs k) m × (held (remove_cells cs k) ≡ erase (held cs) k)
  remove_stands = let r = remove_stand cs m k (stand_in cs m standing) in (stand_out (remove_cells cs k) m r.0, r.1)

  -- where the walk finds k, k's value is, and nowhere else

  pub sought_lt : (p : ℕ) → sought cs k ≡ Some p → p < length cs
  sought_lt p e = let w = seek_sound (length cs) cs k (length cs) 0 p e in live_in cs p k w.0 w.1

  pub sought_value : (p : ℕ) → sought cs k ≡ Some p → value_of (cell_at cs p) ≡ find (held cs) k
  sought_value p e =
      let w = seek_sound (length cs) cs k (length cs) 0 p e in
      ap value_of w.1 ∙ sym (seen cs (stand_in cs m standing).found k p w.0 w.1)

  pub sought_none : sought cs k ≡ None → find (held cs) k ≡ None
  sought_none e = unseen cs (stand_in cs m standing).found k e

  pub sought_has : has (held cs) k ≡ is_some (sought cs k)
  sought_has = by (sought cs k) refl where
    by : (o : Option ℕ) → sought cs k ≡ o → has (held cs) k ≡ is_some o
    by None e = ap is_some (sought_none e)
    by (Some p) e = has_seen cs (stand_in cs m standing).found k p e

  -- a put is refused where the walk does not find k, and the table is full

  pub refused_full : is_some (sought cs k) ≡ false → m ≤ length (held cs) → refuses (held cs) m k ≡ true
  refused_full e l = and_from (not (has (held cs) k)) (leb m (length (held cs))) (ap not (sought_has ∙ e)) (le-leb m (length (held cs)) l)

  pub taken_again : is_some (sought cs k) ≡ true → refuses (held cs) m k ≡ false
  taken_again e = ap (λ x. not x && leb m (length (held cs))) (sought_has ∙ e)

  pub taken_new : length (held cs) < m → refuses (held cs) m k ≡ false
  taken_new l = ap (λ x. not (has (held cs) k) && x) (lt-leb m (length (held cs)) l) ∙ none (not (has (held cs) k)) where
    none : (b : Bool) → b && false ≡ false
    none true = refl
    none false = refl

  -- a put that is refused writes nowhere, and any other where the walk says

  pub place_refused : refuses (held cs) m k ≡ true → put_place cs m k ≡ None
  place_refused r = by (sought cs k) refl where
    by : (o : Option ℕ) → sought cs k ≡ o → option_or o (cond (leb m (live_count cs)) None (vacancy cs k)) ≡ None
    by None e = cond-true (leb m (live_count cs)) None (vacancy cs k) (sym (refuses_unseen cs m k (stand_in cs m standing) e) ∙ r)
    by (Some p) e = absurd (true≢false (sym r ∙ refuses_seen cs m k p (stand_in cs m standing) e))

  pub place_taken : refuses (held cs) m k ≡ false → put_place cs m k ≡ option_or (sought cs k) (vacancy cs k)
  place_taken r = by (sought cs k) refl where
    by : (o : Option ℕ) → sought cs k ≡ o → option_or o (cond (leb m (live_count cs)) None (vacancy cs k)) ≡ option_or o (vacancy cs k)
    by None e = cond-false (leb m (live_count cs)) None (vacancy cs k) (sym (refuses_unseen cs m k (stand_in cs m standing) e) ∙ r)
    by (Some p) e = refl

  pub place_lt : (p : ℕ) → option_or (sought cs k) (vacancy cs k) ≡ Some p → p < length cs
  place_lt p e = by (sought cs k) refl e where
    by : (o : Option ℕ) → sought cs k ≡ o → option_or o (vacancy cs k) ≡ Some p → p < length cs
    by None d h = let z : 0 < length cs = let t = standing.limits in omega arith in (free_sound (length cs) cs k z (length cs) 0 p h).0
    by (Some q) d h = sought_lt p (d ∙ h)

  pub place_there : refuses (held cs) m k ≡ false → option_or (sought cs k) (vacancy cs k) ≡ None → ⊥
  place_there r e = by (sought cs k) refl e where
    by : (o : Option ℕ) → sought cs k ≡ o → option_or o (vacancy cs k) ≡ None → ⊥
    by None d h = room_left cs m k (stand_in cs m standing) (leb-false m (live_count cs) (sym (refuses_unseen cs m k (stand_in cs m standing) d) ∙ r)) d h
    by (Some q) d h = none_some (Some q) q h refl

-- A whole run: from an opening over lent stores to the machine's answers, stores and end.
use Rattle.std.proofs.Common.{◌≡◌, ℕ, ◌%◌, ◌^◌, List, length, Ok, Err, Result, vec_items, sym, refl, ap, ◌∙◌, subst}
use Rattle.std.proofs.lemmas.Bool.{cond-false}
use Rattle.placement.specs.Laws.{Rule, Lawful}
use Rattle.store.specs.Meaning.{Meaning}
use Rattle.machine.specs.declared.call.Call.{Call}
use Rattle.machine.specs.declared.answer.Answer.{Answer}
use Rattle.machine.specs.declared.fault.Fault.{Fault}
use Rattle.machine.specs.declared.fault.Fault.TheVariants.{BeyondLimit}
use Rattle.machine.specs.Books.{Book}
use Rattle.machine.specs.OneMap as one
use Rattle.machine.specs.OneMap.{within_limits}
use Rattle.machine.specs.Lent as lent
use Rattle.machine.specs.Lent.{Lent}
use Rattle.machine.specs.Holds.{Holds, Empty, caps_of}
use Rattle.machine.specs.Laws.{gains, ReadsBack}
use Rattle.machine.specs.Statements.{closing_of, close}
use Rattle.machine.proofs.Agreeing.{list_agrees}
use Rattle.machine.proofs.Openings.{opening_holds, empty_refused, caps_length}
use Rattle.machine.proofs.Counting.{copies_counted}
use Rattle.machine.proofs.Reading.{reads_back}
use Rattle.serving.specs.Calls.{over}
use Rattle.service.specs.declared.states.Settled.{Settled}
use Rattle.service.specs.declared.handed.Kept.{Kept}
use Rattle.service.specs.Books.{settled_book, opened, opened_placement}
use Rattle.holder.specs.declared.Service.{Service}
use Rattle.holder.specs.declared.Service.TheVariants as service
use Rattle.holder.specs.Books.{service_book, placement_of, service_closed}
use Rattle.cluster.specs.declared.runs.Ending.{Ending}
use Rattle.cluster.specs.declared.runs.Ending.TheVariants.{LeaveOpen, Close}
use Rattle.cluster.specs.declared.runs.End.{End}
use Rattle.cluster.specs.declared.runs.Ran.{Ran}
use Rattle.cluster.specs.declared.runs.Unrun.TheVariants.{Refused, NoMemory}
use Rattle.cluster.specs.Runs.{start, ended, EndsAs, copied_in, placement_in, RanAs, UnrunAs}

module _ {P : Type 0} where
  -- what a service has is what it says when it is closed
  closing_is : (s : Service P) → closing_of (service_closed s).statement ≡ close (service_book s)
  closing_is (service.Settled s) = refl
  closing_is (service.Moving m) = refl

  end_copied : (e : Ending) (s : Service P) → copied_in (ended e s) ≡ (service_book s).copied
  end_copied LeaveOpen s = refl
  end_copied Close (service.Settled s) = refl
  end_copied Close (service.Moving m) = refl

  end_placement : (e : Ending) (s : Service P) → placement_in (ended e s) ≡ placement_of s
  end_placement LeaveOpen s = refl
  end_placement Close (service.Settled s) = refl
  end_placement Close (service.Moving m) = refl

  end_book : (e : Ending) (s : Service P) (b : Book) → service_book s ≡ b → EndsAs e b (ended e s)
  end_book LeaveOpen s b h = h
  end_book Close s b h = closing_is s ∙ ap close h

module _ (p : Rule) (st : List Meaning) (m r : ℕ) where
  refused_alike : (f : Fault) → Err f ≡ lent.opening p st m r → Empty st → (one.opening p (caps_of st) m r ≡ Err BeyondLimit) × (f ≡ BeyondLimit)
  refused_alike f e empty =
      let q = empty_refused p st m r empty f (sym e) in (
        cond-false (within_limits p (length (caps_of st)) m r) (Ok (start st m r)) (Err BeyondLimit) (ap (λ (n : ℕ). within_limits p n m r) (caps_length st) ∙ q.0),
        q.1,
      )

-- from what an opening with placement x over stores st handed back
module _ {P : Type 0} (rule : P → Rule) (x : P) (st : List Meaning) (m r : ℕ) (res : Result (Settled P) (Kept P))
    (opens : opened st res ≡ lent.opening (rule x) st m r) (kept : opened_placement res ≡ x) where
  abbrev p : Rule
  p = rule x

  opens_with : (s : Settled P) → res ≡ Ok s → Ok (over st (settled_book s)) ≡ lent.opening p st m r
  opens_with s is = ap (λ (y : Result (Settled P) (Kept P)). opened st y) (sym is) ∙ opens

  kept_in : (s : Settled P) → res ≡ Ok s → s.placement ≡ x
  kept_in s is = ap (λ (y : Result (Settled P) (Kept P)). opened_placement y) (sym is) ∙ kept

  pub refused : (k : Kept P) → res ≡ Err k → UnrunAs p x st m r st (Refused k)
  refused k is =
      let e : Err k.fault ≡ lent.opening p st m r = ap (λ (y : Result (Settled P) (Kept P)). opened st y) (sym is) ∙ opens in
      record {
        fault = sym e;
        over_empty = refused_alike p st m r k.fault e;
        stores = refl;
        placement = ap (λ (y : Result (Settled P) (Kept P)). opened_placement y) (sym is) ∙ kept;
      }

  pub unstarted : (s : Settled P) → res ≡ Ok s → (y : P) → y ≡ s.placement → UnrunAs p x st m r st (NoMemory y)
  unstarted s is y e =
      let opening = opening_holds p st m r (over st (settled_book s)) (sym (opens_with s is)) in
      record { empty = opening.0; opened = opening.1.alike; stores = refl; placement = e ∙ kept_in s is }

  pub ran : Lawful p → (s : Settled P) → res ≡ Ok s → (cs : List Call) (ending : Ending) (st' : List Meaning) (t : Service P) (a : Ran P) →
      vec_items a.answers ≡ lent.answers (rule s.placement) (over st (settled_book s)) cs →
      over st' (service_book t) ≡ lent.after (rule s.placement) (over st (settled_book s)) cs →
      placement_of t ≡ s.placement → a.end ≡ ended ending t → RanAs p x st m r cs ending st' a
  ran law s is cs ending st' t a items leaves same end =
      let l = over st (settled_book s) in
      let opening = opening_holds p st m r l (sym (opens_with s is)) in
      let o = one.after p (start st m r) cs in
      let agrees = list_agrees p law (start st m r) l opening.1.holds cs in
      let after : over st' (service_book t) ≡ lent.after p l cs = leaves ∙ ap (λ (y : P). lent.after (rule y) l cs) (kept_in s is) in
      let h : Holds p o (over st' (service_book t)) = subst (λ (y : Lent). Holds p o y) (sym after) agrees.1 in
      let answers : vec_items a.answers ≡ one.answers p (start st m r) cs =
      items ∙ ap (λ (y : P). lent.answers (rule y) l cs) (kept_in s is) ∙ agrees.0 in
      record {
        empty = opening.0;
        opened = opening.1.alike;
        answers = answers;
        stores = record { as_many = h.count; pairs = h.pairs; caps = h.caps };
        copies =
            ap copied_in end ∙ end_copied ending t ∙ ap (λ (y : Book). y.copied) h.book ∙ copies_counted p (caps_of st) m r cs
            ∙ ap (λ (y : List Answer). gains y % 2 ^ 64) (sym answers);
        ends = subst (λ (y : End P). EndsAs ending o.book y) (sym end) (end_book ending t o.book h.book);
        reads_back = subst (λ (y : List Answer). ReadsBack cs y) (sym answers) (reads_back p (caps_of st) m r cs);
        placement = ap placement_in end ∙ end_placement ending t ∙ same ∙ kept_in s is;
      }

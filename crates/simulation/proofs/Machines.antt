-- The machine of an opening, and a run over the first of sixteen empty stores.
use Rattle.std.proofs.Common.{◌≡◌, ℕ, zero, suc, ◌<◌, ◌≤◌, ◌&&◌, leb, List, ◌∷◌, ◌++◌, length, take, replicate, Ok, Err, vec_items, sym, refl, ap, ◌∙◌, subst, ⊎_elim, arith, MatchResult, Result}
use Rattle.std.specs.Result.{IsErrAnd}
use lib.ListN.{length-replicate}
use Rattle.std.proofs.lemmas.Bool.{cond-true, cond-false, cases_lt}
use Rattle.std.proofs.lemmas.Bool.Decides.{nat_tests}
use Rattle.placement.specs.declared.policies.Policy.{Policy}
use Rattle.placement.specs.Policies.{rule_of}
use Rattle.store.specs.Meaning.{Meaning}
use Rattle.machine.specs.declared.fault.Fault.TheVariants.{BeyondLimit}
use Rattle.machine.specs.Books.{Book}
use Rattle.machine.specs.OneMap as one
use Rattle.machine.specs.OneMap.{OneMap}
use Rattle.machine.specs.Holds.{Empty, caps_of}
use Rattle.machine.specs.declared.answer.Answer.{Answer}
use Rattle.machine.specs.declared.statement.Statement.{Statement}
use Rattle.machine.specs.Statements.{closing_of, close}
use Rattle.cluster.specs.declared.runs.Ending.TheVariants.{Close}
use Rattle.cluster.specs.declared.runs.End.{End}
use Rattle.cluster.specs.declared.runs.End.TheVariants as end
use Rattle.cluster.specs.declared.runs.Ran.{Ran}
use Rattle.cluster.specs.declared.runs.Unrun.{Unrun}
use Rattle.cluster.specs.declared.runs.Unrun.TheVariants.{Refused, NoMemory}
use Rattle.cluster.specs.Runs.{RanAs, UnrunAs, EndsAs, start}
use Rattle.grammar.specs.declared.opening.Opening.{Opening}
use Rattle.transcript.specs.declared.report.Report.TheVariants.{Ready}
use Rattle.transcript.specs.Texts.{row_text, counts_text, closing_text}
use Rattle.transcript.specs.Sessions.{Row, session_text, machine_of}
use Rattle.transcript.specs.Woven.{calls_of, woven, counts_of}
use Rattle.transcript.proofs.Ends.{counts_are_loads, whole_text}
use Rattle.simulation.specs.Vacant.{vacant}
use Rattle.simulation.specs.Ends.{Served, Ended, Unopened, statement_in, run_fault}

-- an outcome whose error was made into another
pub mapped : {T E D : Type 0} (r : Result T E) (m : Result T D) (P : T → Type 0) (Q : E → Type 0) (made : E → D → Type 0) →
    MatchResult r P Q → MatchResult r (λ x. m ≡ Ok x) (λ e. IsErrAnd m (made e)) → MatchResult m P (λ d. (e : E) × (Q e × made e d))
mapped (Ok x) m P Q made p e = subst (λ m. MatchResult m P (λ d. (e : _) × (Q e × made e d))) (sym e) p
mapped (Err e) (Ok y) P Q made q h = absurd h
mapped (Err e) (Err d) P Q made q h = (e, (q, h))

take_replicate : {A : Type 0} (n k : ℕ) (x : A) → n ≤ k → take n (replicate k x) ≡ replicate n x
take_replicate zero k x h = refl
take_replicate (suc n) zero x h = absurd (omega arith)
take_replicate (suc n) (suc k) x h = ap (λ l. x ∷ l) (take_replicate n k x (omega arith))

caps_replicate : (n c : ℕ) → caps_of (replicate n (vacant c)) ≡ replicate n c
caps_replicate zero c = refl
caps_replicate (suc n) c = ap (λ l. c ∷ l) (caps_replicate n c)

empty_replicate : (n c : ℕ) → Empty (replicate n (vacant c))
empty_replicate zero c s = refl
empty_replicate (suc n) c zero = refl
empty_replicate (suc n) c (suc s) = empty_replicate n c s

-- an opening within the limits of the stores is the machine's own
module _ (o : Opening) (low : 1 ≤ o.cap) (high : o.cap ≤ 64) where
  opens_itself : machine_of o ≡ one.opening (rule_of o.policy) (replicate o.stores o.cap) o.members o.copies
  opens_itself = cond-true (leb 1 o.cap && leb o.cap 64) _ _ (grind (arith, nat_tests))

module _ (o : Opening) (in-limits : Served o) (st : List Meaning) (are : st ≡ take o.stores (replicate 16 (vacant o.cap))) where
  all : st ≡ replicate o.stores (vacant o.cap)
  all = are ∙ take_replicate o.stores 16 (vacant o.cap) in-limits.few

  opens_over : machine_of o ≡ one.opening (rule_of o.policy) (caps_of st) o.members o.copies
  opens_over = opens_itself o in-limits.low in-limits.high ∙ ap (λ cs. one.opening (rule_of o.policy) cs o.members o.copies) (sym (ap caps_of all ∙ caps_replicate o.stores o.cap))

  pub unopened : (x : Policy) (st' : List Meaning) (u : Unrun Policy) → UnrunAs (rule_of o.policy) x st o.members o.copies st' u → Unopened o (run_fault u)
  unopened x st' (Refused k) h =
      let (machine, same) = h.over_empty (subst Empty (sym all) (empty_replicate o.stores o.cap)) in
      opens_over ∙ machine ∙ ap Err (sym same)
  unopened x st' (NoMemory y) h = tt

  closes : (e : End Policy) (b : Book) → EndsAs Close b e → closing_of (statement_in e) ≡ close b
  closes (end.Open s) b h = absurd h
  closes (end.Closed c) b h = h

  pub ended_session : (x : Policy) (rows : List Row) (st' : List Meaning) (a : Ran Policy) (xs : List Answer) (s : Statement) (out : List ℕ) →
      RanAs (rule_of o.policy) x st o.members o.copies (calls_of rows) Close st' a →
      xs ≡ vec_items a.answers → s ≡ statement_in a.end →
      out ≡ row_text 1 (Ok Ready) ++ (woven 2 rows xs ++ (counts_text 0 (counts_of st') ++ closing_text (closing_of s))) →
      Ended o rows out
  ended_session x rows st' a xs s out h same also e =
      let p = rule_of o.policy in
      let m = start st o.members o.copies in
      let text : out ≡ row_text 1 (Ok Ready) ++ session_text p m 2 rows =
      e ∙ ap (λ t. row_text 1 (Ok Ready) ++ t)
      (whole_text p m rows xs st' (closing_of s) 2 (same ∙ h.answers)
      (counts_are_loads p (one.after p m (calls_of rows)) st' h.stores.as_many h.stores.pairs)
      (ap closing_of also ∙ closes a.end (one.after p m (calls_of rows)).book h.ends)) in
      subst (λ r. MatchResult r (λ n. out ≡ row_text 1 (Ok Ready) ++ session_text p n 2 rows) (λ f. ⊥)) (sym (opens_over ∙ h.opened)) text

-- beyond those limits the machine refuses too
pub cap_refused : (o : Opening) → (1 ≤ o.cap → o.cap ≤ 64 → ⊥) → machine_of o ≡ Err BeyondLimit
cap_refused o h = cond-false (leb 1 o.cap && leb o.cap 64) _ _ (grind (arith, nat_tests))

pub stores_refused : (o : Opening) → 16 < o.stores → machine_of o ≡ Err BeyondLimit
stores_refused o h = ⊎_elim (λ (l : o.cap < 1). cap_refused o (λ a b. omega arith)) (λ (l : 1 ≤ o.cap). ⊎_elim (λ (g : 64 < o.cap). cap_refused o (λ a b. omega arith)) (λ (g : o.cap ≤ 64). opens_itself o l g ∙ many) (cases_lt 64 o.cap)) (cases_lt o.cap 1)
  where
    many : one.opening (rule_of o.policy) (replicate o.stores o.cap) o.members o.copies ≡ Err BeyondLimit
    many = let long = length-replicate o.stores o.cap in cond-false (one.within_limits (rule_of o.policy) (length (replicate o.stores o.cap)) o.members o.copies) _ _ (grind (arith, nat_tests))

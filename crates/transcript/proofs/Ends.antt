-- The end of a transcript, and its whole, from a run's answers and stores.
use Rattle.std.proofs.Common.{◌≡◌, ℕ, zero, suc, ◌+◌, ◌<◌, ◌≤◌, List, [], ◌∷◌, ◌++◌, map, length, drop, Ok, Err, sym, refl, ap, ◌∙◌, subst, append_assoc, arith}
use Rattle.std.proofs.lemmas.List.{drop_all}
use Rattle.lists.specs.Numbers.{count_up}
use Rattle.placement.specs.Laws.{Rule}
use Rattle.pairs.specs.Pairs.{keep}
use Rattle.store.specs.Meaning.{Meaning}
use Rattle.store.specs.Stores.{nth}
use Rattle.machine.specs.declared.answer.Answer.{Answer}
use Rattle.machine.specs.Books.{on}
use Rattle.machine.specs.OneMap as one
use Rattle.machine.specs.OneMap.{OneMap}
use Rattle.machine.specs.Statements.{Closing, close}
use Rattle.grammar.specs.Lines.{call_of}
use Rattle.transcript.specs.declared.fault.RunFault.TheVariants.{Line}
use Rattle.transcript.specs.Reports.{report_of, served}
use Rattle.transcript.specs.Texts.{row_text, count_text, counts_text, closing_text}
use Rattle.transcript.specs.Sessions.{Row, loads, ending_text, session_text}
use Rattle.transcript.specs.Woven.{calls_of, woven, counts_of}

-- a session is its rows beside the answers of the whole list of calls, and then the end
pub session_woven : (p : Rule) (o : OneMap) (n : ℕ) (rows : List Row) →
    session_text p o n rows ≡ woven n rows (one.answers p o (calls_of rows)) ++ ending_text p (one.after p o (calls_of rows))
session_woven p o n [] = refl
session_woven p o n (Err f ∷ rows) =
    ap (λ l. row_text n (Err (Line f)) ++ l) (session_woven p o (n + 1) rows) ∙ sym (append_assoc (row_text n (Err (Line f))) _ _)
session_woven p o n (Ok c ∷ rows) =
    let row = row_text n (served (report_of (one.call p o (call_of c)).answer)) in
    ap (λ l. row ++ l) (session_woven p (one.call p o (call_of c)).after (n + 1) rows) ∙ sym (append_assoc row _ _)

-- counts place by place
counts_from : (st : List Meaning) (i : ℕ) (f : ℕ → ℕ) → ((s : ℕ) → s < length st → length (nth st s).pairs ≡ f (i + s)) → counts_of st ≡ map f (count_up i (length st))
counts_from [] i f h = refl
counts_from (x ∷ st) i f h =
    let here : length x.pairs ≡ f i = h 0 (omega arith) ∙ ap f (omega arith) in
    let there : counts_of st ≡ map f (count_up (i + 1) (length st)) = counts_from st (i + 1) f (λ s l. h (suc s) (omega arith) ∙ ap f (omega arith)) in
    (λ k. here k ∷ there k)

-- where each store holds what the machine places on it, the counts are the machine's loads
pub counts_are_loads : (p : Rule) (o : OneMap) (st : List Meaning) → length st ≡ length o.caps →
    ((s : ℕ) → s < length o.caps → (nth st s).pairs ≡ keep (on p o.book s) o.entries) → counts_of st ≡ loads p o
counts_are_loads p o st e h =
    counts_from st 0 (one.load p o) (λ s l. ap length (h s (omega arith)) ∙ ap (one.load p o) (omega arith))
    ∙ ap (λ n. map (one.load p o) (count_up 0 n)) e

-- the text of a run whose answers, counts and end are the machine's
pub whole_text : (p : Rule) (o : OneMap) (rows : List Row) (xs : List Answer) (st : List Meaning) (c : Closing) (n : ℕ) →
    xs ≡ one.answers p o (calls_of rows) → counts_of st ≡ loads p (one.after p o (calls_of rows)) → c ≡ close (one.after p o (calls_of rows)).book →
    woven n rows xs ++ (counts_text 0 (counts_of st) ++ closing_text c) ≡ session_text p o n rows
whole_text p o rows xs st c n e l d = (λ k. woven n rows (e k) ++ (counts_text 0 (l k) ++ closing_text (d k))) ∙ sym (session_woven p o n rows)

-- a part is written, and the rest is left
pub wrote : {A : Type 0} (before after part rest whole total : List A) → after ≡ before ++ part → whole ≡ part ++ rest → before ++ whole ≡ total → after ++ rest ≡ total
wrote before after part rest whole total e w h =
    ap (λ b. b ++ rest) e ∙ append_assoc before part rest ∙ ap (λ l. before ++ l) (sym w) ∙ h

-- one count after the other
counts_drop : (st : List Meaning) (s : ℕ) → s < length st → drop s (counts_of st) ≡ length (nth st s).pairs ∷ drop (suc s) (counts_of st)
counts_drop [] s h = absurd (omega arith)
counts_drop (x ∷ st) zero h = refl
counts_drop (x ∷ st) (suc s) h = counts_drop st s (omega arith)

pub counts_more : (st : List Meaning) (s : ℕ) → s < length st → counts_text s (drop s (counts_of st)) ≡ count_text s (length (nth st s).pairs) ++ counts_text (s + 1) (drop (s + 1) (counts_of st))
counts_more st s h =
    let up : suc s ≡ s + 1 = omega arith in
    ap (counts_text s) (counts_drop st s h)
    ∙ ap (λ n. count_text s (length (nth st s).pairs) ++ counts_text (s + 1) (drop n (counts_of st))) up

pub counts_all : (st : List Meaning) (s : ℕ) → length st ≤ s → counts_text s (drop s (counts_of st)) ≡ []
counts_all st s h = ap (counts_text s) (drop_all s (counts_of st) (subst (λ n. n ≤ s) (sym (counted st)) h))
  where
    counted : (st : List Meaning) → length (counts_of st) ≡ length st
    counted [] = refl
    counted (x ∷ st) = ap suc (counted st)

-- A script has one transcript.
use Rattle.std.proofs.Common.{◌≡◌, ℕ, ◌+◌, Bool, true, false, ltb, List, [], ◌∷◌, ◌++◌, length, Ok, Err, codes, decimal, MatchBool, Result, sym, refl, ap, ◌∙◌, subst, MatchResult}
use Rattle.placement.specs.Laws.{Rule}
use Rattle.placement.specs.Policies.{rule_of}
use Rattle.machine.specs.OneMap as one
use Rattle.machine.specs.OneMap.{OneMap}
use Rattle.machine.specs.declared.fault.Fault.{Fault}
use Rattle.grammar.specs.declared.opening.Opening.{Opening}
use Rattle.grammar.specs.declared.fault.LineFault.{LineFault}
use Rattle.grammar.specs.Faults.{place_of}
use Rattle.grammar.specs.Lines.{Legal, GivesOpening, LegalOpening, Refuses, call_of, lines_of}
use Rattle.grammar.proofs.Once.{gives_once, opens_once, rejects_once}
use Rattle.transcript.specs.declared.fault.RunFault.TheVariants.{TooLong, Line, Service}
use Rattle.transcript.specs.declared.report.Report.TheVariants.{Ready}
use Rattle.transcript.specs.Reports.{report_of, served}
use Rattle.transcript.specs.Texts.{row_text}
use Rattle.transcript.specs.Sessions.{Row, RowsRead, session_text, machine_of, Runs, RefusedWith, OpensAs, first_line, later_lines, Session, longest_script, OneTranscript}

-- two refusals of one line have one column, and are printed alike
refusals_alike : (L : List ℕ → Type 0) (n : ℕ) (l : List ℕ) (f g : LineFault) → Refuses L n l f → Refuses L n l g → (m : ℕ) → row_text m (Err (Line f)) ≡ row_text m (Err (Line g))
refusals_alike L n l f g a b m = ap (λ c. decimal m ++ (codes " " ++ ((codes "no 1 " ++ decimal c) ++ codes "\n"))) (rejects_once L l (place_of f).column (place_of g).column a.column b.column)

never_both : (L : List ℕ → Type 0) (n : ℕ) (l : List ℕ) (f : LineFault) → L l → Refuses L n l f → ⊥
never_both L n l f h r = r.column.stops.none h

sessions_alike : (p : Rule) (o : OneMap) (n : ℕ) (ls : List (List ℕ)) (rs ss : List Row) → RowsRead n ls rs → RowsRead n ls ss → session_text p o n rs ≡ session_text p o n ss
sessions_alike p o n [] [] [] a b = refl
sessions_alike p o n [] (r ∷ rs) ss a b = absurd a
sessions_alike p o n [] [] (s ∷ ss) a b = absurd b
sessions_alike p o n (l ∷ ls) [] ss a b = absurd a
sessions_alike p o n (l ∷ ls) (r ∷ rs) [] a b = absurd b
sessions_alike p o n (l ∷ ls) (Ok c ∷ rs) (Ok d ∷ ss) (a, more) (b, also) =
    ap (λ x. session_text p o n (Ok x ∷ rs)) (gives_once l c d a b)
    ∙ ap (λ t. row_text n (served (report_of (one.call p o (call_of d)).answer)) ++ t) (sessions_alike p (one.call p o (call_of d)).after (n + 1) ls rs ss more also)
sessions_alike p o n (l ∷ ls) (Err f ∷ rs) (Err g ∷ ss) (a, more) (b, also) =
    λ k. refusals_alike Legal n l f g a b n k ++ sessions_alike p o (n + 1) ls rs ss more also k
sessions_alike p o n (l ∷ ls) (Ok c ∷ rs) (Err g ∷ ss) (a, more) (b, also) = absurd (never_both Legal n l g (c, a) b)
sessions_alike p o n (l ∷ ls) (Err f ∷ rs) (Ok d ∷ ss) (a, more) (b, also) = absurd (never_both Legal n l f (d, b) a)

opened_alike : (p : Rule) (ls : List (List ℕ)) (a b : List ℕ) (m : Result OneMap Fault) →
    MatchResult m (Runs p ls a) (λ f. RefusedWith (Service f) a) → MatchResult m (Runs p ls b) (λ f. RefusedWith (Service f) b) → a ≡ b
opened_alike p ls a b (Ok o) h k =
    h.text ∙ ap (λ t. row_text 1 (Ok Ready) ++ t) (sessions_alike p o 2 ls h.rows k.rows h.read k.read) ∙ sym k.text
opened_alike p ls a b (Err f) h k = h ∙ sym k

module _ (ls : List (List ℕ)) (a b : List ℕ) where
  lines_alike : (x y : Result Opening LineFault) →
      MatchResult x (GivesOpening (first_line ls)) (Refuses LegalOpening 1 (first_line ls)) → MatchResult y (GivesOpening (first_line ls)) (Refuses LegalOpening 1 (first_line ls)) →
      MatchResult x (OpensAs (later_lines ls) a) (λ f. RefusedWith (Line f) a) → MatchResult y (OpensAs (later_lines ls) b) (λ f. RefusedWith (Line f) b) → a ≡ b
  lines_alike (Ok o) (Ok q) g h s t =
      opened_alike (rule_of q.policy) (later_lines ls) a b (machine_of q) (subst (OpensAs (later_lines ls) a) (opens_once (first_line ls) o q g h) s) t
  lines_alike (Err f) (Err e) g h s t = s ∙ refusals_alike LegalOpening 1 (first_line ls) f e g h 1 ∙ sym t
  lines_alike (Ok o) (Err e) g h s t = absurd (never_both LegalOpening 1 (first_line ls) e (o, g) h)
  lines_alike (Err f) (Ok q) g h s t = absurd (never_both LegalOpening 1 (first_line ls) f (q, h) g)

either_alike : (long : Bool) (ls : List (List ℕ)) (a b : List ℕ) → MatchBool long (a ≡ row_text 0 (Err TooLong)) (Session ls a) → MatchBool long (b ≡ row_text 0 (Err TooLong)) (Session ls b) → a ≡ b
either_alike true ls a b h k = h ∙ sym k
either_alike false ls a b h k = lines_alike ls a b h.opening k.opening h.read k.read h.text k.text

pub one_transcript : OneTranscript
one_transcript script a b h k = either_alike (ltb longest_script (length script)) (lines_of script) a b h k

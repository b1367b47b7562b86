-- A script that does not run prints its refusal.
use Rattle.std.proofs.Common.{◌≡◌, ℕ, Bool, true, false, List, Some, Ok, Err, MatchBool, sym, subst, arith, MatchResult}
use Rattle.placement.specs.Policies.{rule_of}
use Rattle.grammar.specs.Lines.{lines_of}
use Rattle.transcript.specs.declared.fault.RunFault.{RunFault}
use Rattle.transcript.specs.declared.fault.RunFault.TheVariants.{TooLong, Line, Service, Memory}
use Rattle.transcript.specs.Texts.{row_text}
use Rattle.transcript.specs.Sessions.{Runs, RefusedWith, later_lines, Transcript}
use Rattle.simulation.specs.Ends.{Fails, Prints}

short : (b : Bool) (P Q : Type 0) → b ≡ false → Q → MatchBool b P Q
short b P Q e q = subst (λ x. MatchBool x P Q) (sym e) q

long : (b : Bool) (P Q : Type 0) → b ≡ true → P → MatchBool b P Q
long b P Q e p = subst (λ x. MatchBool x P Q) (sym e) p

-- the line of the refusal, which is known
numbered : (P : ℕ → Type 0) (n m : ℕ) → Some n ≡ Some m → P n → P m
numbered P n m e h = let same : n ≡ m = cc in subst P same h

pub failed : (script out : List ℕ) (f : RunFault) → Fails script f → Prints f out → Transcript script out
failed script out TooLong h s = long _ _ _ h (numbered (λ n. out ≡ row_text n (Err TooLong)) s.line 0 (sym s.numbered) s.text)
failed script out (Line f) (e, h) s =
    short _ _ _ e (record { opening = Err f; read = h; text = numbered (λ n. out ≡ row_text n (Err (Line f))) s.line 1 (sym s.numbered) s.text })
failed script out (Service f) (e, (o, h)) s =
    let ls = lines_of script in
    short _ _ _ e (record {
      opening = Ok o;
      read = h.given;
      text = subst (λ m. MatchResult m (Runs (rule_of o.policy) (later_lines ls) out) (λ g. RefusedWith (Service g) out)) (sym h.refused)
          (numbered (λ n. out ≡ row_text n (Err (Service f))) s.line 1 (sym s.numbered) s.text);
    })
failed script out Memory h s = let z : ◌≡◌ {A = ℕ} 0 1 = cc s.numbered in absurd (omega arith)

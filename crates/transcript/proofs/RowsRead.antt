-- Reading line after line.
use Rattle.std.proofs.Common.{◌≡◌, ℕ, ◌+◌, List, [], ◌∷◌, ◌++◌, length, sym, refl, ap, ◌∙◌, subst, append_assoc, append-nil, arith, MatchResult}
use Rattle.std.proofs.lemmas.List.{length_push}
use Rattle.grammar.specs.Lines.{Gives, Legal, Refuses}
use Rattle.transcript.specs.Sessions.{Row, RowsRead}

abbrev pub RowRead : ℕ → List ℕ → Row → Type 0
RowRead n l r = MatchResult r (Gives l) (Refuses Legal n l)

rows_push : (n m : ℕ) (ls : List (List ℕ)) (rs : List Row) (l : List ℕ) (r : Row) → RowsRead n ls rs → m ≡ n + length ls → RowRead m l r → RowsRead n (ls ++ l ∷ []) (rs ++ r ∷ [])
rows_push n m [] [] l r h e s = let same : m ≡ n = omega arith in (subst (λ k. RowRead k l r) same s, tt)
rows_push n m [] (q ∷ rs) l r h e s = absurd h
rows_push n m (k ∷ ls) [] l r h e s = absurd h
rows_push n m (k ∷ ls) (q ∷ rs) l r (a, h) e s = (a, rows_push (n + 1) m ls rs l r h (omega arith) s)

-- the lines that are read, and those that are left
pub record SoFar (all left : List (List ℕ)) (rows : List Row) (number : ℕ) : Type 0 where
  pub done : List (List ℕ)
  pub split : all ≡ done ++ left
  pub count : number ≡ 2 + length done
  pub read : RowsRead 2 done rows

pub at_first : (all : List (List ℕ)) (rows : List Row) → rows ≡ [] → SoFar all all rows 2
at_first all rows e = record { done = []; split = refl; count = refl; read = subst (RowsRead 2 []) (sym e) tt }

pub one_more : (all left : List (List ℕ)) (rows : List Row) (number : ℕ) (l : List ℕ) (rest : List (List ℕ)) (r : Row) (now : List Row) →
    SoFar all left rows number → left ≡ l ∷ rest → RowRead number l r → now ≡ rows ++ r ∷ [] → SoFar all rest now (number + 1)
one_more all left rows number l rest r now h e s is = record {
  done = h.done ++ l ∷ [];
  split = h.split ∙ ap (λ x. h.done ++ x) e ∙ sym (append_assoc h.done (l ∷ []) rest);
  count = omega (arith, h.count, length_push h.done l);
  read = subst (RowsRead 2 (h.done ++ l ∷ [])) (sym is) (rows_push 2 number h.done rows l r h.read h.count s);
}

pub at_last : (all left : List (List ℕ)) (rows : List Row) (number : ℕ) → SoFar all left rows number → left ≡ [] → RowsRead 2 all rows
at_last all left rows number h e = subst (λ x. RowsRead 2 x rows) (sym (h.split ∙ ap (λ x. h.done ++ x) e ∙ append-nil h.done)) h.read

-- The stores of a roster, and of what is left of it.
use Rattle.std.proofs.Common.{◌≡◌, ℕ, ◌-◌, ◌≤◌, true, List, [], ◌∷◌, length, Ok, Err, Result, refl, ap, ◌∙◌, subst, inl, inr, arith}
use Rattle.std.specs.Result.{result_ok}
use Rattle.std.proofs.lemmas.Bool.{cases_lt}
use Rattle.lists.specs.Numbers.{member, without, count_up}
use Rattle.lists.proofs.Members.{length_count_up, count_up_member}
use Rattle.placement.specs.Laws.{Rule}
use Rattle.placement.specs.Rosters.{members, listing, without_store}
use Rattle.placement.specs.declared.roster.Roster.{Roster}
use Rattle.placement.specs.declared.roster.RosterFault.{RosterFault}
use Rattle.placement.proofs.Holding.{members_rostered, without_accepts, without_only}
use Rattle.locator.specs.Lines.{stores_of, members_of}

pub stores_of_members : (p : Rule) (copies k : ℕ) (r : Roster) → stores_of p copies k (members r) ≡ p.list k (members r) copies
stores_of_members p copies k r = some p copies k (members r) (members_rostered r).some
  where
    some : (p : Rule) (copies k : ℕ) (R : List ℕ) → 1 ≤ length R → stores_of p copies k R ≡ p.list k R copies
    some p copies k [] h = absurd (omega arith)
    some p copies k (s ∷ R) h = refl

-- the list in an answer, none where it is refused
abbrev ok_or_none : Result (List ℕ) RosterFault → List ℕ
ok_or_none (Ok l) = l
ok_or_none (Err e) = []

listed : (r : Result Roster RosterFault) (a : Result (List ℕ) RosterFault) → listing r ≡ a → members_of (result_ok r) ≡ ok_or_none a
listed (Ok r) a e = ap ok_or_none e
listed (Err f) a e = ap ok_or_none e

-- the last of the first stores leaves
pub left_over : (r : Result Roster RosterFault) (m : ℕ) → 1 ≤ m → listing r ≡ without_store (m - 1) (count_up 0 m) → members_of (result_ok r) ≡ without (m - 1) (count_up 0 m)
left_over r m one e =
    let l = length_count_up m 0 in
    let mem : member (m - 1) (count_up 0 m) ≡ true = count_up_member m 0 (m - 1) (omega arith) (omega arith) in
    elim (cases_lt (length (count_up 0 m)) 2) [
      | inl h ↦ (let m1 : 1 ≡ m = omega arith in
          listed r _ (e ∙ without_only (m - 1) (count_up 0 m) mem h) ∙ subst (λ (n : ℕ). [] ≡ without (n - 1) (count_up 0 n)) m1 refl)
      | inr h ↦ listed r _ (e ∙ without_accepts (m - 1) (count_up 0 m) mem h)
    ]

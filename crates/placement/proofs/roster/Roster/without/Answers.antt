use Rattle.std.proofs.Common.{◌≡◌, ℕ, ◌+◌, ◌-◌, ◌<◌, ◌≤◌, true, length, is_some, Some, None, Ok, Err, Option, Result, refl, sym, ap, ◌∙◌, arith}
use Rattle.lists.specs.Numbers as lists
use Rattle.lists.specs.Numbers.{member, place_of}
use Rattle.placement.specs.declared.roster.Roster.{Roster}
use Rattle.std.specs.Option.{ok_or}
use Rattle.std.specs.Result.{IsErrAnd}
use Rattle.placement.specs.declared.roster.RosterFault.{RosterFault}
use Rattle.placement.specs.Packing.{unpack, cut}
use Rattle.placement.specs.Rosters.{members, listing}
use Rattle.placement.proofs.Holding.{kept, members_rostered, length_members, place_member, place_cut, without_roster, without_accepts, without_only, without_none}
use Rattle.placement.proofs.roster.Roster.without.Goals as goal

-- a store that has a place is a member
found : (r : Roster) (s i : ℕ) → Some i ≡ place_of s (members r) → member s (members r) ≡ true
found r s i e = sym (place_member s (members r)) ∙ ap is_some (sym e)

-- and cutting its place out of the word takes it out of the list
taken : (r : Roster) (s i w : ℕ) → 2 ≤ r.len → Some i ≡ place_of s (members r) → ((n : ℕ) → i ≤ n → unpack w n ≡ cut i (unpack r.word (n + 1))) →
    unpack w (r.len - 1) ≡ lists.without s (members r)
unfolding members
taken r s i w two e h =
    let p = place_cut s (members r) i (sym e) in
    let l = length_members r in
    let inside : i < length (members r) = p.0 in
    let back : (r.len - 1) + 1 ≡ r.len = omega arith in
    h (r.len - 1) (omega arith) ∙ ap (λ (x : ℕ). cut i (unpack r.word x)) back ∙ p.1

-- the place that the search gave is one, and else there was none
placed : (o : Option ℕ) (f : RosterFault) (r : Result ℕ RosterFault) (i : ℕ) (p : Option ℕ) → r ≡ ok_or o f → r ≡ Ok i → o ≡ p → Some i ≡ p
placed None f r i p a b h = cc
placed (Some j) f r i p a b h = cc

missing : (o : Option ℕ) (f : RosterFault) (r : Result ℕ RosterFault) (e : RosterFault) → r ≡ ok_or o f → r ≡ Err e → (None ≡ o) × (e ≡ f)
missing None f r e a b = (refl, cc)
missing (Some j) f r e a b = (cc, cc)

refused : (q : Result Roster RosterFault) (e f : RosterFault) → IsErrAnd q (λ y. y ≡ e) → e ≡ f → listing q ≡ Err f
refused (Ok r) e f h k = absurd h
refused (Err y) e f h k = ap Err (h ∙ k)

pub returns-then-self-lt2-clause-lists : goal.returns-then-self-lt2-clause-lists
returns-then-self-lt2-clause-lists c =
    let r = c.args.self.now in
    let l = length_members r in
    sym (without_only c.args.store (members r) (found r c.args.store c.in_ok-at.at (placed _ _ _ _ _ c.ok_or.ensures.value c.in_ok-at.was c.position.ensures)) (omega arith))

pub number_cut-requires : goal.number_cut-requires
number_cut-requires c =
    let r = c.args.self.now in
    let fits : r.len ≤ 16 = r.fits in
    let l = length_members r in
    let inside : c.in_ok-at.at < length (members r) = (place_cut c.args.store (members r) c.in_ok-at.at (sym (placed _ _ _ _ _ c.ok_or.ensures.value c.in_ok-at.was c.position.ensures))).0 in
    omega arith

pub invariant_of-result : goal.invariant_of-result
invariant_of-result c =
    let r = c.args.self.now in
    let s = c.args.store in
    let l = length_members r in
    kept c.number_cut.result (r.len - 1) r.stores (lists.without s (members r)) r.few
    (taken r s c.in_ok-at.at c.number_cut.result c.if-self-lt2.false (placed _ _ _ _ _ c.ok_or.ensures.value c.in_ok-at.was c.position.ensures) c.number_cut.ensures)
    (without_roster r.stores (members r) s (members_rostered r) (found r s c.in_ok-at.at (placed _ _ _ _ _ c.ok_or.ensures.value c.in_ok-at.was c.position.ensures)) (omega arith))

pub returns-in_err-at-clause-lists : goal.returns-in_err-at-clause-lists
returns-in_err-at-clause-lists c =
    let R = members c.args.self.now in
    let none = missing _ _ _ _ c.ok_or.ensures.value c.in_err-at.was in
    refused _ _ _ c.from_residual.ensures.1 none.1 ∙ sym (without_none c.args.store R (sym (place_member c.args.store R) ∙ ap is_some (sym (none.0 ∙ c.position.ensures))))

pub returns-clause-lists : goal.returns-clause-lists
unfolding members
returns-clause-lists c =
    let r = c.args.self.now in
    let s = c.args.store in
    let l = length_members r in
    ap Ok (taken r s c.in_ok-at.at c.number_cut.result c.if-self-lt2.false (placed _ _ _ _ _ c.ok_or.ensures.value c.in_ok-at.was c.position.ensures) c.number_cut.ensures)
    ∙ sym (without_accepts s (members r) (found r s c.in_ok-at.at (placed _ _ _ _ _ c.ok_or.ensures.value c.in_ok-at.was c.position.ensures)) (omega arith))

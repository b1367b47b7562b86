-- What a roster lists, and what its calls answer. A roster is an ordered list of 1 to 16 distinct store numbers,
-- each below the number of stores.
use Rattle.std.specs.Prelude.{ℕ, cond, ◌&&◌, List, [], ◌∷◌, ◌++◌, length, Ok, Err, Result, nat_le, nat_lt}
use Rattle.lists.specs.Numbers.{member, without, count_up}
use Rattle.placement.specs.declared.roster.Roster.{Roster}
use Rattle.placement.specs.declared.roster.RosterFault.{RosterFault}
use Rattle.placement.specs.declared.roster.RosterFault.TheVariants.{Size, NotAStore, AlreadyMember, NotAMember, OnlyMember}
use Rattle.placement.specs.Packing.{unpack}

-- the members in their order; what lies in the word past the length does not count
unfoldable pub members : Roster → List ℕ
members r = unpack r.word r.len

-- the list that an answer holds
abbrev pub listing : Result Roster RosterFault → Result (List ℕ) RosterFault
listing (Ok r) = Ok (members r)
listing (Err e) = Err e

-- the first m of n stores
abbrev pub first_of : ℕ → ℕ → Result (List ℕ) RosterFault
first_of m n = cond (nat_le 1 m && (nat_le m n && nat_le n 16)) (Ok (count_up 0 m)) (Err Size)

-- a list over n stores with a store behind its last
abbrev pub with_store : ℕ → ℕ → List ℕ → Result (List ℕ) RosterFault
with_store n s R = cond (nat_lt s n) (cond (member s R) (Err AlreadyMember) (Ok (R ++ s ∷ []))) (Err NotAStore)

-- a list without a store, the others in their order
abbrev pub without_store : ℕ → List ℕ → Result (List ℕ) RosterFault
without_store s R = cond (member s R) (cond (nat_le 2 (length R)) (Ok (without s R)) (Err OnlyMember)) (Err NotAMember)

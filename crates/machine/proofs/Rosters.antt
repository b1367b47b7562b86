-- Lists of stores: their first, the first of one that is outside another, and the place of a key.
use Rattle.std.proofs.Common.{◌≡◌, ℕ, ◌≤◌, true, false, ltb, List, [], ◌∷◌, length, Some, None, Option, sym, refl, ap, ◌∙◌, arith}
use Rattle.std.proofs.lemmas.Bool.Decides.{nat_tests}
use Rattle.std.proofs.lemmas.Bool.{cond_both}
use Rattle.lists.specs.Numbers.{member}
use Rattle.placement.specs.Laws.{Rule, Rostered, Lawful, OneMoreAtMost}
use Rattle.placement.proofs.Holding.{roster_more}
use Rattle.machine.specs.Books.{Move, Book, first_outside, list_under, placed, place}
use Rattle.machine.specs.Lent.{first_store}
use Rattle.machine.specs.Holds.{SoundChange, Sound}

pub first_member : (l : List ℕ) → 1 ≤ length l → member (first_store l) l ≡ true
first_member [] h = absurd (omega arith)
first_member (x ∷ l) h = grind (arith, nat_tests)

none_outside : (a b : List ℕ) (s : ℕ) → first_outside a b ≡ None → member s a ≡ true → member s b ≡ true
none_outside [] b s e h = grind (arith, nat_tests)
none_outside (x ∷ a) b s e h =
    let ih : first_outside a b ≡ None → member s a ≡ true → member s b ≡ true = none_outside a b s in
    grind (arith, nat_tests)

-- the first of a outside b stands in a, and not in b
pub outside_in : (a b : List ℕ) (s : ℕ) → first_outside a b ≡ Some s → member s a ≡ true
outside_in [] b s e = grind (arith, nat_tests)
outside_in (x ∷ a) b s e =
    let ih : first_outside a b ≡ Some s → member s a ≡ true = outside_in a b s in
    grind (arith, nat_tests)

pub outside_out : (a b : List ℕ) (s : ℕ) → first_outside a b ≡ Some s → member s b ≡ false
outside_out [] b s e = grind (arith, nat_tests)
outside_out (x ∷ a) b s e =
    let ih : first_outside a b ≡ Some s → member s b ≡ false = outside_out a b s in
    grind (arith, nat_tests)

-- where at most one is outside, that one is the first
pub outside_is : (a b : List ℕ) (s : ℕ) → OneMoreAtMost a b → member s a ≡ true → member s b ≡ false → first_outside a b ≡ Some s
outside_is a b s one h n = go (first_outside a b) refl
  where
    go : (g : Option ℕ) → first_outside a b ≡ g → first_outside a b ≡ Some s
    go None e = let t : member s b ≡ true = none_outside a b s e h in grind (arith, nat_tests)
    go (Some g) e = e ∙ ap Some (sym (one s g h n (outside_in a b g e) (outside_out a b g e)))

module _ (p : Rule) (law : Lawful p) where
  -- the list of a key is again a roster
  pub list_rostered : (n k : ℕ) (R : List ℕ) (r : ℕ) → n ≤ 16 → Rostered n R → Rostered n (p.list k R r)
  list_rostered n k R r few ros =
      let big : Rostered 16 R = roster_more n R few ros in
      let sz = law.size k R r big in
      let some : 1 ≤ length R = ros.some in
      record { distinct = law.apart k R r big; below = λ s m. ros.below s (law.within k R r big s m); some = omega arith }

  placed_rostered : (n : ℕ) (b : Book) (c : Option Move) (k : ℕ) → n ≤ 16 → Rostered n b.roster → SoundChange p n b c → Rostered n (placed p b c k)
  placed_rostered n b None k few ros s = list_rostered n k b.roster b.copies few ros
  placed_rostered n b (Some m) k few ros s =
      cond_both (ltb k m.cursor) (list_under p b m.target k) (list_under p b b.roster k) (λ l. Rostered n l)
      (λ _. list_rostered n k m.target b.copies few s.target) (λ _. list_rostered n k b.roster b.copies few ros)

  pub place_rostered : (n : ℕ) (b : Book) (k : ℕ) → Sound p n b → Rostered n (place p b k)
  place_rostered n b k s = placed_rostered n b b.change k s.few s.roster s.change

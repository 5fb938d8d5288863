-- Laws of the definitions in specs/Places.antt. Nothing that a reader must believe stands here. Assumes nothing.
use Rattle.std.specs.Prelude.{◌≡◌, refl, Bool, true, false, not, [], ◌∷◌, map, ℕ, T}
use Rattle.std.proofs.Common.{sym, subst, eq-eqb, ne_eqb}
use Rattle.places.specs.declared.Place.{Place}
use Rattle.places.specs.Places.{kind, permissions, place_of}

-- the four cases, as the code tells them apart
pub free : (f m : Bool) (mode : ℕ) → not f ≡ true → m ≡ true → Place.Free ≡ place_of f m mode
unfolding place_of
free true m mode e g = absurd (subst T (sym e) tt)
free false true mode e g = refl
free false false mode e g = absurd (subst T (sym g) tt)

pub unknown : (f m : Bool) (mode : ℕ) → not f ≡ true → m ≡ false → Place.Unknown ≡ place_of f m mode
unfolding place_of
unknown true m mode e g = absurd (subst T (sym e) tt)
unknown false true mode e g = absurd (subst T g tt)
unknown false false mode e g = refl

pub other : (f m : Bool) (mode : ℕ) → not f ≡ false → (kind mode ≡ 8 → ⊥) → Place.Other ≡ place_of f m mode
unfolding place_of
other true m mode e h = rw (ne_eqb (kind mode) 8 h)
other false m mode e h = absurd (subst T e tt)

pub plain : (f m : Bool) (mode : ℕ) → not f ≡ false → kind mode ≡ 8 → Place.Regular (permissions mode) ≡ place_of f m mode
unfolding place_of
plain true m mode e h = rw (eq-eqb (kind mode) 8 h)
plain false m mode e h = absurd (subst T e tt)

-- modes, in octal: 100640 and 104755 are regular files, of permissions 640 and 4755; 120777, 040755, 020666, 060660, 010644 and 140755 are a link, a folder, two devices, a pipe and a socket
modes_told : map (place_of true false) (33184 ∷ 35309 ∷ 41471 ∷ 16877 ∷ 8630 ∷ 25008 ∷ 4516 ∷ 49645 ∷ [])
    ≡ Place.Regular 416 ∷ Place.Regular 2541 ∷ Place.Other ∷ Place.Other ∷ Place.Other ∷ Place.Other ∷ Place.Other ∷ Place.Other ∷ []
unfolding place_of
modes_told = refl

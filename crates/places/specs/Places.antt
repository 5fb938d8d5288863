-- WHAT HAS A NAME, by what lstat says. Assumes nothing.
use Rattle.std.specs.Prelude.{Bool, true, false, cond, ℕ, ◌/◌, ◌%◌, eqb}
use Rattle.places.specs.declared.Place.{Place}

-- a mode is a kind, four bits of which 8 is a regular file, above twelve of permissions
abbrev pub kind : ℕ → ℕ
kind mode = mode / 4096 % 16

abbrev pub permissions : ℕ → ℕ
permissions mode = mode % 4096

-- found: lstat found something, of this mode; missing: it found nothing, since nothing has the name
unfoldable pub place_of : (found missing : Bool) (mode : ℕ) → Place
place_of true missing mode = cond (eqb (kind mode) 8) (Place.Regular (permissions mode)) Place.Other
place_of false true mode = Place.Free
place_of false false mode = Place.Unknown

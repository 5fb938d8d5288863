-- What half a width means (document 02, E3), and the request's own widths. Assumes nothing.
use Rattle.std.specs.Prelude.{◌≡◌, map, ℕ}
use Rattle.ends.specs.Ended.{half}
use Rattle.ends.specs.Nearest.{Nearest, width_computed, widths}
use Rattle.ends.proofs.Laws.Halves as laws

-- THE MEANING: half w is the nearer whole number, a tie going to the even one, and no other number is
pub half-nearest : (w : ℕ) → Nearest w (half w)
half-nearest = laws.half-nearest

pub nearest-half : (w h : ℕ) → Nearest w h → h ≡ half w
nearest-half = laws.nearest-half

pub worked : map width_computed widths ≡ widths
worked = laws.worked

-- A contour has the rows of its subtree, from its top cell's row to its bottom. Assumes nothing.
use Rattle.std.specs.Prelude.{ℕ, max, List, [], ◌∷◌, ◌≡◌, length}
use Rattle.std.proofs.Common.{arith}
use Rattle.contours.specs.Contour.{cover}

pub length-cover : (a b : List ℕ) → length (cover a b) ≡ max (length a) (length b)
unfolding cover
length-cover [] b = omega arith
length-cover (v ∷ a) [] = omega arith
length-cover (v ∷ a) (w ∷ b) = omega (arith, length-cover a b)

-- WHICH LATTICE POINTS ARE PRINTED (document 02, E8). Assumes nothing.
use Rattle.std.specs.Prelude.{Bool, ◌&&◌, ◌||◌, ℕ, ℤ, pos, ◌+ℤ◌}
use Rattle.std.specs.Int.Signed.{le_z}
use Rattle.whole.specs.Says.{eq_z}
use Rattle.plan.specs.Lists.{some}
use Rattle.plan.specs.Plan.{Table, cells}
use Rattle.rules.specs.Placement.{Placement, right, base}
use Rattle.corners.specs.Corners.{left}

module _ (t : Table) (p : Placement) where
  -- the point is on the boundary of box a: on its left or right edge, or on its upper or lower one
  unfoldable pub on_box : (column row : ℤ) → ℕ → Bool
  on_box χ ρ a =
      (eq_z χ (p.x a) || eq_z χ (right t p a)) && (le_z (p.y a) ρ && le_z ρ (base t p a))
      || (eq_z ρ (p.y a) || eq_z ρ (base t p a)) && (le_z (p.x a) χ && le_z χ (right t p a))

  -- "on the boundary of some box": nothing else is printed, so a point outside the sheet is not, nor one of a connector
  unfoldable pub printed : (column row : ℤ) → Bool
  printed χ ρ = some (on_box χ ρ) (cells t)

  -- the same of a row ("a y, 0 or more") and of a column "counted from 0 at the sheet's least x"
  unfoldable pub dot : (row column : ℕ) → Bool
  dot row c = printed (left t p +ℤ pos c) (pos row)

-- 000's vertical position (Bd4), and two boxes apart (Bd6). Assumes nothing.
use Rattle.std.specs.Prelude.{ℕ, ◌+◌, ◌<ℤ◌}
use Rattle.plan.specs.Plan.{Table, box_depth, row}
use Rattle.rules.specs.Placement.{Placement, right, base}

-- 000's "vertical position": D + 1 summed over the cells above, and the cell's own D
abbrev pub vertical_place : Table → ℕ → ℕ
vertical_place t a = row t a + box_depth t a

-- "d(Area(p), Area(q)) ≥ 1" (Bd6), of whole numbers: the boxes of a and b are apart in x or in y
pub data Apart (t : Table) (p : Placement) (a b : ℕ) : Type 0 where
  left_of : right t p a <ℤ p.x b → Apart t p a b
  right_of : right t p b <ℤ p.x a → Apart t p a b
  over : base t p a <ℤ p.y b → Apart t p a b
  under : base t p b <ℤ p.y a → Apart t p a b

-- How far a child stands from the one before it, by the scratch and the marks. Assumes nothing.
use Rattle.std.specs.Prelude.{List, ℕ, ◌+◌, ◌-◌, ◌*◌, ◌≤◌, max, min, length}
use Rattle.plan.specs.Limits.{last_row, farthest}
use Rattle.rows.specs.Rows.{row_size, Low, clash_to}
use Rattle.joining_cells.specs.Cells.{Memory, mark}

-- the four parts of the separation: S3, S3, S4, S5
unfoldable pub settled_apart : Memory → ℕ → ℕ → ℕ → ℕ → ℕ → ℕ
settled_apart m at f c hs al =
    max (max (mark m.marks f 1 + 1) (mark m.marks c 1 + 1))
    (max (clash_to m.rows at (mark m.marks f 2) (min (mark m.marks f 0) hs)) ((mark m.marks f 1 + mark m.marks c 1 + 1) - al))

-- ---- what the calls need
pub record Settling (m : Memory) (at f c hs : ℕ) : Type 0 where
  pub column : at ≤ 60
  pub own : 4 * c + 4 ≤ length m.marks
  pub theirs : 4 * f + 4 ≤ length m.marks
  pub rows : row_size * hs ≤ length m.rows
  pub tall : row_size * mark m.marks f 0 ≤ length m.rows
  pub small : hs ≤ last_row + 1
  pub smallf : mark m.marks f 0 ≤ last_row + 1
  pub low : Low m.rows
  pub edge : mark m.marks f 1 ≤ farthest
  pub past : mark m.marks f 2 ≤ farthest
  pub far : mark m.marks f 3 ≤ farthest
  pub left : mark m.marks c 1 ≤ farthest

pub record Siding (xs : List ℕ) (at hf hs past g : ℕ) : Type 0 where
  pub column : at ≤ 60
  pub rows : row_size * hs ≤ length xs
  pub tall : row_size * hf ≤ length xs
  pub low : Low xs
  pub small_past : past ≤ farthest
  pub small_step : g ≤ 2 * farthest + 1

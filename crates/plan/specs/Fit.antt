-- A table that the questions put to a lent table (4, 6 to 8, 11 to 13) do not refuse: what the theorems ask. Assumes nothing.
use Rattle.std.specs.Prelude.{ℕ, ◌+◌, ◌≤◌, length, T}
use Rattle.plan.specs.Limits.{most_cells, most_width, most_depth, most_level, last_row}
use Rattle.plan.specs.Plan.{Table, Is, Sound, kind, box_width, box_depth, children, level, row}
use Rattle.plan.specs.Kinds.{allows}

pub record Fit (t : Table) : Type 0 where
  pub some_cell : 1 ≤ length t
  pub not_too_many : length t ≤ most_cells
  pub sound : Sound t
  pub wide : (c : ℕ) → Is t c → (1 ≤ box_width t c) × (box_width t c ≤ most_width)
  pub deep : (c : ℕ) → Is t c → (1 ≤ box_depth t c) × (box_depth t c ≤ most_depth)
  pub family : (c : ℕ) → Is t c → T (allows (kind t c) (length (children t c)))
  pub not_too_low : (c : ℕ) → Is t c → level t c ≤ most_level
  pub rows_few : (c : ℕ) → Is t c → row t c + box_depth t c ≤ last_row

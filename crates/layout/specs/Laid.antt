-- WHAT LAYOUT ANSWERS, and what it leaves in the buffers lent to it, on every input. Assumes nothing.
use Rattle.std.specs.Prelude.{◌≡◌, List, ◌++◌, ℕ, ◌*◌, ◌≤◌, length, drop, replicate, ℤ, Result, Ok, Err}
use Rattle.whole.specs.Whole.{plus}
use Rattle.plan.specs.Limits.{scratch_size}
use Rattle.plan.specs.Plan.{Table, row}
use Rattle.plan.specs.Questions.{layout, refusal, layout_given, answered}
use Rattle.plan.specs.declared.Refusal.{Refusal}
use Rattle.rules.specs.Placement.{width}
use Rattle.contours.specs.Sheet.{sheet}
use Rattle.positions.specs.Written.{written}
use Rattle.plan.specs.Columns.{table_of}
use Rattle.plan.specs.declared.Columns.{Columns}
use Rattle.plan.specs.Trees.{Column}
use Rattle.plan.specs.Fit.{Fit}
use Rattle.rules.specs.Placement as placement
use Rattle.plan.specs.declared.Measures.{Measures}

-- document 01's values of the two answers: width and rows of our sheet; number and cell of the refusal.
-- (Width and rows are whole numbers that are not negative; `plus` is such a number as a natural one.)
unfoldable pub laid_of : Table → (allowance : ℕ) → Refusal → Result Measures Refusal
laid_of t al r = answered r (record { width = plus (width t (sheet t al)); rows = plus (placement.rows t (sheet t al)) })

-- the lent positions after it. Of a sheet: x then y of each cell, nothing beyond. Of a refusal: as they were
unfoldable pub positions_after : Result Measures Refusal → Table → (allowance : ℕ) → List ℤ → List ℤ
positions_after (Ok m) t al ps = written ps (sheet t al) (length t)
positions_after (Err r) t al ps = ps

-- the lent scratch after it. Of a sheet: the first 16,384 numbers zero, later ones as they were. Of a refusal: as it was
unfoldable pub scratch_after : Result Measures Refusal → List ℕ → List ℕ
scratch_after (Ok m) s = replicate scratch_size 0 ++ drop scratch_size s
scratch_after (Err r) s = s

-- a call of Layout: the answer, and the scratch and the positions before and after it
pub record Lays (t : Table) (al : ℕ) (s s' : List ℕ) (ps ps' : List ℤ) (r : Result Measures Refusal) : Type 0 where
  pub answers : r ≡ laid_of t al (refusal layout (layout_given t al (length s) (length ps)))
  pub positions : ps' ≡ positions_after r t al ps
  pub scratch : s' ≡ scratch_after r s

-- a table that no question refuses, room for its positions, and a scratch of 16,384 numbers
pub record Drawable (t : Table) (s p : ℕ) : Type 0 where
  pub fit : Fit t
  pub room : 2 * length t ≤ p
  pub scratch : s ≡ scratch_size

-- a table that no question refuses, with its rows, and a scratch of zeros
pub record Placeable (t : Columns) (tops s : List ℕ) : Type 0 where
  pub fit : Fit (table_of t)
  pub rows : Column tops t.count (row (table_of t))
  pub scratch : s ≡ replicate scratch_size 0

-- our sheet is drawn
pub record Drawn (t : Table) (al : ℕ) (s' : List ℕ) (ps ps' : List ℤ) (r : Measures) : Type 0 where
  pub answers : r ≡ record { width = plus (width t (sheet t al)); rows = plus (placement.rows t (sheet t al)) }
  pub positions : ps' ≡ written ps (sheet t al) (length t)
  pub scratch : s' ≡ replicate scratch_size 0

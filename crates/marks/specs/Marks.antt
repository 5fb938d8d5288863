-- What the engine's core is given, and the marks that it makes: offsets, middles and extents of the definition. Assumes nothing.
use Rattle.std.specs.Prelude.{◌≡◌, List, ℕ, ◌≤◌, length, get_or}
use Rattle.plan.specs.Limits.{scratch_size, farthest}
use Rattle.plan.specs.Lists.{At}
use Rattle.plan.specs.Plan.{Table, Is, children, row}
use Rattle.plan.specs.Fit.{Fit}
use Rattle.plan.specs.Columns.{table_of}
use Rattle.plan.specs.declared.Columns.{Columns}
use Rattle.contours.specs.Contour.{greatest, offset}
use Rattle.contours.specs.Sheet.{middle, contours, whole_contour}
use Rattle.joining.specs.Joining.{Memory, mark}
use Rattle.walk.specs.Machine.{Chart}
use Rattle.walk.specs.Walked.{Suits}
use Rattle.walk.specs.Opened.{Visited}

-- a table that keeps the questions, its rows, a scratch of zeros, and marks of zeros
pub record Markable (t : Columns) (tops rows marks : List ℕ) : Type 0 where
  pub fit : Fit (table_of t)
  pub top_of : (c : ℕ) → Is (table_of t) c → get_or tops c 0 ≡ row (table_of t) c
  pub scratch : scratch_size ≤ length rows
  pub clear : (i : ℕ) → get_or rows i 0 ≡ 0
  pub blank : (i : ℕ) → get_or marks i 0 ≡ 0

-- four marks for each cell. All are small enough to be added and subtracted
pub record Marked (t : Table) (al : ℕ) (ms : List ℕ) : Type 0 where
  pub middle_of : (c : ℕ) → Is t c → mark ms c 0 ≡ middle t al c (contours t al c)
  pub left_of : (c : ℕ) → Is t c → mark ms c 1 ≡ greatest (whole_contour t al c).left
  pub right_of : (c : ℕ) → Is t c → mark ms c 2 ≡ greatest (whole_contour t al c).right
  pub offset_of : (f i s : ℕ) → At (children t f) i s → mark ms s 3 ≡ offset al 0 (contours t al f) i
  pub root_offset : mark ms 0 3 ≡ 0
  pub near : (i : ℕ) → get_or ms i 0 ≤ farthest

-- change request E5, of the table itself: the columns that are walked suit it, and what `walk` says of its turns (crate walk, specs/Opened: `Visited`) holds of them
pub record Toured (t : Table) (m m' : Memory) : Type 0 where
  pub columns : Chart
  pub suits : Suits t columns
  pub visited : Visited columns m m'

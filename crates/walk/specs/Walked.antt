-- What the walk is given, and what it leaves. Assumes nothing.
use Rattle.std.specs.Prelude.{◌≡◌, List, ℕ, ◌*◌, ◌≤◌, length, get_or}
use Rattle.plan.specs.Limits.{most_cells, scratch_size}
use Rattle.plan.specs.Lists.{At}
use Rattle.plan.specs.Plan.{Table, Is, box_width, box_depth, children, row}
use Rattle.plan.specs.Fit.{Fit}
use Rattle.contours.specs.Contour.{greatest, offset}
use Rattle.contours.specs.Sheet.{middle, contours, whole_contour}
use Rattle.joining.specs.Joining.{mark}
use Rattle.links.specs.Links.{Links}
use Rattle.walk.specs.Machine.{Chart, wide, deep, top}
use Rattle.rows.specs.Rows.{Low}

-- the chart has the links, widths, depths and rows of the table t, which keeps the questions
pub record Suits (t : Table) (b : Chart) : Type 0 where
  pub fit : Fit t
  pub links : Links t b.links
  pub widths : most_cells ≤ length b.widths
  pub depths : most_cells ≤ length b.depths
  pub tops : most_cells ≤ length b.tops
  pub wide_of : (c : ℕ) → Is t c → wide b c ≡ box_width t c
  pub deep_of : (c : ℕ) → Is t c → deep b c ≡ box_depth t c
  pub top_of : (c : ℕ) → Is t c → top b c ≡ row t c

-- the marks of x are those of the definition, and its children stand at their offsets
pub record Right (t : Table) (al : ℕ) (ms : List ℕ) (x : ℕ) : Type 0 where
  pub middle_of : mark ms x 0 ≡ middle t al x (contours t al x)
  pub left_of : mark ms x 1 ≡ greatest (whole_contour t al x).left
  pub right_of : mark ms x 2 ≡ greatest (whole_contour t al x).right
  pub offset_of : (i s : ℕ) → At (children t x) i s → mark ms s 3 ≡ offset al 0 (contours t al x) i

-- the chart of a table, a scratch of zeros, and marks of zeros
pub record Walking (b : Chart) (xs ms : List ℕ) : Type 0 where
  pub table : Table
  pub suits : Suits table b
  pub rows : scratch_size ≤ length xs
  pub clear : (i : ℕ) → get_or xs i 0 ≡ 0
  pub marks : 4 * most_cells ≤ length ms
  pub blank : (i : ℕ) → get_or ms i 0 ≡ 0

-- the scratch is as it was, and of every table that the chart suits each cell has its marks
pub record Walked (b : Chart) (xs ys ns : List ℕ) : Type 0 where
  pub scratch : ys ≡ xs
  pub low : Low ns
  pub root : mark ns 0 3 ≡ 0
  pub marked : (t : Table) → Suits t b → (x : ℕ) → Is t x → Right t b.allowance ns x

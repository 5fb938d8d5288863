-- WHAT IS MEASURED on a sheet, from left to right (document 01, Drawing rules, the paragraph before S1): from the least x of some cells to the greatest of others, each taken at its x or at its
-- right edge. The width, a subtree's extents to either side and the distance of two cells are four of these (`width_is` and the three after it, proofs/Theorems.antt). Assumes nothing.
use Rattle.std.specs.Prelude.{List, [], ◌∷◌, ℕ, T, ℤ, pos, ◌+ℤ◌, ◌-ℤ◌}
use Rattle.plan.specs.Plan.{Table, Is, box_width, cells, subtree, next}
use Rattle.rules.specs.Placement.{Placement, most, least}

-- the cells where it may begin, and where it may end, one of each named; how far past its x a cell is taken
pub record Measure : Type 0 where
  pub start : ℕ
  pub starts : List ℕ
  pub end : ℕ
  pub ends : List ℕ
  pub past : ℕ → ℕ

module _ (μ : Measure) (p : Placement) where
  unfoldable pub far : ℕ → ℤ
  far b = p.x b +ℤ pos (μ.past b)

  unfoldable pub extent : ℤ
  extent = most far (far μ.end) μ.ends -ℤ least p.x (p.x μ.start) μ.starts

module _ (t : Table) where
  -- "width of a sheet: greatest right edge x+W less the least x"
  unfoldable pub across : Measure
  across = record { start = 0; starts = cells t; end = 0; ends = cells t; past = box_width t }

  -- "left reach": "its top cell's x less the least x in the sub-diagram"
  unfoldable pub leftward : ℕ → Measure
  leftward c = record { start = c; starts = subtree t c; end = c; ends = c ∷ []; past = λ a. 0 }

  -- "right reach": "the greatest right edge x+W in the sub-diagram less its top cell's x"
  unfoldable pub rightward : ℕ → Measure
  rightward c = record { start = c; starts = c ∷ []; end = c; ends = subtree t c; past = box_width t }

-- how far v stands to the right of u: "the distance between neighbouring brothers"
unfoldable pub between : (u v : ℕ) → Measure
between u v = record { start = u; starts = u ∷ []; end = v; ends = v ∷ []; past = λ a. 0 }

-- WHAT DEMAND 3 MEASURES: the width, each subtree's extents to either side, the distance of neighbouring siblings
pub data Demanded (t : Table) : Measure → Type 0 where
  the_width : Demanded t (across t)
  the_left : (c : ℕ) → Is t c → Demanded t (leftward t c)
  the_right : (c : ℕ) → Is t c → Demanded t (rightward t c)
  the_distance : (u v : ℕ) → T (next t u v) → Demanded t (between u v)

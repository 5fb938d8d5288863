-- WHAT IS PROVED OF THE STROKES (document 02, E1). Assumes nothing.
use Rattle.std.specs.Prelude.{◌≡◌, true, false, ℕ, suc, ◌*◌, ◌-◌, ◌^◌, ◌≤◌, ◌<◌, T, ℤ, pos, negsuc, ◌-ℤ◌, length, get_or}
use Rattle.std.specs.Float.{binary64}
use Rattle.std.specs.Float.Ieee.{of_int, add, mul}
use Rattle.std.specs.Float.Ieee.Exact.{HasValue}
use Rattle.whole.specs.Range.{InRange}
use Rattle.plan.specs.Fit.{Fit}
use Rattle.plan.specs.Limits.{farthest}
use Rattle.plan.specs.Pages.{fair}
use Rattle.plan.specs.Plan.{Table, Is}
use Rattle.plan.specs.declared.Page.{Page}
use Rattle.rules.specs.Placement.{Placement}
use Rattle.corners.specs.Corners.{left}
use Rattle.pen.specs.declared.Stroke.TheVariants.{Lift}
use Rattle.pen.specs.Paper.{across, down}
use Rattle.pen.specs.Strokes.{strokes}
use Rattle.pen.specs.Orderly.{up, orderly, Lifted}
use Rattle.pen.specs.Finite.{finite_stroke}
use Rattle.pen.proofs.Laws.Finite as finite
use Rattle.pen.proofs.Laws.Paper as paper
use Rattle.pen.proofs.Laws.Strokes as counted
use Rattle.pen.proofs.Laws.Orderly as order

-- "so a sheet of n cells has 9n − 3 strokes"
pub strokes-count : (t : Table) (p : Placement) (g : Page) → 1 ≤ length t → length (strokes t p g) ≡ 9 * length t - 3
strokes-count = counted.strokes-length

-- each drawn path begins with a move, has a line and ends with a lift
pub strokes-orderly : (t : Table) (p : Placement) (g : Page) → T (orderly up (strokes t p g))
strokes-orderly = order.strokes-orderly

-- every lift follows a line
pub lift_follows : (t : Table) (p : Placement) (g : Page) (s : ℕ) → s < length (strokes t p g) → get_or (strokes t p g) s Lift ≡ Lift → Lifted (strokes t p g) s
lift_follows = order.lift_follows

-- each coordinate is the formula's: two operations of IEEE 754, each rounded once
pub across_formula : (t : Table) (p : Placement) (g : Page) (x : ℤ) → across t p g x ≡ add binary64 (mul binary64 (of_int binary64 (x -ℤ left t p)) g.pitch) g.margin_x
across_formula = paper.across_formula

pub down_formula : (t : Table) (p : Placement) (g : Page) (y : ℤ) → down t p g y ≡ add binary64 (mul binary64 (of_int binary64 y) g.pitch) g.margin_y
down_formula = paper.down_formula

-- turning a whole number of at most 53 binary digits into a float loses nothing
pub exact_pos : (n : ℕ) → n < 2 ^ 53 → HasValue (of_int binary64 (pos n)) false n 1
exact_pos = paper.exact_pos

pub exact_neg : (n : ℕ) → suc n < 2 ^ 53 → HasValue (of_int binary64 (negsuc n)) true (suc n) 1
exact_neg = paper.exact_neg

-- each coordinate of a stroke is a number, neither a NaN nor an infinity, where the questions pass table, coordinates and page
pub strokes_finite : (t : Table) (p : Placement) (g : Page) → Fit t → ((c : ℕ) → Is t c → InRange farthest (p.x c)) → ((c : ℕ) → Is t c → InRange farthest (p.y c)) → T (fair g)
    → (s : ℕ) → T (finite_stroke (get_or (strokes t p g) s Lift))
strokes_finite = finite.strokes_finite

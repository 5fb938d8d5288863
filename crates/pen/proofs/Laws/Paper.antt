-- Laws of the definitions in specs/Paper.antt: a whole number is turned into a float exactly. Assumes nothing.
use Rattle.std.specs.Prelude.{◌≡◌, refl, Bool, true, false, ℕ, suc, ◌+◌, ◌*◌, ◌^◌, ◌<◌, ℤ, pos, negsuc, ◌-ℤ◌}
use Rattle.std.proofs.Common.{sym, mul-one, lt_of_lt_of_le, lit<, lit≤, shl_lt, pow_mono}
use Rattle.std.specs.Float.{binary64}
use Rattle.std.specs.Float.Ieee.{low, emax, of_int, add, mul, round}
use Rattle.std.specs.Float.Ieee.Exact.{HasValue, round_exact}
use Rattle.plan.specs.Plan.{Table}
use Rattle.plan.specs.declared.Page.{Page}
use Rattle.rules.specs.Placement.{Placement}
use Rattle.corners.specs.Corners.{left}
use Rattle.pen.specs.Paper.{plotted, across, down}

-- the formula, coordinate by coordinate
pub across_formula : (t : Table) (p : Placement) (g : Page) (x : ℤ) → across t p g x ≡ add binary64 (mul binary64 (of_int binary64 (x -ℤ left t p)) g.pitch) g.margin_x
unfolding across plotted
across_formula t p g x = refl

pub down_formula : (t : Table) (p : Placement) (g : Page) (y : ℤ) → down t p g y ≡ add binary64 (mul binary64 (of_int binary64 y) g.pitch) g.margin_y
unfolding down plotted
down_formula t p g y = refl

-- a whole number of at most 53 binary digits is turned into a float exactly: sign and size
small_53 : (n : ℕ) → n < 2 ^ 53 → n * 2 ^ low binary64 < 2 ^ (low binary64 + suc (emax binary64))
small_53 n h = lt_of_lt_of_le (shl_lt 53 (low binary64) h) (pow_mono {i = 53 + low binary64} {j = low binary64 + suc (emax binary64)} (lit≤ tt))

whole_exact : (s : Bool) (n : ℕ) → n < 2 ^ 53 → HasValue (round binary64 s n 1) s n 1
whole_exact s n h = round_exact binary64 s n 1 n (low binary64) (lit< tt) h (small_53 n h) (sym (mul-one _))

pub exact_pos : (n : ℕ) → n < 2 ^ 53 → HasValue (of_int binary64 (pos n)) false n 1
unfolding of_int
exact_pos n h = whole_exact false n h

pub exact_neg : (n : ℕ) → suc n < 2 ^ 53 → HasValue (of_int binary64 (negsuc n)) true (suc n) 1
unfolding of_int
exact_neg n h = whole_exact true (suc n) h

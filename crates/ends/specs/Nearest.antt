-- What half a width is to be (document 02, E3): "the nearer whole number, a tie going to the even one"; and the request's own widths. Assumes nothing.
use Rattle.std.specs.Prelude.{◌≡◌, List, [], ◌∷◌, ℕ, ◌+◌, ◌-◌, ◌%◌, ◌≤◌}
use Rattle.plan.specs.Limits.{most_width}
use Rattle.ends.specs.Ended.{half}

-- how far two numbers are apart
abbrev pub gap : ℕ → ℕ → ℕ
gap a b = (a - b) + (b - a)

-- "the nearer whole number, a tie going to the even one": of h, for half of w. Both sides are doubled, so half of w need not be whole.
pub record Nearest (w h : ℕ) : Type 0 where
  pub nearer : (k : ℕ) → gap (h + h) w ≤ gap (k + k) w
  pub tie : (k : ℕ) → ¬ (k ≡ h) → gap (k + k) w ≡ gap (h + h) w → h % 2 ≡ 0

-- ---- the four widths of the request; even ones; the greatest
pub record WidthRow : Type 0 where
  pub width : ℕ
  pub halved : ℕ

unfoldable pub width_row : (width halved : ℕ) → WidthRow
width_row w h = record { width = w; halved = h }

unfoldable pub width_computed : WidthRow → WidthRow
width_computed r = width_row r.width (half r.width)

unfoldable pub widths : List WidthRow
widths = width_row 1 0 ∷ width_row 3 2 ∷ width_row 5 2 ∷ width_row 7 4 ∷ width_row 2 1 ∷ width_row 4 2 ∷ width_row 6 3 ∷ width_row 255 128 ∷ width_row most_width 512 ∷ []

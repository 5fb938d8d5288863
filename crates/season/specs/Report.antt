-- THE REPORT OF SOME PLANS (document 02, E14). Every definition computes. Assumes nothing.
use Rattle.std.specs.Prelude.{List, [], ◌∷◌, cond, ℕ, ◌+◌, ◌*◌, ◌/◌, ◌%◌, ◌≤◌, min, max, eqb, length}
use Rattle.plan.specs.Limits.{most_cells, farthest}
use Rattle.season.specs.declared.Report.{Report}

-- ---- the limits: "up to 1,024 plans"; per plan "256 cells, 262,143 of width or 67,108,608 of width times rows", the first two those of every plan
abbrev pub most_plans : ℕ
most_plans = 1024

abbrev pub cells_each : ℕ
cells_each = most_cells

abbrev pub width_each : ℕ
width_each = farthest

abbrev pub rows_each : ℕ
rows_each = 256

abbrev pub area_each : ℕ
area_each = 67108608

-- ---- one plan: its cells, and the width and rows of its sheet
pub record Figure : Type 0 where
  pub cells : ℕ
  pub width : ℕ
  pub rows : ℕ

-- ---- of several
unfoldable pub summed : (Figure → ℕ) → List Figure → ℕ
summed f [] = 0
summed f (x ∷ xs) = f x + summed f xs

-- the least and the greatest width, 0 of no plan
unfoldable pub narrowest : List Figure → ℕ
narrowest [] = 0
narrowest (x ∷ []) = x.width
narrowest (x ∷ y ∷ xs) = min x.width (narrowest (y ∷ xs))

unfoldable pub widest : List Figure → ℕ
widest [] = 0
widest (x ∷ xs) = max x.width (widest xs)

-- the mean as quotient and remainder, 0 and 0 of no plan
unfoldable pub quotient : (sum n : ℕ) → ℕ
quotient s n = cond (eqb n 0) 0 (s / n)

unfoldable pub remainder : (sum n : ℕ) → ℕ
remainder s n = cond (eqb n 0) 0 (s % n)

-- "plans, cells, sum of widths, sum of width times rows, least and greatest width, and the mean width as quotient and remainder"
unfoldable pub report : List Figure → Report
report xs =
    record {
      plans = length xs;
      cells = summed (λ (x : Figure). x.cells) xs;
      widths = summed (λ (x : Figure). x.width) xs;
      areas = summed (λ (x : Figure). x.width * x.rows) xs;
      least = narrowest xs;
      greatest = widest xs;
      mean = quotient (summed (λ (x : Figure). x.width) xs) (length xs);
      rest = remainder (summed (λ (x : Figure). x.width) xs) (length xs);
    }

-- "The report of no plan has zeros throughout"
unfoldable pub nothing : Report
nothing = record { plans = 0; cells = 0; widths = 0; areas = 0; least = 0; greatest = 0; mean = 0; rest = 0 }

-- plans within the limits per plan
pub data Plans : List Figure → Type 0 where
  no_plan : Plans []
  more : {x : Figure} {xs : List Figure} → x.cells ≤ cells_each → x.width ≤ width_each → x.rows ≤ rows_each → Plans xs → Plans (x ∷ xs)

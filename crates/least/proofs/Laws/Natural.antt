-- The rules over natural numbers, in terms of children and places: what stands between S1 to S5 over whole numbers and the forest. Assumes nothing.
use Rattle.std.specs.Prelude.{ℕ, suc, ◌+◌, ◌≤◌, ◌<◌, ◌≡◌, length}
use Rattle.plan.specs.Lists.{At}
use Rattle.plan.specs.Plan.{Table, box_width, box_depth, children, place, row}
use Rattle.plan.proofs.Laws.Paths.{Below}
use Rattle.contours.specs.Contour.{offset}
use Rattle.contours.specs.Sheet.{middle, contours}

-- cell a takes columns x a to x a + e of row ρ: by its box, or by its stem, down to the bottom of what is below it
pub data Takes (t : Table) : ℕ → ℕ → ℕ → Type 0 where
  box : {a ρ : ℕ} → row t a ≤ ρ → ρ ≤ row t a + box_depth t a → Takes t a ρ (box_width t a)
  stem : {a ρ : ℕ} (b : ℕ) → Below t b a → row t a + box_depth t a < ρ → ρ ≤ row t b + box_depth t b → Takes t a ρ 0

pub record Natural (t : Table) (al : ℕ) (x : ℕ → ℕ) : Type 0 where
  pub s2 : (c s : ℕ) → At (children t c) (place t c (length (children t c))) s → x c ≡ x s
  pub s3_ends : (f i p q a : ℕ) → At (children t f) i p → At (children t f) (suc i) q → Below t a p → x a + box_width t a < x q
  pub s3_starts : (f i p q b : ℕ) → At (children t f) i p → At (children t f) (suc i) q → Below t b q → x p < x b
  pub s4 : (f i j p q a b ρ d e : ℕ) → At (children t f) i p → At (children t f) j q → i < j → Below t a p → Below t b q
      → Takes t a ρ d → Takes t b ρ e → x a + d < x b
  pub s5 : (f i j p q a b : ℕ) → At (children t f) i p → At (children t f) j q → i < j → Below t a p → Below t b q
      → x a + box_width t a + 1 ≤ x b + al

-- our sheet: each child stands at its offset from the first, as its parent stands at its middle
abbrev pub Set : Table → ℕ → (ℕ → ℕ) → Type 0
Set t al x = (f i s : ℕ) → At (children t f) i s → x s + middle t al f (contours t al f) ≡ x f + offset al 0 (contours t al f) i

-- What the questions of Layout and of Check establish. Assumes nothing.
use Rattle.std.specs.Prelude.{◌≡◌, List, ℕ, ◌+◌, ◌*◌, ◌≤◌, length, get_or, ℤ, pos}
use Rattle.plan.specs.Limits.{most_allowance, scratch_size, no_parent}
use Rattle.plan.specs.Plan.{Table, Is, parent}
use Rattle.plan.specs.Fit.{Fit}
use Rattle.plan.specs.Questions.{scratch}
use Rattle.rules.specs.Placement.{Inside}

-- what questions 4, 6 to 8 and 11 to 13 establish of a lent table
pub record Asked (t : Table) : Type 0 where
  pub fit : Fit t
  pub root : parent t 0 ≡ no_parent

-- ---- Layout, with scratch and positions of these lengths
pub record LayoutAsked (t : Table) (al s p : ℕ) : Type 0 where
  pub table : Asked t
  pub allowance : al ≤ most_allowance
  pub scratch : scratch_size ≤ s
  pub positions : 2 * length t ≤ p

-- ---- Check, with these positions
pub record CheckAsked (t : Table) (al : ℕ) (ps : List ℤ) : Type 0 where
  pub table : Asked t
  pub allowance : al ≤ most_allowance
  pub positions : 2 * length t ≤ length ps
  pub near_all : (c : ℕ) → Is t c → Inside (get_or ps (2 * c) (pos 0)) × Inside (get_or ps (2 * c + 1) (pos 0))

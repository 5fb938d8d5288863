-- The cells that a number of links reaches, and no fewer (for the contracts of the code that searches). Assumes nothing.
use Rattle.std.specs.Prelude.{ℕ, zero, suc, T}
use Rattle.plan.specs.Lists.{mem}
use Rattle.plan.specs.Plan.{Table}
use Rattle.rules.specs.Placement.{Placement}
use Rattle.why_spec.specs.Measures.{Measure}
use Rattle.why_spec.specs.Search.{reached}

abbrev pub New : Table → ℕ → Measure → Placement → ℕ → ℕ → Type 0
New t al μ p zero b = T (mem b (reached t al μ p 0))
New t al μ p (suc k) b = T (mem b (reached t al μ p (suc k))) × ¬ T (mem b (reached t al μ p k))

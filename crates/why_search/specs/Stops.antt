-- The cells of a chain, one by one. Assumes nothing.
use Rattle.std.specs.Prelude.{cond, List, [], ◌∷◌, ℕ, zero, suc, leb}
use Rattle.plan.specs.Plan.{Table}
use Rattle.rules.specs.Placement.{Placement}
use Rattle.why_spec.specs.Measures.{across}
use Rattle.why_spec.specs.Search.{before, link}
use Rattle.why_spec.specs.Links.{Link}

-- k links back from b: the cell that j of them lead to
unfoldable pub stop : Table → ℕ → Placement → ℕ → ℕ → ℕ → ℕ
stop t al p zero b j = b
stop t al p (suc k) b j = let r = stop t al p k (before t al (across t) p k b) j in cond (leb (suc k) j) b r

-- the links from cell to cell: d of them, from cell number i on
unfoldable pub steps : Table → ℕ → Placement → (ℕ → ℕ) → ℕ → ℕ → List Link
steps t al p f i zero = []
steps t al p f i (suc d) = link t al p (f i) (f (suc i)) ∷ steps t al p f (suc i) d

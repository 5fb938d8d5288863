-- What the questions establish where Layout refuses nothing, and where Check does. Assumes nothing.
use Rattle.std.specs.Prelude.{◌≡◌, List, ◌↔◌, ℕ, ℤ}
use Rattle.plan.specs.Plan.{Table}
use Rattle.plan.specs.Questions.{layout, check, none, refusal, layout_given, check_given}
use Rattle.least.specs.Demanded.{LayoutAsked, CheckAsked}
use Rattle.least.proofs.Laws.Asked as laws

pub layout-asks : (t : Table) (al s p : ℕ) → (refusal layout (layout_given t al s p) ≡ none) ↔ LayoutAsked t al s p
layout-asks = laws.layout-asks

pub check-asks : (t : Table) (al : ℕ) (ps : List ℤ) → (refusal check (check_given t al ps) ≡ none) ↔ CheckAsked t al ps
check-asks = laws.check-asks

-- What keeps S1 to S5 under an allowance keeps them under a larger one: S5 alone reads it, and asks less. Assumes nothing.
use Rattle.std.specs.Prelude.{ℕ, ◌≤◌}
use Rattle.whole.proofs.Laws.Whole.{whole}
use Rattle.plan.specs.Plan.{Table}
use Rattle.rules.specs.Placement.{Placement}
use Rattle.rules.specs.Rules.{Keeps}

pub keeps_wider : (t : Table) (p : Placement) (al al' : ℕ) → al ≤ al' → Keeps t p al → Keeps t p al'
keeps_wider t p al al' h k =
    record { s1 = k.s1; s2 = k.s2; s3 = k.s3; s4 = k.s4; s5 = record { overlap = λ a b i j e. omega (whole, k.s5.overlap a b i j e) } }

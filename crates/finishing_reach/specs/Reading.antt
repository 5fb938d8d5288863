-- A READING of a cell out of the scratches, whatever they hold. Nothing that a reader must believe stands here. Assumes nothing.
use Rattle.std.specs.Prelude.{List, ℕ, get_or, take, Result}
use Rattle.plan.specs.Lists.{mem}
use Rattle.plan.specs.Plan.{Table}
use Rattle.plan.specs.declared.Refusal.{Refusal}
use Rattle.plan.specs.Questions.{asked, answered}
use Rattle.joining.specs.Joining.{mark}
use Rattle.finishing_order.specs.Postorder.{postorder}
use Rattle.finishing_guard.specs.Guard.{count_at}
use Rattle.finishing_reach.specs.declared.Sides.{Sides}

-- a reading of the cell c, for a table that keeps the questions
unfoldable pub read : Table → (scratch second : List ℕ) → ℕ → Result Sides Refusal
read t xs ms c = answered (asked 20 (mem c (take (get_or xs count_at 0) (postorder t))) c) (record { left = mark ms c 1; right = mark ms c 2 })

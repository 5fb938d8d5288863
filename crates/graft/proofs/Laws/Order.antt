-- The row of a join's questions computes. Assumes nothing.
use Rattle.std.specs.Prelude.{refl}
use Rattle.plan.specs.Questions.{number}
use Rattle.plan.specs.Order as plan
use Rattle.graft.specs.Sequence.{join_sequence, join_given}
use Rattle.graft.specs.Order.{in_order, Rows}

pub rows : Rows
unfolding in_order join_sequence join_given plan.in_order plan.numbers plan.number_in plan.concerns plan.some_buffer plan.has_positions number
rows = record { of_join = λ room t u c. refl }

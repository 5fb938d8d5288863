use Rattle.walk.specs.Opened.{Visiting}
use Rattle.walk.proofs.Laws.Walked.{Keeps}
use Rattle.walk.specs.Turns.{state_of}
use Rattle.walk.specs.Machine.{chart_of}
use Rattle.walk.proofs.Laws.Machine.{most_turns, turns}
use Rattle.joining.specs.Joining.{memory_of}
use lib.ListN.{length}
use mathlib.Core.Path.{◌≡◌}
use Rattle.walk.proofs.walk.Given as goal

abbrev pub invariant-loop-at : goal.invariant-loop-at
invariant-loop-at l = Keeps (chart_of l.b) l.initial.rows (state_of l.at.open_cells.cells l.at.open_cells.count l.at.next l.rows l.marks) × Visiting (chart_of l.b) (memory_of l.initial.rows l.initial.marks) l.at.open_cells.cells l.at.open_cells.count l.at.next l.rows l.marks × (length l.rows ≡ length l.initial.rows) × (length l.marks ≡ length l.initial.marks)

abbrev pub decreases-loop-at : goal.decreases-loop-at
decreases-loop-at l = turns (chart_of l.b) most_turns (state_of l.at.open_cells.cells l.at.open_cells.count l.at.next l.rows l.marks)

use Rattle.outline.specs.Steps.{item_at}
use Rattle.outline.proofs.Laws.Cells.{Wrote}
use Rattle.outline.proofs.put_cells.Given as goal

abbrev pub invariant-loop-c : goal.invariant-loop-c
invariant-loop-c l = Wrote (item_at l.t l.letters) l.initial.out l.out l.begin l.at l.levels l.c

use Rattle.plan.specs.Trees.{Column}
use Rattle.looking_sights.specs.Sights.{view_in}
use Rattle.why_layers.specs.Marks.{mark_first}
use Rattle.why_layers.proofs.first_marks.Given as goal

abbrev pub invariant-loop-c : goal.invariant-loop-c
invariant-loop-c l = Column l.out l.c (mark_first (view_in l.sights) l.low)

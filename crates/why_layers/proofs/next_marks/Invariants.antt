use Rattle.plan.specs.Trees.{Column}
use Rattle.looking_sights.specs.Sights.{view_in}
use Rattle.why_layers.specs.Marks.{mark_next}
use Rattle.why_layers.proofs.next_marks.Given as goal

abbrev pub invariant-loop-c : goal.invariant-loop-c
invariant-loop-c l = Column l.out l.c (mark_next (view_in l.sights) l.allowance l.n l.marks l.m)

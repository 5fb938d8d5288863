use Rattle.why_layers.proofs.Seeking.{Seeking}
use Rattle.looking_sights.specs.Sights.{view_in}
use Rattle.why_layers.specs.Marks.{at_end}
use Rattle.why_layers.proofs.ending.Given as goal

abbrev pub invariant-loop-e : goal.invariant-loop-e
invariant-loop-e l = Seeking (at_end (view_in l.sights) l.marks l.m l.high) l.n l.e

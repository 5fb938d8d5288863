use Rattle.why_layers.proofs.Seeking.{Seeking}
use Rattle.looking_sights.specs.Sights.{view_in}
use Rattle.why_layers.specs.Marks.{leads_on}
use Rattle.why_layers.proofs.source.Given as goal

abbrev pub invariant-loop-a : goal.invariant-loop-a
invariant-loop-a l = Seeking (leads_on (view_in l.sights) l.allowance l.marks l.m l.b) l.n l.a

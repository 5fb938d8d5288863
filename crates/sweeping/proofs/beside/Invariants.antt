use Rattle.sweeping.proofs.Passing.{Upto}
use Rattle.looking_sights.specs.Sights.{view_in}
use Rattle.sweeping.specs.Swept.{BesideAt}
use Rattle.spans.specs.Spans.{at}
use Rattle.sweeping.proofs.beside.Given as goal

abbrev pub invariant-loop-v : goal.invariant-loop-v
invariant-loop-v l = Upto (BesideAt (view_in l.sights) l.n l.allowance (at l.sides.high) (at l.sides.low)) l.v

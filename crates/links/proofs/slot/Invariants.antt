use lib.ListN.{length}
use Rattle.links.specs.Chain.{line_of}
use Rattle.links.proofs.Laws.Build.{Sought}
use Rattle.links.proofs.slot.Given as goal

abbrev pub invariant-loop-at : goal.invariant-loop-at
invariant-loop-at l = Sought l.ranks l.links l.from l.q l.at l.s

abbrev pub decreases-loop-at : goal.decreases-loop-at
decreases-loop-at l = length (line_of l.links l.s)

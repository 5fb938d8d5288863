use lib.ListN.{length}
use Rattle.links.specs.Chain.{line_of}
use Rattle.links.proofs.Laws.Build.{Numbered}
use Rattle.links.proofs.number_children.Given as goal

abbrev pub invariant-loop-s : goal.invariant-loop-s
invariant-loop-s l = Numbered l.initial.links l.f l.links l.s l.k

abbrev pub decreases-loop-s : goal.decreases-loop-s
decreases-loop-s l = length (line_of l.links l.s)

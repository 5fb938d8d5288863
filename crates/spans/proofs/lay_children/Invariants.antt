use lib.ListN.{length}
use Rattle.links.specs.Chain.{line_of}
use Rattle.spans.specs.Shared.{cols}
use Rattle.spans.proofs.Laying.{Shares}
use Rattle.spans.proofs.lay_children.Given as goal

abbrev pub invariant-loop-s : goal.invariant-loop-s
invariant-loop-s l = Shares l.links l.size (cols l.initial.first l.initial.end l.initial.from l.initial.to) l.f (cols l.first l.end l.from l.to) l.s l.elder l.here

abbrev pub decreases-loop-s : goal.decreases-loop-s
decreases-loop-s l = length (line_of l.links l.s)

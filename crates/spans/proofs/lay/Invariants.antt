use Rattle.spans.specs.Shared.{cols}
use Rattle.spans.proofs.Laying.{Laying}
use Rattle.spans.proofs.lay.Given as goal

abbrev pub invariant-loop-c : goal.invariant-loop-c
invariant-loop-c l = Laying l.fn.t l.size l.c (cols l.first l.end l.from l.to)

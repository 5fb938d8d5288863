use Rattle.why_search.proofs.Laws.Explained.{Tracing}
use Rattle.looking_sights.specs.Sights.{view_in}
use Rattle.why_search.proofs.search.trace.Given as goal

abbrev pub invariant-loop-k : goal.invariant-loop-k
invariant-loop-k l = Tracing (view_in l.sights) l.allowance l.n l.marks l.count l.last l.out l.k l.b

use Rattle.why_search.proofs.Laws.Explained.{Searching}
use Prim.Native.Nat.{◌+◌}
use Rattle.looking_sights.specs.Sights.{view_in}
use Rattle.why_search.proofs.search.search.Given as goal

abbrev pub invariant-loop-count : goal.invariant-loop-count
invariant-loop-count l = Searching (view_in l.sights) l.allowance l.n l.low l.high l.marks (l.count + 1)

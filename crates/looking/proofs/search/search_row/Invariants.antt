use Rattle.looking_sights.specs.Sights.{view_in}
use Rattle.looking.proofs.Searching.{Rowing}
use Rattle.looking.proofs.search.search_row.Given as goal

abbrev pub invariant-loop-b : goal.invariant-loop-b
invariant-loop-b l = Rowing (view_in l.sights) l.n l.allowance l.rule l.a l.b

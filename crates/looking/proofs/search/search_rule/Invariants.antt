use Rattle.looking_sights.specs.Sights.{view_in}
use Rattle.looking.proofs.Searching.{Ruling}
use Rattle.looking.proofs.search.search_rule.Given as goal

abbrev pub invariant-loop-a : goal.invariant-loop-a
invariant-loop-a l = Ruling (view_in l.sights) l.n l.allowance l.rule l.a

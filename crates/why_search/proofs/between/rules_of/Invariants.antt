use Rattle.plan.specs.Trees.{Column}
use Rattle.looking_sights.specs.Sights.{view_in}
use Rattle.why_search.specs.Rules.{rule_between}
use Rattle.why_search.proofs.between.rules_of.Given as goal

abbrev pub invariant-loop-j : goal.invariant-loop-j
invariant-loop-j l = Column l.out l.j (rule_between (view_in l.sights) l.allowance l.cells)

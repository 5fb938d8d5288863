use Rattle.looking_sights.specs.Sights.{view_in}
use Rattle.why_search.specs.Extremes.{Extremes}
use Rattle.why_search.proofs.span_of.Given as goal

abbrev pub invariant-loop-c : goal.invariant-loop-c
invariant-loop-c l = Extremes (view_in l.sights) l.n l.c l.low l.high

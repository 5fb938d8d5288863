use Rattle.spans.proofs.Numbering.{Numbering}
use Rattle.spans.proofs.number.Given as goal

abbrev pub invariant-loop-c : goal.invariant-loop-c
invariant-loop-c l = Numbering l.t l.links l.c l.nth l.many

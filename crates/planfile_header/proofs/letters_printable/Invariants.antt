use Rattle.plan.specs.Limits.{between, first_letter, last_letter}
use Rattle.planfile_spec.proofs.Laws.Every.{Tested}
use Rattle.planfile_header.proofs.letters_printable.Given as goal

abbrev pub invariant-loop-i : goal.invariant-loop-i
invariant-loop-i l = Tested (between first_letter last_letter) l.file l.begin l.i l.good

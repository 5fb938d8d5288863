use Rattle.copying_records.proofs.Laws.Put.{Laid}
use Rattle.copying_parts.proofs.put_labels.Given as goal

abbrev pub invariant-loop-c : goal.invariant-loop-c
invariant-loop-c l = Laid l.t.label_length l.t.label_start l.letters l.initial.out l.out l.c l.at

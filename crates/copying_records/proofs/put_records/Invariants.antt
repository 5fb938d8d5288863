use Rattle.copying_records.proofs.Laws.Put.{Rowed}
use Rattle.copying_records.proofs.put_records.Given as goal

abbrev pub invariant-loop-c : goal.invariant-loop-c
invariant-loop-c l =
    let u = l.t.columns in
    Rowed l.form u.parent u.kind u.width u.depth u.rank l.t.label_length l.initial.out l.out l.begin l.c l.at l.start

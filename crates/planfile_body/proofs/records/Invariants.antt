use Rattle.planfile_spec.proofs.Laws.Format.{Filled}
use Rattle.plan.specs.Forms.{record_size}
use Rattle.planfile_spec.specs.Format.{record_at}
use Rattle.planfile_body.proofs.records.Given as goal

abbrev pub invariant-loop-c : goal.invariant-loop-c
invariant-loop-c l = Filled (record_size l.form) (record_at l.form l.file) l.begin l.c l.cursor.at l.parent l.kind l.width l.depth l.rank l.label_length l.label_start

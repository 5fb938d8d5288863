use Prim.Native.Nat.{◌+◌, ◌*◌}
use mathlib.Core.Path.{◌≡◌}
use Rattle.plan.specs.Forms.{record_size}
use Rattle.planfile_spec.specs.Format.{record_at}
use Rattle.mending_boxes.specs.Raised.{mend_records}
use Rattle.mending_boxes.proofs.mend_records.Given as goal

abbrev pub invariant-loop-c : goal.invariant-loop-c
invariant-loop-c l = l.out ≡ mend_records l.form l.begin (λ x. record_at l.form l.file (l.begin + record_size l.form * x)) l.initial.out l.c

use Prim.Native.Nat.{◌+◌, ◌*◌, ◌≤◌}
use Rattle.plan.specs.Forms.{record_size}
use Rattle.planfile_spec.specs.Format.{record_at}
use Rattle.listing.specs.Put.{Put}
use Rattle.mending_lines.specs.Steps.{line_room, alterations_text}
use Rattle.mending_lines.proofs.put_lines.Given as goal

abbrev pub invariant-loop-c : goal.invariant-loop-c
invariant-loop-c l = (l.next ≤ line_room * l.c) × Put l.initial.out 0 (alterations_text (λ x. record_at l.form l.file (l.begin + record_size l.form * x)) l.c) l.out l.next

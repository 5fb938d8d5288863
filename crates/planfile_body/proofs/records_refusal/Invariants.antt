use Rattle.planfile_spec.specs.FileSteps.{records_at}
use Rattle.plan.specs.declared.Lettered.{Lettered}
use Rattle.plan.specs.declared.forms.Form.{Form}
use Rattle.plan.specs.declared.Refusal.{Refusal}
use Rattle.plan.specs.Questions.{at_each}
use Prim.Native.Nat.{ℕ, ◌-◌}
use mathlib.Core.Path.{◌≡◌}
use Rattle.planfile_body.proofs.records_refusal.Given as goal

abbrev at_record : Form → ℕ → Lettered → ℕ → Refusal
at_record form begin t = let u = t.columns in records_at form begin u.parent u.kind u.width u.depth t.label_length t.label_start

abbrev pub invariant-loop-c : goal.invariant-loop-c
invariant-loop-c l = at_each (at_record l.form l.begin l.t) 0 l.t.columns.count ≡ at_each (at_record l.form l.begin l.t) l.c (l.t.columns.count - l.c)

use mathlib.Core.Path.{refl}
use native.Mathlib.Omega.{arith}
use Rattle.copying_records.proofs.Laws.Put.{narrow_start, narrow-more, form-ends}
use Rattle.copying_parts.proofs.form_for.Goals as goal

pub loop-c-init : goal.loop-c-init
loop-c-init c = narrow_start _ _

pub loop-c-preserved : goal.loop-c-preserved
loop-c-preserved c = narrow-more _ _ _ _ _ c.loop-c.invariant c.narrow-good.ensures

pub returns-then-good : goal.returns-then-good
returns-then-good c = form-ends _ _ _ _ _ _ c.loop-c.invariant (omega arith) (rw c.if-good.true refl)

pub returns-else-good : goal.returns-else-good
returns-else-good c = form-ends _ _ _ _ _ _ c.loop-c.invariant (omega arith) (rw c.if-good.false refl)

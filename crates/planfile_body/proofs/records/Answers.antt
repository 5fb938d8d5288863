use Rattle.planfile_spec.proofs.Laws.Format.{filled_none, filled_more, filled-all}
use Rattle.planfile_spec.specs.Read.{plan_of}
use Rattle.plan.specs.Forms.{record_size}
use Rattle.plan.proofs.Laws.Form.{record_inside}
use mathlib.Core.Path.{ap}
use native.Mathlib.Omega.{arith}
use Rattle.planfile_body.proofs.records.Goals as goal

pub loop-c-init : goal.loop-c-init
loop-c-init c = filled_none _ _ _

pub entry-entry-requires : goal.entry-entry-requires
entry-entry-requires c = omega (arith, c.loop-c.invariant.next_at, record_inside (record_size c.args.form) c.loop-c.c c.args.n c.loop-c-test.true, c.requires.1)

pub loop-c-preserved : goal.loop-c-preserved
loop-c-preserved c = filled_more _ _ _ _ _ _ _ _ _ _ _ _ c.loop-c.invariant _ _ c.entry-entry.ensures.0 c.entry-entry.ensures.1

pub returns : goal.returns
returns c = ap plan_of (filled-all _ _ _ _ _ _ _ _ _ _ _ _ c.loop-c.invariant _ _ (omega arith))

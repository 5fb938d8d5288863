use Rattle.following.proofs.Laws.Drilled.{refused, asks, done}
use Rattle.plan.proofs.Laws.Answered.{passes}
use Rattle.plan.specs.Columns.{table_of}
use Rattle.following.proofs.drill.Goals as goal

pub returns-in_err-drill_refusal : goal.returns-in_err-drill_refusal
returns-in_err-drill_refusal c = refused (table_of c.args.t.now) c.args.answers.now c.args.list.now _ _ c.in_err-drill_refusal.ensures c.from_residual.ensures.1

pub follow-requires : goal.follow-requires
follow-requires c = asks (table_of c.args.t.now) c.args.answers.now c.args.list.now (passes _ _ c.in_ok-drill_refusal.ensures)

pub returns : goal.returns
returns c = done (table_of c.args.t.now) c.args.answers.now c.args.list.now _ c.in_ok-drill_refusal.ensures c.follow.ensures.0 c.follow.ensures.1

use mathlib.Core.Path.{ap, ◌∙◌}
use Rattle.std.specs.Prelude.{Ok}
use Rattle.season.specs.Pool.{pool}
use Rattle.plan.proofs.Laws.Answered.{answers_err, answers_ok, passes}
use Rattle.season.proofs.Laws.Pool.{both_small}
use Rattle.season.proofs.pool.Goals as goal

pub returns-in_err-pool_refusal : goal.returns-in_err-pool_refusal
unfolding pool
returns-in_err-pool_refusal c = answers_err _ _ _ _ c.in_err-pool_refusal.ensures c.from_residual.ensures.1

pub pooled-requires : goal.pooled-requires
pooled-requires c = both_small c.args.a c.args.b (passes _ _ c.in_ok-pool_refusal.ensures)

pub returns : goal.returns
unfolding pool
returns c = ap Ok c.pooled.ensures ∙ answers_ok _ _ c.in_ok-pool_refusal.ensures _

use Rattle.plan.specs.Steps.{table_refusal}
use Rattle.plan.proofs.Laws.Answered.{err_stops, ok_goes_on, passes}
use Rattle.plan.proofs.Laws.Steps.{cells-lower, cells-flat}
use Rattle.asking.proofs.table_refusal.Goals as goal

pub returns-in_err-cells_refusal : goal.returns-in_err-cells_refusal
unfolding table_refusal
returns-in_err-cells_refusal c = λ qs. err_stops _ _ _ _ (c.in_err-cells_refusal.ensures qs) c.from_residual.ensures.1 _

pub returns : goal.returns
unfolding table_refusal
returns c = λ qs. ok_goes_on _ _ (c.in_ok-cells_refusal.ensures qs) _ _ _ (c.tree_refusal.ensures _ qs)

pub tree_refusal-requires-clause-lower : goal.tree_refusal-requires-clause-lower
tree_refusal-requires-clause-lower c =
    let t = c.args.t.now in
    cells-lower t.parent t.kind t.width t.depth t.rank t.count (passes _ _ (c.in_ok-cells_refusal.ensures t.rank)) c.requires.0 c.requires.1

pub tree_refusal-requires-clause-flat : goal.tree_refusal-requires-clause-flat
tree_refusal-requires-clause-flat c =
    let t = c.args.t.now in
    cells-flat t.parent t.kind t.width t.depth t.rank t.count (passes _ _ (c.in_ok-cells_refusal.ensures t.rank))

use mathlib.Core.Path.{refl}
use Rattle.plan.proofs.Laws.Answered.{err_stops, ok_goes_on, passes}
use Rattle.planfile_spec.proofs.Laws.Examined.{records-lower, records-flat}
use Rattle.planfile_spec.specs.FileSteps.{columns_refusal}
use Rattle.planfile_body.proofs.body_refusal.Goals as goal

pub returns-in_err-records_refusal : goal.returns-in_err-records_refusal
unfolding columns_refusal
returns-in_err-records_refusal c = err_stops _ _ _ _ c.in_err-records_refusal.ensures c.from_residual.ensures.1 _

pub tree_refusal-requires-clause-lower : goal.tree_refusal-requires-clause-lower
tree_refusal-requires-clause-lower c =
    let g = c.args in
    let p = g.plan.now.cells in
    let t = p.columns in
    records-lower g.form g.begin t.count t.parent t.kind t.width t.depth p.label_length p.label_start _ refl (passes _ _ c.in_ok-records_refusal.ensures) c.requires.0 c.requires.1

pub tree_refusal-requires-clause-flat : goal.tree_refusal-requires-clause-flat
tree_refusal-requires-clause-flat c =
    let g = c.args in
    let p = g.plan.now.cells in
    let t = p.columns in
    records-flat g.form g.begin t.count t.parent t.kind t.width t.depth p.label_length p.label_start _ refl (passes _ _ c.in_ok-records_refusal.ensures)

pub returns-in_err-tree_refusal : goal.returns-in_err-tree_refusal
unfolding columns_refusal
returns-in_err-tree_refusal c =
    ok_goes_on _ _ c.in_ok-records_refusal.ensures _ _ _ (err_stops _ _ _ _ (c.in_err-tree_refusal.ensures _ _) c.from_residual-in_err-tree_refusal.ensures.1 _)

pub returns : goal.returns
unfolding columns_refusal
returns c = ok_goes_on _ _ c.in_ok-records_refusal.ensures _ _ _ (ok_goes_on _ _ (c.in_ok-tree_refusal.ensures _ _) _ _ _ c.allowance_refusal.ensures)

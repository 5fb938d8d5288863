use Rattle.grafting.proofs.Laws.Asked.{low_of, flat-of, stopped, ready-passed, stopped-later, joins}
use Rattle.grafting.proofs.join.Goals as goal

pub returns-in_err-ready : goal.returns-in_err-ready
returns-in_err-ready c =
    let a = c.args in
    stopped a.first.now a.second.now a.cell a.room _ _ c.in_err-ready.ensures c.from_residual.ensures.1

pub join_columns-t-requires : goal.join_columns-t-requires
join_columns-t-requires c =
    let a = c.args in
    (ready-passed a.first.now a.second.now a.cell a.room _ c.in_ok-ready.ensures).able

pub tree_refusal-requires-clause-lower : goal.tree_refusal-requires-clause-lower
tree_refusal-requires-clause-lower c =
    let a = c.args in
    low_of a.first.now.columns a.second.now.columns a.cell (ready-passed a.first.now a.second.now a.cell a.room _ c.in_ok-ready.ensures) _ c.join_columns-t.ensures

pub tree_refusal-requires-clause-flat : goal.tree_refusal-requires-clause-flat
tree_refusal-requires-clause-flat c =
    let a = c.args in
    flat-of a.first.now.columns a.second.now.columns a.cell (ready-passed a.first.now a.second.now a.cell a.room _ c.in_ok-ready.ensures) _ c.join_columns-t.ensures

pub returns-in_err-tree_refusal : goal.returns-in_err-tree_refusal
returns-in_err-tree_refusal c =
    let a = c.args in
    stopped-later a.first.now a.second.now a.cell a.room _ c.in_ok-ready.ensures _ c.join_columns-t.ensures _ _ (c.in_err-tree_refusal.ensures _ _) c.from_residual-in_err-tree_refusal.ensures.1

pub accept-requires : goal.accept-requires
accept-requires c =
    let a = c.args in
    (low_of a.first.now.columns a.second.now.columns a.cell (ready-passed a.first.now a.second.now a.cell a.room _ c.in_ok-ready.ensures) _ c.join_columns-t.ensures).few

pub returns : goal.returns
returns c =
    let a = c.args in
    joins a.first.now a.second.now a.cell a.room _ c.in_ok-ready.ensures _ c.join_columns-t.ensures _ (c.in_ok-tree_refusal.ensures _ _) _ c.accept.ensures

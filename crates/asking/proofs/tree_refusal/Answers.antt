use mathlib.Core.Path.{sym, ap, ◌∙◌}
use Rattle.plan.specs.Questions.{passed}
use Rattle.plan.specs.Steps.{tree_refusal}
use Rattle.plan.proofs.Laws.Answered.{err_stops, ok_goes_on}
use Rattle.plan.proofs.Laws.Steps.{rows_short, children-columns, levels_columns, rows-columns}
use Rattle.asking.proofs.tree_refusal.Goals as goal

pub returns-in_err-children_refusal : goal.returns-in_err-children_refusal
unfolding tree_refusal
returns-in_err-children_refusal c =
    let t = c.args.t.now in
    λ ws qs. err_stops _ _ _ _ (c.in_err-children_refusal.ensures ∙ ap passed (sym (children-columns t.parent t.kind ws t.depth qs t.count _ (c.survey-found.ensures _ ws qs).0))) c.from_residual.ensures.1 _

pub returns-in_err-levels_refusal : goal.returns-in_err-levels_refusal
unfolding tree_refusal
returns-in_err-levels_refusal c =
    let t = c.args.t.now in
    λ ws qs. ok_goes_on _ _ (c.in_ok-children_refusal.ensures ∙ ap passed (sym (children-columns t.parent t.kind ws t.depth qs t.count _ (c.survey-found.ensures _ ws qs).0))) _ _ _
    (err_stops _ _ _ _ (c.in_err-levels_refusal.ensures ∙ ap passed (sym (levels_columns t.parent t.kind ws t.depth qs t.count _ (c.survey-found.ensures _ ws qs).1))) c.from_residual-in_err-levels_refusal.ensures.1 _)

pub returns : goal.returns
unfolding tree_refusal
returns c =
    let t = c.args.t.now in
    λ ws qs. ok_goes_on _ _ (c.in_ok-children_refusal.ensures ∙ ap passed (sym (children-columns t.parent t.kind ws t.depth qs t.count _ (c.survey-found.ensures _ ws qs).0))) _ _ _
    (ok_goes_on _ _ (c.in_ok-levels_refusal.ensures ∙ ap passed (sym (levels_columns t.parent t.kind ws t.depth qs t.count _ (c.survey-found.ensures _ ws qs).1))) _ _ _
    (c.rows_refusal.ensures ∙ ap passed (sym (rows-columns t.parent t.kind ws t.depth qs t.count _ (c.survey-found.ensures _ ws qs).2))))

pub rows_refusal-requires : goal.rows_refusal-requires
rows_refusal-requires c =
    let t = c.args.t.now in
    (c.requires.lower.few, rows_short t.parent t.kind t.width t.depth t.rank _ _ c.requires.lower c.requires.flat (c.survey-found.ensures _ _ _).2)

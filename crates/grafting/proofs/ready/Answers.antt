use mathlib.Core.Path.{refl, ap, ◌∙◌}
use native.Mathlib.Omega.{arith}
use Rattle.plan.specs.Questions.{passed}
use Rattle.plan.proofs.Laws.Answered.{err_stops, ok_goes_on, passes}
use Rattle.grafting.proofs.Laws.Asked.{ready_columns, part-columns, part-read}
use Rattle.grafting.proofs.ready.Goals as goal

pub returns-in_err-asked : goal.returns-in_err-asked
returns-in_err-asked c = err_stops _ _ _ _ (c.in_err-asked.ensures.numbered (omega arith)) c.from_residual.ensures.1 _ ∙ ap passed (ready_columns c.args.first.now c.args.second.now c.args.cell c.args.room)

pub returns-in_err-part_refusal : goal.returns-in_err-part_refusal
returns-in_err-part_refusal c =
    ok_goes_on _ _ (c.in_ok-asked.ensures.numbered (omega arith)) _ _ _
    (err_stops _ _ _ _ (c.in_err-part_refusal.ensures c.args.first.now.rank ∙ ap passed (part-columns _)) c.from_residual-in_err-part_refusal.ensures.1 _)
    ∙ ap passed (ready_columns c.args.first.now c.args.second.now c.args.cell c.args.room)

pub returns-in_err-part_refusal-2 : goal.returns-in_err-part_refusal-2
returns-in_err-part_refusal-2 c =
    ok_goes_on _ _ (c.in_ok-asked.ensures.numbered (omega arith)) _ _ _
    (ok_goes_on _ _ (c.in_ok-part_refusal.ensures c.args.first.now.rank ∙ ap passed (part-columns _)) _ _ _
    (err_stops _ _ _ _ (c.in_err-part_refusal-2.ensures c.args.second.now.rank ∙ ap passed (part-columns _)) c.from_residual-in_err-part_refusal-2.ensures.1 _))
    ∙ ap passed (ready_columns c.args.first.now c.args.second.now c.args.cell c.args.room)

pub returns-in_err-asked-2 : goal.returns-in_err-asked-2
returns-in_err-asked-2 c =
    ok_goes_on _ _ (c.in_ok-asked.ensures.numbered (omega arith)) _ _ _
    (ok_goes_on _ _ (c.in_ok-part_refusal.ensures c.args.first.now.rank ∙ ap passed (part-columns _)) _ _ _
    (ok_goes_on _ _ (c.in_ok-part_refusal-2.ensures c.args.second.now.rank ∙ ap passed (part-columns _)) _ _ _
    (err_stops _ _ _ _ (c.in_err-asked-2.ensures.numbered (omega arith)) c.from_residual-in_err-asked-2.ensures.1 _)))
    ∙ ap passed (ready_columns c.args.first.now c.args.second.now c.args.cell c.args.room)

pub overflow_add-first : goal.overflow_add-first
overflow_add-first c =
    omega (arith, (part-read c.args.first.now _ refl (passes _ _ (c.in_ok-part_refusal.ensures c.args.first.now.rank ∙ ap passed (part-columns c.args.first.now)))).low.few, (part-read c.args.second.now _ refl (passes _ _ (c.in_ok-part_refusal-2.ensures c.args.second.now.rank ∙ ap passed (part-columns c.args.second.now)))).low.few)

pub returns : goal.returns
returns c =
    ok_goes_on _ _ (c.in_ok-asked.ensures.numbered (omega arith)) _ _ _
    (ok_goes_on _ _ (c.in_ok-part_refusal.ensures c.args.first.now.rank ∙ ap passed (part-columns _)) _ _ _
    (ok_goes_on _ _ (c.in_ok-part_refusal-2.ensures c.args.second.now.rank ∙ ap passed (part-columns _)) _ _ _
    (ok_goes_on _ _ (c.in_ok-asked-2.ensures.numbered (omega arith)) _ _ _
    (rw c.counted.ensures at c.asked-3.ensures.numbered (omega arith)))))
    ∙ ap passed (ready_columns c.args.first.now c.args.second.now c.args.cell c.args.room)

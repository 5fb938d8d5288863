use mathlib.Core.Path.{◌≡◌, sym, ap, ◌∙◌}
use native.Mathlib.Omega.{arith}
use lib.Dec.{leb}
use Rattle.plan.specs.Limits.{scratch_size, most_allowance}
use Rattle.plan.specs.Columns.{table_of}
use Rattle.plan.specs.Questions.{layout, refusal, layout_given, asked, or_else, passed}
use Rattle.plan.specs.Steps.{lent_refusal}
use Rattle.plan.proofs.Laws.Answered.{err_stops, ok_goes_on}
use Rattle.plan.proofs.Laws.Calls.{layout-refusal}
use Rattle.layout.proofs.layout_refusal.Goals as goal
use Rattle.layout.proofs.layout_refusal.Goals.{Start}

-- the questions in the order in which they are put
put : (c : Start) → passed (or_else (asked 1 (leb scratch_size c.args.scratch) 0) (or_else (lent_refusal (table_of c.args.t.now) c.args.positions) (asked 14 (leb c.args.allowance most_allowance) 0)))
    ≡ passed (refusal layout (layout_given (table_of c.args.t.now) c.args.allowance c.args.scratch c.args.positions))
put c = ap passed (sym (layout-refusal (table_of c.args.t.now) c.args.allowance c.args.scratch c.args.positions))

pub returns-in_err-asked : goal.returns-in_err-asked
returns-in_err-asked c =
    err_stops _ _ _ _ (c.in_err-asked.ensures.numbered (omega arith)) c.from_residual.ensures.1 _ ∙ put (goal.at.returns-in_err-asked c).Start

pub returns-in_err-lent_refusal : goal.returns-in_err-lent_refusal
returns-in_err-lent_refusal c =
    ok_goes_on _ _ (c.in_ok-asked.ensures.numbered (omega arith)) _ _ _ (err_stops _ _ _ _ (c.in_err-lent_refusal.ensures _) c.from_residual-in_err-lent_refusal.ensures.1 _)
    ∙ put (goal.at.returns-in_err-lent_refusal c).Start

pub returns : goal.returns
returns c =
    ok_goes_on _ _ (c.in_ok-asked.ensures.numbered (omega arith)) _ _ _ (ok_goes_on _ _ (c.in_ok-lent_refusal.ensures _) _ _ _ c.allowance_refusal.ensures)
    ∙ put (goal.at.returns c).Start

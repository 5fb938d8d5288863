use mathlib.Core.Path.{sym, ap, ◌∙◌}
use native.Mathlib.Omega.{arith}
use Rattle.plan.specs.Questions.{passed}
use Rattle.plan.proofs.Laws.Answered.{err_stops, ok_goes_on, passes}
use Rattle.season.proofs.Laws.Pool.{asked_small, refusal_is}
use Rattle.season.proofs.pool_refusal.Goals as goal

pub returns-in_err-asked : goal.returns-in_err-asked
returns-in_err-asked c =
    err_stops _ _ _ _ (rw c.sound.ensures at c.in_err-asked.ensures.numbered (omega arith)) c.from_residual.ensures.1 _
    ∙ ap passed (sym (refusal_is c.args.a c.args.b))

pub returns-in_err-asked-2 : goal.returns-in_err-asked-2
returns-in_err-asked-2 c =
    ok_goes_on _ _ (rw c.sound.ensures at c.in_ok-asked.ensures.numbered (omega arith)) _ _ _
    (err_stops _ _ _ _ (rw c.sound-2.ensures at c.in_err-asked-2.ensures.numbered (omega arith)) c.from_residual-in_err-asked-2.ensures.1 _)
    ∙ ap passed (sym (refusal_is c.args.a c.args.b))

pub overflow_add-a : goal.overflow_add-a
overflow_add-a c =
    omega (
      arith,
      (asked_small c.args.a (passes _ _ (rw c.sound.ensures at c.in_ok-asked.ensures.numbered (omega arith)))).few,
      (asked_small c.args.b (passes _ _ (rw c.sound-2.ensures at c.in_ok-asked-2.ensures.numbered (omega arith)))).few,
    )

pub returns : goal.returns
returns c =
    ok_goes_on _ _ (rw c.sound.ensures at c.in_ok-asked.ensures.numbered (omega arith)) _ _ _
    (ok_goes_on _ _ (rw c.sound-2.ensures at c.in_ok-asked-2.ensures.numbered (omega arith)) _ _ _
    (c.asked-3.ensures.numbered (omega arith)))
    ∙ ap passed (sym (refusal_is c.args.a c.args.b))

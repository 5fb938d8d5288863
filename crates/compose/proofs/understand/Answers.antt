use native.Mathlib.Omega.{arith}
use Rattle.compose.proofs.Laws.Whole.{text-empty, text-first, text-wrong, text-rest}
use Rattle.compose.proofs.understand.Goals as goal

pub returns-then-text-eq0 : goal.returns-then-text-eq0
returns-then-text-eq0 c = text-empty c.args.text.now _ c.if-text-eq0.true

pub returns-in_err-s-in-Ok : goal.returns-in_err-s-in-Ok
returns-in_err-s-in-Ok c = text-wrong c.args.text.now c.line_end-end.result (omega arith) c.line_end-end.ensures.0 _ c.in-Ok.allowance c.in-Ok.ensures _ _ (rw c.past_line.ensures at c.in_err-s-in-Ok.ensures) c.from_residual.ensures.1

pub returns-in-Err : goal.returns-in-Err
returns-in-Err c = text-first c.args.text.now c.line_end-end.result (omega arith) c.line_end-end.ensures.0 _ _ c.in-Err.ensures

pub returns-in_ok-s-in-Ok : goal.returns-in_ok-s-in-Ok
returns-in_ok-s-in-Ok c = text-rest c.args.text.now c.line_end-end.result (omega arith) c.line_end-end.ensures.0 _ c.in-Ok.allowance c.in-Ok.ensures _ (rw c.past_line.ensures at c.in_ok-s-in-Ok.ensures)

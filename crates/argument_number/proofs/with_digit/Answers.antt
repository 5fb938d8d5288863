use mathlib.Core.Path.{◌∙◌}
use native.Mathlib.Omega.{arith}
use Rattle.argument_number.proofs.Laws.Number.{byte_low, byte_high, digit_great, digit_added}
use Rattle.argument_number.proofs.with_digit.Goals as goal

pub returns-then-b-lt48 : goal.returns-then-b-lt48
returns-then-b-lt48 c = byte_low _ _ c.if-b-lt48.true

pub returns-then-b-gt57 : goal.returns-then-b-gt57
returns-then-b-gt57 c = byte_high _ _ c.if-b-gt57.true

pub returns-in_err-checked_mul : goal.returns-in_err-checked_mul
returns-in_err-checked_mul c = c.from_residual.ensures ∙ digit_great _ _ (omega arith) (omega arith) (omega (arith, c.in_err-checked_mul.ensures))

pub returns : goal.returns
returns c = digit_added _ _ (omega arith) (omega arith) _ _ _ c.in_ok-checked_mul.ensures.1 c.from.ensures c.checked_add.ensures

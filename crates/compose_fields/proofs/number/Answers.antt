use Rattle.compose_fields.proofs.Laws.Parts.{digit-is, read-absent, number-end, number_other, number-goes}
use native.Mathlib.Omega.{arith}
use Rattle.compose_fields.proofs.number.Goals as goal

pub returns-then-line-at : goal.returns-then-line-at
returns-then-line-at c = read-absent c.args.line.now _ _ (number-end c.args.line.now _ _ c.if-line-at.true)

pub returns-then-not-is_ascii_digit : goal.returns-then-not-is_ascii_digit
returns-then-not-is_ascii_digit c =
    read-absent c.args.line.now _ _ (number_other c.args.line.now c.args.most c.args.at (omega arith) (digit-is _ _ c.is_ascii_digit.ensures.value _ c.if-not-is_ascii_digit.true))

pub returns : goal.returns
returns c = rw (number-goes c.args.line.now c.args.most c.args.at (omega arith) (digit-is _ _ c.is_ascii_digit.ensures.value _ c.if-not-is_ascii_digit.false)) c.number_from.ensures

use native.Mathlib.Omega.{arith}
use Rattle.compose_fields.proofs.Laws.Parts.{digit-is, digits_other, digits-large, digits_more, digits-end}
use Rattle.compose_fields.proofs.number_from.Goals as goal

pub returns-then-not-is_ascii_digit : goal.returns-then-not-is_ascii_digit
returns-then-not-is_ascii_digit c = digits_other _ _ _ _ _ c.loop-next.invariant.1 c.loop-next.invariant.0 c.loop-next-test.true (digit-is _ _ c.is_ascii_digit.ensures.value _ c.if-not-is_ascii_digit.true)

pub returns-then-most-value : goal.returns-then-most-value
returns-then-most-value c =
    digits-large _ _ _ _ _ c.loop-next.invariant.1 c.loop-next.invariant.0 _ c.loop-next-test.true (digit-is _ _ c.is_ascii_digit.ensures.value _ c.if-not-is_ascii_digit.false) (omega arith) c.if-most-value.true

pub loop-next-preserved : goal.loop-next-preserved
loop-next-preserved c = (
  c.if-most-value.false,
  digits_more c.args.line.now c.args.most _ c.loop-next.value c.loop-next.next c.loop-next.invariant.1 c.loop-next.invariant.0 _ c.loop-next-test.true (digit-is _ _ c.is_ascii_digit.ensures.value _ c.if-not-is_ascii_digit.false) (omega arith) c.if-most-value.false,
)

pub returns : goal.returns
returns c = digits-end _ _ _ _ c.loop-next.next c.loop-next.invariant.1 c.loop-next.invariant.0 (omega arith)

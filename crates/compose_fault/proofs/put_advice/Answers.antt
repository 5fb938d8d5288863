use native.Mathlib.Omega.{arith}
use Rattle.outline_spec.specs.Text.{text}
use Rattle.outline_spec.specs.Faults.{advice}
use Rattle.compose_fault.proofs.put_advice.Goals as goal

pub returns-in-EmptyText : goal.returns-in-EmptyText
unfolding text advice
returns-in-EmptyText c = (rw c.in-EmptyText.is c.put_text.ensures, omega (arith, c.put_text.ensures.place))

pub returns-in-StrangeByte : goal.returns-in-StrangeByte
unfolding text advice
returns-in-StrangeByte c = (rw c.in-StrangeByte.is c.put_text-in-StrangeByte.ensures, omega (arith, c.put_text-in-StrangeByte.ensures.place))

pub returns-in-LongLine : goal.returns-in-LongLine
unfolding text advice
returns-in-LongLine c = (rw c.in-LongLine.is c.put_text-in-LongLine.ensures, omega (arith, c.put_text-in-LongLine.ensures.place))

pub returns-in-ManyCells : goal.returns-in-ManyCells
unfolding text advice
returns-in-ManyCells c = (rw c.in-ManyCells.is c.put_text-in-ManyCells.ensures, omega (arith, c.put_text-in-ManyCells.ensures.place))

pub returns-in-NoAllowance : goal.returns-in-NoAllowance
unfolding text advice
returns-in-NoAllowance c = (rw c.in-NoAllowance.is c.put_text-in-NoAllowance.ensures, omega (arith, c.put_text-in-NoAllowance.ensures.place))

pub returns-in-OddBlanks : goal.returns-in-OddBlanks
unfolding text advice
returns-in-OddBlanks c = (rw c.in-OddBlanks.is c.put_text-in-OddBlanks.ensures, omega (arith, c.put_text-in-OddBlanks.ensures.place))

pub returns-in-UnknownWord : goal.returns-in-UnknownWord
unfolding text advice
returns-in-UnknownWord c = (rw c.in-UnknownWord.is c.put_text-in-UnknownWord.ensures, omega (arith, c.put_text-in-UnknownWord.ensures.place))

pub returns-in-UnknownField : goal.returns-in-UnknownField
unfolding text advice
returns-in-UnknownField c = (rw c.in-UnknownField.is c.put_text-in-UnknownField.ensures, omega (arith, c.put_text-in-UnknownField.ensures.place))

pub returns-in-LargeNumber : goal.returns-in-LargeNumber
unfolding text advice
returns-in-LargeNumber c = (rw c.in-LargeNumber.is c.put_text-in-LargeNumber.ensures, omega (arith, c.put_text-in-LargeNumber.ensures.place))

pub returns-in-OpenLabel : goal.returns-in-OpenLabel
unfolding text advice
returns-in-OpenLabel c = (rw c.in-OpenLabel.is c.put_text-in-OpenLabel.ensures, omega (arith, c.put_text-in-OpenLabel.ensures.place))

pub returns-in-Misplaced : goal.returns-in-Misplaced
unfolding text advice
returns-in-Misplaced c = (rw c.in-Misplaced.is c.put_text-in-Misplaced.ensures, omega (arith, c.put_text-in-Misplaced.ensures.place))

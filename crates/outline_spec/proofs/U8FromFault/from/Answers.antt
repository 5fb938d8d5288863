use mathlib.Core.Path.{refl}
use Rattle.outline_spec.specs.Faults.{fault_number}
use Rattle.outline_spec.proofs.U8FromFault.from.Goals as goal

pub returns-in-EmptyText : goal.returns-in-EmptyText
unfolding fault_number
returns-in-EmptyText c = rw c.in-EmptyText.is refl

pub returns-in-StrangeByte : goal.returns-in-StrangeByte
unfolding fault_number
returns-in-StrangeByte c = rw c.in-StrangeByte.is refl

pub returns-in-LongLine : goal.returns-in-LongLine
unfolding fault_number
returns-in-LongLine c = rw c.in-LongLine.is refl

pub returns-in-ManyCells : goal.returns-in-ManyCells
unfolding fault_number
returns-in-ManyCells c = rw c.in-ManyCells.is refl

pub returns-in-NoAllowance : goal.returns-in-NoAllowance
unfolding fault_number
returns-in-NoAllowance c = rw c.in-NoAllowance.is refl

pub returns-in-OddBlanks : goal.returns-in-OddBlanks
unfolding fault_number
returns-in-OddBlanks c = rw c.in-OddBlanks.is refl

pub returns-in-UnknownWord : goal.returns-in-UnknownWord
unfolding fault_number
returns-in-UnknownWord c = rw c.in-UnknownWord.is refl

pub returns-in-UnknownField : goal.returns-in-UnknownField
unfolding fault_number
returns-in-UnknownField c = rw c.in-UnknownField.is refl

pub returns-in-LargeNumber : goal.returns-in-LargeNumber
unfolding fault_number
returns-in-LargeNumber c = rw c.in-LargeNumber.is refl

pub returns-in-OpenLabel : goal.returns-in-OpenLabel
unfolding fault_number
returns-in-OpenLabel c = rw c.in-OpenLabel.is refl

pub returns-in-Misplaced : goal.returns-in-Misplaced
unfolding fault_number
returns-in-Misplaced c = rw c.in-Misplaced.is refl

use Rattle.mark_text.proofs.Laws.Text.{unread-is, numbers-put, no-cell-put, far-put, long-put}
use native.Mathlib.Omega.{arith}
use Rattle.mark_text.proofs.write_unread.Goals as goal

pub returns-in-NoNumber : goal.returns-in-NoNumber
returns-in-NoNumber c = (unread-is _ _ _ c.in-NoNumber.is (numbers-put _ _ c.write_fault.ensures.0), omega (arith, c.write_fault.ensures.1))

pub returns-in-NoCell : goal.returns-in-NoCell
returns-in-NoCell c = (unread-is _ _ _ c.in-NoCell.is (no-cell-put _ _ c.write_fault-in-NoCell.ensures.0), omega (arith, c.write_fault-in-NoCell.ensures.1))

pub returns-in-Twice : goal.returns-in-Twice
returns-in-Twice c = (unread-is _ _ _ c.in-Twice.is c.write_twice.ensures.0, c.write_twice.ensures.1)

pub returns-in-Far : goal.returns-in-Far
returns-in-Far c = (unread-is _ _ _ c.in-Far.is (far-put _ _ c.write_fault-in-Far.ensures.0), omega (arith, c.write_fault-in-Far.ensures.1))

pub returns-in-Missing : goal.returns-in-Missing
returns-in-Missing c = (unread-is _ _ _ c.in-Missing.is c.write_missing.ensures.0, c.write_missing.ensures.1)

pub returns-in-Long : goal.returns-in-Long
returns-in-Long c = (unread-is _ _ _ c.in-Long.is (long-put _ c.write_long.ensures.0), c.write_long.ensures.1)

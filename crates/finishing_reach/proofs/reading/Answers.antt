use native.Mathlib.Omega.{arith}
use Rattle.plan.proofs.Laws.Answered.{answers_err, answers_ok}
use Rattle.plan.proofs.Laws.Tables.{length-is}
use Rattle.finishing_reach.specs.Reading.{read}
use Rattle.finishing_reach.proofs.reading.Goals as goal

pub count_of-requires : goal.count_of-requires
count_of-requires c = c.requires.1

pub is_finished-requires : goal.is_finished-requires
is_finished-requires c = c.requires.0

pub asked-requires : goal.asked-requires
asked-requires c = omega (arith, c.requires.3, c.requires.0.not_too_many, length-is c.args.t.now)

pub mark_of-requires : goal.mark_of-requires
mark_of-requires c = (omega (arith, c.requires.2, c.requires.3, c.requires.0.not_too_many, length-is c.args.t.now), omega arith)

pub mark_of-requires-2 : goal.mark_of-requires-2
mark_of-requires-2 c = (omega (arith, c.requires.2, c.requires.3, c.requires.0.not_too_many, length-is c.args.t.now), omega arith)

pub returns-in_err-asked : goal.returns-in_err-asked
unfolding read
returns-in_err-asked c = answers_err _ _ _ _ (rw (c.is_finished.ensures, c.count_of.ensures) at c.in_err-asked.ensures.numbered (omega arith)) c.from_residual.ensures.1

pub returns : goal.returns
unfolding read
returns c = rw (c.mark_of.ensures, c.mark_of-2.ensures) (answers_ok _ _ (rw (c.is_finished.ensures, c.count_of.ensures) at c.in_ok-asked.ensures.numbered (omega arith)) _)

use Rattle.std.proofs.Common.{refl}
use Rattle.following_turn.proofs.Laws.Machine.{record_one, record_full}
use Rattle.following_turn.proofs.recorded.Goals as goal

pub returns-then-k-lt-MOST_STEPS-clause-count_value : goal.returns-then-k-lt-MOST_STEPS-clause-count_value
returns-then-k-lt-MOST_STEPS-clause-count_value c =
    let a = c.args in
    let p = c.requires in
    (refl, record_one a.s a.at.used a.at.records a.list.now p.2 c.if-k-lt-MOST_STEPS.true)

pub returns-clause-count_value : goal.returns-clause-count_value
returns-clause-count_value c =
    let a = c.args in
    let p = c.requires in
    (refl, record_full a.s a.at.used a.at.records a.list.now p.2 c.if-k-lt-MOST_STEPS.false p.1)

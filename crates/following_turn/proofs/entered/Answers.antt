use Rattle.std.proofs.Common.{◌∙◌, ap}
use Rattle.following_turn.specs.Machine.{frames_of}
use Rattle.following_turn.proofs.Laws.Machine.{enter_step, enter-other}
use Rattle.following_turn.proofs.entered.Goals as goal

pub returns-then-kind-eq1-clause-list_after : goal.returns-then-kind-eq1-clause-list_after
returns-then-kind-eq1-clause-list_after c =
    let a = c.args in
    let r = c.recorded.ensures.count_value in
    let h = c.pushed.ensures in
    enter_step a.links.now a.kinds.now a.answers.now a.s _ a.at.used a.at.records a.list.now c.kind_of-kind.ensures c.if-kind-eq1.true (ap (frames_of _ _ _) r.0 ∙ h.count_after) r.1

pub returns-clause-list_after : goal.returns-clause-list_after
returns-clause-list_after c =
    let a = c.args in
    let o = c.open_cell-o in
    let h = c.pushed-2.ensures in
    enter-other a.links.now a.kinds.now a.answers.now a.s _ a.at.used a.at.records a.list.now c.kind_of-kind.ensures o.result c.if-kind-eq1.false o.ensures h.count_after

use native.Mathlib.Omega.{arith}
use Rattle.following_cell.proofs.Laws.Opening.{answered_repeat, answered_choice, answered_wait}
use Rattle.following_cell.proofs.Laws.Siblings.{cell_room, cell-first}
use Rattle.following_cell.proofs.answered.Goals as goal

pub link-first-requires : goal.link-first-requires
link-first-requires c = (cell_room c.requires, omega arith)

pub returns-then-kind-eq3 : goal.returns-then-kind-eq3
returns-then-kind-eq3 c = answered_repeat c.args.links.now c.args.s c.args.kind c.args.a c.args.used c.if-kind-eq3.true c.link-first.ensures c.repeated.ensures

pub sibling-requires : goal.sibling-requires
sibling-requires c = cell-first c.requires c.link-first.ensures

pub returns-then-kind-eq4 : goal.returns-then-kind-eq4
returns-then-kind-eq4 c = answered_choice c.args.links.now c.args.s c.args.kind c.args.a c.args.used c.if-kind-eq3.false c.if-kind-eq4.true c.link-first.ensures c.sibling.ensures c.picked.ensures

pub returns : goal.returns
returns c = answered_wait c.args.links.now c.args.s c.args.kind c.args.a c.args.used c.if-kind-eq3.false c.if-kind-eq4.false c.link-first.ensures c.waiting.ensures

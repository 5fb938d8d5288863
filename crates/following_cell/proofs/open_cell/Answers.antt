use mathlib.Core.Path.{◌∙◌}
use native.Mathlib.Omega.{arith}
use Rattle.following_cell.proofs.Laws.Opening.{opened-run, opened-byte, opened_spent}
use Rattle.following_cell.proofs.Laws.Siblings.{cell_room}
use Rattle.following_cell.proofs.open_cell.Goals as goal

pub link-requires : goal.link-requires
link-requires c = (cell_room c.requires, omega arith)

pub returns-then-kind-eq2 : goal.returns-then-kind-eq2
returns-then-kind-eq2 c = c.once.ensures ∙ opened-run c.args.links.now c.args.answers.now c.args.s c.args.kind c.args.used c.if-kind-eq2.true c.link.ensures

pub returns-then-used-answers : goal.returns-then-used-answers
returns-then-used-answers c = opened-byte c.args.links.now c.args.answers.now c.args.s c.args.kind c.args.used c.if-kind-eq2.false c.if-used-answers.true c.byte_at.ensures c.answered.ensures

pub returns : goal.returns
returns c = c.nothing.ensures ∙ opened_spent c.args.links.now c.args.answers.now c.args.s c.args.kind c.args.used c.if-kind-eq2.false c.if-used-answers.false

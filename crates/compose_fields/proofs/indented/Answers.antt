use native.Mathlib.Omega.{arith}
use Rattle.compose_fields.proofs.Laws.Parts.{blanks-odd, blanks-even}
use Rattle.compose_fields.proofs.indented.Goals as goal

pub returns-then-n-ne0 : goal.returns-then-n-ne0
returns-then-n-ne0 c = blanks-odd c.args.line.now c.blanks-n.result c.blanks-n.ensures.within c.blanks-n.ensures.blank c.blanks-n.ensures.other c.if-n-ne0.true

pub returns : goal.returns
returns c = blanks-even c.args.line.now c.blanks-n.result c.blanks-n.ensures.within c.blanks-n.ensures.blank c.blanks-n.ensures.other c.if-n-ne0.false _ (omega (arith, c.if-n-ne0.false))

use native.Mathlib.Omega.{arith}
use Rattle.outline_line.proofs.Laws.Written.{label-none, label-put}
use Rattle.outline_line.proofs.put_label.Goals as goal

pub returns-then-text-eq0 : goal.returns-then-text-eq0
returns-then-text-eq0 c = (label-none _ _ c.args.text.now c.if-text-eq0.true, omega arith)

pub returns : goal.returns
returns c = (label-put c.args.text.now c.if-text-eq0.false c.put_text-open.ensures c.put_text-close.ensures c.put_byte.ensures, omega (arith, c.put_text-open.ensures.place, c.put_text-close.ensures.place, c.put_byte.ensures.place))

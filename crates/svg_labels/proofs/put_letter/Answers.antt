use native.Mathlib.Omega.{arith}
use Rattle.svg_labels.proofs.Laws.Labels.{letter_amp, letter_lt, letter_gt, letter-plain, put_as}
use Rattle.svg_labels.proofs.put_letter.Goals as goal

pub returns-in-38 : goal.returns-in-38
returns-in-38 c = (put_as _ _ (letter_amp _ c.in-38.is) c.put_text.ensures, omega (arith, c.put_text.ensures.place))

pub returns-in-60 : goal.returns-in-60
returns-in-60 c = (put_as _ _ (letter_lt _ c.in-60.is) c.put_text-in-60.ensures, omega (arith, c.put_text-in-60.ensures.place))

pub returns-in-62 : goal.returns-in-62
returns-in-62 c = (put_as _ _ (letter_gt _ c.in-62.is) c.put_text-in-62.ensures, omega (arith, c.put_text-in-62.ensures.place))

pub returns-in_default : goal.returns-in_default
returns-in_default c = (put_as _ _ (letter-plain _ (λ e. omega arith) (λ e. omega arith) (λ e. omega arith)) c.put_byte.ensures, omega (arith, c.put_byte.ensures.place))

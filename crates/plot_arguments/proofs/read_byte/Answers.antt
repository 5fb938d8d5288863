use mathlib.Core.Path.{sym, ◌∙◌}
use Rattle.plot_arguments.proofs.Laws.Lengths.{step-point, step-digit}
use borrow.Author.Tests.{eq-eqb, ne_eqb, le-leb, lt-leb}
use Rattle.plot_arguments.specs.Lengths.{step}
use Rattle.plot_arguments.proofs.read_byte.Goals as goal

pub returns-then-d : goal.returns-then-d
unfolding step
returns-then-d c = rw c.if-d.true c.broken.ensures

pub returns-then-b-eq-POINT : goal.returns-then-b-eq-POINT
returns-then-b-eq-POINT c = c.with_point.ensures ∙ sym (step-point _ _ c.if-d.false (eq-eqb _ _ c.if-b-eq-POINT.true))

pub returns-then-b-lt-ZERO : goal.returns-then-b-lt-ZERO
unfolding step
returns-then-b-lt-ZERO c = rw (c.if-d.false, ne_eqb _ _ c.if-b-eq-POINT.false, lt-leb _ _ c.if-b-lt-ZERO.true) c.broken-then-b-lt-ZERO.ensures

pub returns-then-b-gt-NINE : goal.returns-then-b-gt-NINE
unfolding step
returns-then-b-gt-NINE c = rw (c.if-d.false, ne_eqb _ _ c.if-b-eq-POINT.false, le-leb _ _ c.if-b-lt-ZERO.false, lt-leb _ _ c.if-b-gt-NINE.true) c.broken-then-b-gt-NINE.ensures

pub returns : goal.returns
returns c = c.with_digit.ensures ∙ sym (step-digit _ _ c.if-d.false (ne_eqb _ _ c.if-b-eq-POINT.false) (le-leb _ _ c.if-b-lt-ZERO.false) (le-leb _ _ c.if-b-gt-NINE.false))

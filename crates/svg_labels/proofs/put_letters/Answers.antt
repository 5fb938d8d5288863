use mathlib.Core.Path.{refl}
use native.Mathlib.Omega.{arith}
use Rattle.svg_labels.proofs.Laws.Labels.{letters-start, letters-more, letters-done}
use Rattle.svg_labels.proofs.put_letters.Goals as goal

pub loop-letter-init : goal.loop-letter-init
loop-letter-init c = (refl, omega arith, letters-start c.args.label.now _ _)

pub put_letter-next-requires : goal.put_letter-next-requires
put_letter-next-requires c = let i = c.loop-letter.invariant in omega (arith, c.requires, i.0, i.1, c.loop-letter-test.true)

pub loop-letter-preserved : goal.loop-letter-preserved
loop-letter-preserved c =
    let i = c.loop-letter.invariant in
    let h = c.loop-letter-test.true in
    (omega (arith, i.0), omega (arith, i.1, c.put_letter-next.ensures.1), letters-more _ i.2 h c.put_letter-next.ensures.0)

pub returns : goal.returns
returns c =
    let i = c.loop-letter.invariant in
    let h = c.loop-letter-test.false in
    (letters-done _ i.2 h, omega (arith, i.1, c.loop-letter.auto.letter-index-end))

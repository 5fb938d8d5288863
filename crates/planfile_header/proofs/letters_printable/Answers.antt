use Rattle.planfile_spec.proofs.Laws.Every.{every_more, every-ends}
use Rattle.planfile_header.proofs.letters_printable.Goals as goal

pub loop-i-preserved : goal.loop-i-preserved
loop-i-preserved c =
    let l = c.loop-i in
    rw c.printable-good.ensures (every_more _ _ _ l.i l.good c.requires l.invariant c.loop-i-test.true)

pub returns : goal.returns
returns c =
    let l = c.loop-i in
    every-ends _ _ _ l.i l.good c.requires l.invariant c.loop-i-test.false

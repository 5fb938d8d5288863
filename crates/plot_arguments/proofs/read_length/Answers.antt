use Rattle.plot_arguments.proofs.Laws.Lengths.{go_on, ended}
use native.Mathlib.Omega.{arith}
use Rattle.plot_arguments.proofs.read_length.Goals as goal

pub loop-b-preserved : goal.loop-b-preserved
loop-b-preserved c =
    let l = c.loop-b in
    let h = go_on _ l.b-index _ _ c.loop-b-test.true l.invariant.0 l.invariant.1 c.read_byte-d.ensures in (h.1, h.2)

pub returns : goal.returns
returns c =
    let l = c.loop-b in
    ended _ l.b-index _ _ (omega arith) c.loop-b-test.false l.invariant.1 c.finish.ensures

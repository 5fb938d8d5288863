use mathlib.Core.Path.{refl}
use native.Mathlib.Omega.{arith}
use Rattle.compose.proofs.Laws.Ends.{starts_well, reads_all, reads_wrong, reads_on}
use Rattle.compose.proofs.read_cells.Goals as goal

pub loop-s-init : goal.loop-s-init
loop-s-init c = let h = starts_well c.args.text.now c.args.letters.now c.args.from _ c.begun-s.ensures in (h.0, h.1, refl, h.2)

pub loop-s-preserved : goal.loop-s-preserved
loop-s-preserved c = (
  c.in-Ok.ensures.well,
  reads_on c.args.text.now _ _ c.args.from _ _ c.loop-s.invariant.1 c.in-Ok.ensures,
  omega (arith, c.turn.auto, c.loop-s.invariant.2),
  c.in-Ok.ensures.tight c.loop-s.invariant.3,
)

pub returns-in-Err : goal.returns-in-Err
returns-in-Err c = reads_wrong c.args.text.now _ _ c.args.from _ _ c.loop-s.invariant.1 c.in-Err.ensures

pub returns : goal.returns
returns c = reads_all c.args.text.now _ c.args.from _ c.loop-s-test.false c.loop-s.invariant.1 c.loop-s.invariant.0 c.loop-s.invariant.3

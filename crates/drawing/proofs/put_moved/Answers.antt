use mir.ValLaws.{to_z-of_z}
use mir.Syntax.{w32}
use Rattle.drawing.proofs.Laws.Drawn.{moved-x, moved-y}
use Rattle.positions.proofs.Laws.Written.{written_none, written-put}
use lib.ListN.{length, length-set}
use mathlib.Core.Path.{◌≡◌, refl, ap, ◌∙◌}
use native.Mathlib.Omega.{arith}
use Rattle.drawing.proofs.put_moved.Goals as goal

pub loop-c-init : goal.loop-c-init
loop-c-init c = (refl, written_none _ _)

pub loop-c-preserved : goal.loop-c-preserved
loop-c-preserved c = (ap length c.put_corner.ensures ∙ simp length-set c.loop-c.invariant.0, c.put_corner.ensures ∙ written-put _ _ _ _ _ _ c.loop-c.invariant.1 (to_z-of_z w32 c.apart.result (record { sfits = c.apart.type_inv }) ∙ c.apart.ensures ∙ moved-x _ _) (to_z-of_z w32 c.apart-in-loop-c.result (record { sfits = c.apart-in-loop-c.type_inv }) ∙ c.apart-in-loop-c.ensures ∙ moved-y _ _) (omega arith))

pub returns : goal.returns
returns c = let e : c.loop-c.c ≡ c.args.n = omega arith in rw e at c.loop-c.invariant.1

use Rattle.outline_line.proofs.Laws.Written.{put-length}
use mathlib.Core.Path.{◌≡◌}
use native.Mathlib.Omega.{arith}
use Rattle.outline_line.proofs.Laws.Written.{indent-none, indent-put, indent-place}
use Rattle.outline_line.proofs.put_indent.Goals as goal

pub loop-init : goal.loop-init
loop-init c = indent-none _ _

pub put_text-next-requires : goal.put_text-next-requires
put_text-next-requires c = omega (arith, indent-place c.loop.counter c.loop.invariant, put-length c.loop.invariant)

pub loop-preserved : goal.loop-preserved
loop-preserved c = indent-put c.loop.counter c.loop.invariant c.put_text-next.ensures

pub shape_of-out : goal.shape_of-out
shape_of-out c = put-length c.loop.invariant

pub returns : goal.returns
returns c = let e : c.loop.counter ≡ c.args.level = omega arith in (rw e at c.loop.invariant, omega (arith, indent-place c.loop.counter c.loop.invariant))

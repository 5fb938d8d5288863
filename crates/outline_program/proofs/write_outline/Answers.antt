use Rattle.std.proofs.Common.{ℕ, ◌≤◌, arith, sym}
use Rattle.std.proofs.Math.Seq.{length-take-le}
use Rattle.outline.specs.Outlined.{outline_size, size}
use Rattle.std.specs.Prelude.{Ok}
use Rattle.outline_program.proofs.write_outline.Goals as goal

-- the outline's length is at most the output's
fits : (n : ℕ) → size (Ok n) ≤ outline_size → n ≤ outline_size
unfolding size
fits n h = h

pub slice_bounds-text-end : goal.slice_bounds-text-end
slice_bounds-text-end g c = let h = fits _ c.in-Ok.ensures.suffices in omega (arith, h)

pub slice_bounds-write_all-end : goal.slice_bounds-write_all-end
slice_bounds-write_all-end g c = let h = fits _ c.in-Ok.ensures.suffices in sym (length-take-le _ _ (omega (arith, h)))

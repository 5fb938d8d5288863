use Rattle.std.proofs.Common.{ℕ, ◌≤◌, arith, sym}
use Rattle.std.specs.Prelude.{Ok}
use Rattle.std.proofs.Math.Seq.{length-take-le}
use Rattle.plan.specs.Limits.{most_file}
use Rattle.compose.specs.Composed.{size}
use Rattle.compose_program.proofs.write_plan.Goals as goal

-- the file's length is at most the output's
fits : (n : ℕ) → size (Ok n) ≤ most_file → n ≤ most_file
unfolding size
fits n h = h

pub slice_bounds-file-end : goal.slice_bounds-file-end
slice_bounds-file-end g c = let h = fits _ c.in-Ok.ensures.suffices in omega (arith, h)

pub slice_bounds-hand_over-end : goal.slice_bounds-hand_over-end
slice_bounds-hand_over-end g c = let h = fits _ c.in-Ok.ensures.suffices in sym (length-take-le _ _ (omega (arith, h)))

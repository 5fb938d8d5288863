use Rattle.std.proofs.Common.{ℕ, ◌≤◌, arith, sym}
use Rattle.std.proofs.Math.Seq.{length-take-le}
use Rattle.plan.specs.Limits.{most_file}
use Rattle.copying.specs.Copied.{size}
use Rattle.std.specs.Prelude.{Ok}
use Rattle.clean.proofs.write_copy.Goals as goal

-- the copy's length is at most the output's
fits : (n : ℕ) → size (Ok n) ≤ most_file → n ≤ most_file
unfolding size
fits n h = h

pub slice_bounds-copy-end : goal.slice_bounds-copy-end
slice_bounds-copy-end g c = let h = fits _ c.in-Ok.ensures.suffices in omega (arith, h)

pub slice_bounds-write_all-end : goal.slice_bounds-write_all-end
slice_bounds-write_all-end g c = let h = fits _ c.in-Ok.ensures.suffices in sym (length-take-le _ _ (omega (arith, h)))

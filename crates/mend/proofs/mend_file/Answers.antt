use Rattle.std.proofs.Common.{ℕ, ◌≤◌, arith, sym}
use Rattle.std.specs.Prelude.{Ok}
use Rattle.std.proofs.Math.Seq.{length-take-le}
use Rattle.plan.specs.Limits.{most_file}
use Rattle.mending.specs.Mending.{file_size, lines_length}
use Rattle.mending.specs.declared.Mended.{Mended}
use Rattle.mend.proofs.mend_file.Goals as goal

-- the file and the lines are no longer than their buffers
file_fits : (m : Mended) → file_size (Ok m) ≤ most_file → m.file ≤ most_file
unfolding file_size
file_fits m h = h

lines_fit : (m : Mended) (n : ℕ) → lines_length (Ok m) ≤ n → m.lines ≤ n
unfolding lines_length
lines_fit m n h = h

pub slice_bounds-mended-end : goal.slice_bounds-mended-end
slice_bounds-mended-end g c = let h = file_fits _ c.in-Ok.ensures.suffices.0 in omega (arith, h)

pub slice_bounds-file-end : goal.slice_bounds-file-end
slice_bounds-file-end g c = let h = file_fits _ c.in-Ok.ensures.suffices.0 in sym (length-take-le _ _ (omega (arith, h)))

pub slice_bounds-lines-end : goal.slice_bounds-lines-end
slice_bounds-lines-end g c = let h = lines_fit _ _ c.in-Ok.ensures.suffices.1 in omega (arith, h)

pub slice_bounds-hand_over-end : goal.slice_bounds-hand_over-end
slice_bounds-hand_over-end g c = let h = lines_fit _ _ c.in-Ok.ensures.suffices.1 in sym (length-take-le _ _ (omega (arith, h)))

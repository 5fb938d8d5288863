use mathlib.Core.Path.{sym}
use native.Mathlib.Omega.{arith}
use lib.Seq.{length-take-le}
use Rattle.mending.proofs.Laws.Code.{size_fits, trailer_there, records_there, copy-taken, mended-length, refused-mended, lines-whole, written}
use Rattle.mending.proofs.mend_file.Goals as goal

pub mended_copy-bytes-requires : goal.mended_copy-bytes-requires
mended_copy-bytes-requires c = c.requires.0

pub slice_bounds-bytes-end : goal.slice_bounds-bytes-end
slice_bounds-bytes-end c = let h = size_fits _ c.requires.0 in omega (arith, h)

pub slice_bounds-read-end : goal.slice_bounds-read-end
slice_bounds-read-end c = let h = size_fits _ c.requires.0 in sym (length-take-le _ _ (omega (arith, h)))

pub returns-in_err-read : goal.returns-in_err-read
returns-in_err-read c = let t = copy-taken _ c.requires.0 c.mended_copy-bytes.ensures in refused-mended _ _ _ c.requires.1 c.requires.2 _ _ (rw t at c.in_err-read.ensures) c.from_residual.ensures.1

pub slice_bounds-bytes-end-2 : goal.slice_bounds-bytes-end-2
slice_bounds-bytes-end-2 c = let h = size_fits _ c.requires.0 in omega (arith, h)

pub slice_bounds-copy-end : goal.slice_bounds-copy-end
slice_bounds-copy-end c = let h = size_fits _ c.requires.0 in sym (length-take-le _ _ (omega (arith, h)))

pub copy-requires : goal.copy-requires
copy-requires c = let t = copy-taken _ c.requires.0 c.mended_copy-bytes.ensures in rw (t, mended-length _ c.requires.0) (omega (arith, size_fits _ c.requires.0, c.requires.1))

pub trailer-t-requires : goal.trailer-t-requires
trailer-t-requires c = trailer_there _ c.requires.0

pub put_lines-length-requires : goal.put_lines-length-requires
put_lines-length-requires c = let h = records_there _ c.requires.0 c.trailer-t.ensures c.form_of-form.ensures in (h.0, h.1, c.requires.2)

pub returns : goal.returns
returns c = let z = c.requires.0 in let t = copy-taken _ z c.mended_copy-bytes.ensures in let h = records_there _ z c.trailer-t.ensures c.form_of-form.ensures in let e = c.put_lines-length.ensures in written _ _ _ c.requires.1 c.requires.2 z _ (rw t at c.in_ok-read.ensures) (rw t at c.copy.ensures) (lines-whole _ z c.trailer-t.ensures c.form_of-form.ensures e.0) (omega (arith, h.0, e.1))

use mathlib.Core.Path.{sym}
use native.Mathlib.Omega.{arith}
use lib.ListN.{length-replicate}
use lib.Seq.{length-take-le}
use Rattle.mending.proofs.Laws.Code.{size_fits, trailer_there, records_there, copy-mended}
use Rattle.mending.proofs.mended_copy.Goals as goal

pub trailer-t-requires : goal.trailer-t-requires
trailer-t-requires c = trailer_there _ c.requires

pub copy-requires : goal.copy-requires
copy-requires c = let h = size_fits _ c.requires in rw (length-replicate) (omega (arith, h))

pub slice_bounds-out-end : goal.slice_bounds-out-end
slice_bounds-out-end c = let h = size_fits _ c.requires in omega (arith, h)

pub slice_bounds-mend_records-end : goal.slice_bounds-mend_records-end
slice_bounds-mend_records-end c = let h = size_fits _ c.requires in sym (length-take-le _ _ (omega (arith, h, c.copy.auto)))

pub mend_records-requires : goal.mend_records-requires
mend_records-requires c = let h = records_there _ c.requires c.trailer-t.ensures c.form_of-form.ensures in (h.0, h.1, length-take-le _ _ (omega (arith, size_fits _ c.requires, c.copy.auto)))

pub returns : goal.returns
returns c = copy-mended _ c.requires c.trailer-t.ensures c.form_of-form.ensures c.copy.ensures c.mend_records.ensures

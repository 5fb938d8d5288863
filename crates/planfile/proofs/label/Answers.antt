use mathlib.Core.Path.{refl}
use native.Mathlib.Omega.{arith}
use Rattle.planfile_spec.proofs.Laws.Label.{part-inside}
use Rattle.planfile.proofs.label.Goals as goal

pub slice_bounds-result-count : goal.slice_bounds-result-count
slice_bounds-result-count c = rw c.label_part-part.ensures (part-inside c.args.file.now c.args.cell).0

pub slice_bounds-result-start : goal.slice_bounds-result-start
slice_bounds-result-start c = rw c.label_part-part.ensures (part-inside c.args.file.now c.args.cell).0

pub slice_bounds-result-end : goal.slice_bounds-result-end
slice_bounds-result-end c = rw c.label_part-part.ensures (part-inside c.args.file.now c.args.cell).1

pub returns : goal.returns
returns c = rw c.label_part-part.ensures (record { block = refl; place = omega arith; bytes = refl })

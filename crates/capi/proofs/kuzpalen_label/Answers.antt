use Rattle.std.proofs.Common.{ap}
use Rattle.planfile_spec.specs.declared.Part.{Part}
use Rattle.capi.proofs.kuzpalen_label.Goals as goal

pub returns : goal.returns
returns c = (ap (λ (r : Part). r.start) c.label_part-part.ensures, ap (λ (r : Part). r.end) c.label_part-part.ensures)

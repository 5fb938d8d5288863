use mathlib.Core.Path.{ap, ◌∙◌}
use native.Mathlib.Omega.{arith}
use Rattle.planfile_spec.specs.Format.{record_at}
use Rattle.mending_lines.proofs.record_of.Goals as goal

pub entry-entry-requires : goal.entry-entry-requires
entry-entry-requires c = rw c.place.ensures c.requires.1

pub returns : goal.returns
returns c = c.entry-entry.ensures.0 ∙ ap (record_at c.args.form c.args.file.now) c.place.ensures

pub place-requires : goal.place-requires
place-requires c = (c.requires.0, omega (arith, c.requires.1, c.well_formed))

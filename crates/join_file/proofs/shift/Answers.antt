use Rattle.planfile_spec.specs.Read.{reading}
use Rattle.join_file.proofs.Laws.Steps.{shift_is}
use Rattle.join_file.proofs.shift.Goals as goal

pub moved_starts-requires : goal.moved_starts-requires
moved_starts-requires c = c.requires

pub returns : goal.returns
returns c = shift_is _ (reading c.args.plan.now) _ c.moved_starts.ensures

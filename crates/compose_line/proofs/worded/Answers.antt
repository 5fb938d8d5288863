use Rattle.compose_line.proofs.Laws.Lines.{worded_none, worded_goes}
use Rattle.compose_line.proofs.worded.Goals as goal

pub returns-in_default : goal.returns-in_default
returns-in_default c = worded_none _ c.args.seen.now _ c.args.line.now _ _ c.kind_at.ensures c.in_default.not-Some

pub returns : goal.returns
returns c = worded_goes _ c.args.seen.now _ c.args.line.now _ _ c.in-Some.ensures _ c.fields.ensures

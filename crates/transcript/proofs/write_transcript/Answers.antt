use Rattle.printing.proofs.Laws.Taken.{taken}
use Rattle.transcript.proofs.Laws.Transcript.{unread-done}
use Rattle.transcript.proofs.write_transcript.Goals as goal

pub write_drill-requires : goal.write_drill-requires
write_drill-requires c = (taken _ _ c.in-Ok.ensures, c.requires)

pub returns-in-Err : goal.returns-in-Err
returns-in-Err c = unread-done _ c.args.answers.now _ c.in-Err.ensures c.put_refusal.ensures

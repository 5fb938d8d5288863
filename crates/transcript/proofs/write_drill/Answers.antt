use Rattle.transcript.proofs.Laws.Transcript.{answered, answered-done}
use borrow.Author.Rules.{rules}
use Rattle.transcript.proofs.write_drill.Goals as goal

pub tell-requires : goal.tell-requires
tell-requires c =
    let s = c.requires in
    (s.0, (answered _ _ c.args.answers.now _ _ _ s.0 (search rules) c.drill-answer.ensures).tellable, s.1)

pub returns : goal.returns
returns c =
    let s = c.requires in
    answered-done _ _ c.args.answers.now _ _ (answered _ _ c.args.answers.now _ _ _ s.0 (search rules) c.drill-answer.ensures) c.tell.ensures

use Rattle.std.proofs.Common.{rules, ap, sym, ◌∙◌}
use Rattle.answers.specs.Answers.{ends_answer}
use Rattle.answers.proofs.Laws.Answers.{joined_alike}
use Rattle.answers.proofs.EndsAnswerFromResultEndedRefusal.from.Goals as goal

pub returns-in-Ok : goal.returns-in-Ok
unfolding ends_answer
returns-in-Ok c = joined_alike (search rules) (search rules) (search rules) (search rules) ∙ ap ends_answer (sym c.in-Ok.is)

pub returns-in-Err : goal.returns-in-Err
unfolding ends_answer
returns-in-Err c = ap ends_answer (sym c.in-Err.is)

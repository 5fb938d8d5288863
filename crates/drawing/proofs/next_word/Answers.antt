use Rattle.drawing.proofs.Laws.Spans.{next-is}
use Rattle.drawing.proofs.next_word.Goals as goal

pub returns : goal.returns
returns c = next-is c.args.line.now c.args.at _ _ c.blanks_end-start.ensures.0 c.word_end-end.ensures.0 c.word_end-end.ensures.1

use Rattle.outline_spec.specs.Outline.{word}
use native.Mathlib.Omega.{arith}
use Rattle.compose_fields.proofs.Laws.Fields.{tries_here, tries_next, tries_none, names_all, left_out}
use Rattle.compose_fields.proofs.kind_at.Goals as goal

pub returns-in-Some : goal.returns-in-Some
unfolding word
returns-in-Some c = names_all _ _ _ (tries_here c.args.line.now c.args.at 1 _ _ (omega arith) c.in-Some.ensures)

pub returns-in-Some-after_word : goal.returns-in-Some-after_word
unfolding word
returns-in-Some-after_word c = names_all _ _ _ (tries_next c.args.line.now c.args.at 1 _ _ (left_out _ _ c.after_word.ensures c.in_default.not-Some) (tries_here c.args.line.now c.args.at 2 _ _ (omega arith) c.in-Some-after_word.ensures))

pub returns-in-Some-after_word-2 : goal.returns-in-Some-after_word-2
unfolding word
returns-in-Some-after_word-2 c = names_all _ _ _ (tries_next c.args.line.now c.args.at 1 _ _ (left_out _ _ c.after_word.ensures c.in_default.not-Some) (tries_next c.args.line.now c.args.at 2 _ _ (left_out _ _ c.after_word-2.ensures c.in_default-after_word.not-Some) (tries_here c.args.line.now c.args.at 3 _ _ (omega arith) c.in-Some-after_word-2.ensures)))

pub returns-in-Some-after_word-3 : goal.returns-in-Some-after_word-3
unfolding word
returns-in-Some-after_word-3 c = names_all _ _ _ (tries_next c.args.line.now c.args.at 1 _ _ (left_out _ _ c.after_word.ensures c.in_default.not-Some) (tries_next c.args.line.now c.args.at 2 _ _ (left_out _ _ c.after_word-2.ensures c.in_default-after_word.not-Some) (tries_next c.args.line.now c.args.at 3 _ _ (left_out _ _ c.after_word-3.ensures c.in_default-after_word-2.not-Some) (tries_here c.args.line.now c.args.at 4 _ _ (omega arith) c.in-Some-after_word-3.ensures))))

pub returns-in-Some-after_word-4 : goal.returns-in-Some-after_word-4
unfolding word
returns-in-Some-after_word-4 c = names_all _ _ _ (tries_next c.args.line.now c.args.at 1 _ _ (left_out _ _ c.after_word.ensures c.in_default.not-Some) (tries_next c.args.line.now c.args.at 2 _ _ (left_out _ _ c.after_word-2.ensures c.in_default-after_word.not-Some) (tries_next c.args.line.now c.args.at 3 _ _ (left_out _ _ c.after_word-3.ensures c.in_default-after_word-2.not-Some) (tries_next c.args.line.now c.args.at 4 _ _ (left_out _ _ c.after_word-4.ensures c.in_default-after_word-3.not-Some) (tries_here c.args.line.now c.args.at 5 _ _ (omega arith) c.in-Some-after_word-4.ensures)))))

pub returns : goal.returns
unfolding word
returns c = names_all _ _ _ (tries_next c.args.line.now c.args.at 1 _ _ (left_out _ _ c.after_word.ensures c.in_default.not-Some) (tries_next c.args.line.now c.args.at 2 _ _ (left_out _ _ c.after_word-2.ensures c.in_default-after_word.not-Some) (tries_next c.args.line.now c.args.at 3 _ _ (left_out _ _ c.after_word-3.ensures c.in_default-after_word-2.not-Some) (tries_next c.args.line.now c.args.at 4 _ _ (left_out _ _ c.after_word-4.ensures c.in_default-after_word-3.not-Some) (tries_next c.args.line.now c.args.at 5 _ _ (left_out _ _ c.after_word-5.ensures c.in_default-after_word-4.not-Some) (tries_none c.args.line.now c.args.at))))))

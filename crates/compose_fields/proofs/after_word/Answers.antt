use mathlib.Core.Path.{sym, ◌∙◌}
use native.Mathlib.Omega.{arith}
use Rattle.compose_fields.proofs.Laws.Fields.{word_missing, word-goes_on, word_there, word_end}
use Rattle.compose_fields.proofs.after_word.Goals as goal

pub returns-then-not-begins : goal.returns-then-not-begins
returns-then-not-begins c = word_missing c.args.word.now c.args.line.now c.args.at (sym c.begins.ensures ∙ c.if-not-begins.true)

pub parted-requires : goal.parted-requires
parted-requires c = word_end c.args.word.now c.args.line.now c.args.at (sym c.begins.ensures ∙ c.if-not-begins.false) (omega arith)

pub returns-then-not-parted : goal.returns-then-not-parted
returns-then-not-parted c = word-goes_on c.args.word.now c.args.line.now c.args.at (sym c.begins.ensures ∙ c.if-not-begins.false) (sym c.parted.ensures ∙ c.if-not-parted.true)

pub returns : goal.returns
returns c = word_there c.args.word.now c.args.line.now c.args.at (sym c.begins.ensures ∙ c.if-not-begins.false) (sym c.parted.ensures ∙ c.if-not-parted.false)

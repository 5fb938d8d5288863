use Rattle.std.specs.Prelude.{Err}
use mathlib.Core.Path.{sym, ap, ◌∙◌}
use native.Mathlib.Omega.{arith}
use Rattle.compose_fields.proofs.Laws.Fields.{optional-left, optional-absent, optional-large, optional-read, word_end}
use Rattle.compose_fields.proofs.field_at.Goals as goal

pub returns-then-not-begins : goal.returns-then-not-begins
returns-then-not-begins c = optional-left c.args.word.now _ c.args.line.now c.args.at (sym c.begins.ensures ∙ c.if-not-begins.true) (omega arith)

pub number-requires : goal.number-requires
number-requires c = (omega arith, word_end c.args.word.now c.args.line.now c.args.at (sym c.begins.ensures ∙ c.if-not-begins.false) (omega arith), omega arith)

pub returns-in-Ok : goal.returns-in-Ok
returns-in-Ok c = optional-read c.args.word.now _ c.args.line.now c.args.at (sym c.begins.ensures ∙ c.if-not-begins.false) _ c.number.ensures _ c.in-Ok.is

pub returns-in-Err-Absent : goal.returns-in-Err-Absent
returns-in-Err-Absent c = optional-absent c.args.word.now _ c.args.line.now c.args.at (sym c.begins.ensures ∙ c.if-not-begins.false) _ c.number.ensures (c.in-Err-Absent.is ∙ ap Err c.in-Err-Absent.field-0-is)

pub returns-in-Err-Large : goal.returns-in-Err-Large
returns-in-Err-Large c = optional-large c.args.word.now _ c.args.line.now c.args.at (sym c.begins.ensures ∙ c.if-not-begins.false) _ c.number.ensures (c.in-Err-Large.is ∙ ap Err c.in-Err-Large.field-0-is)

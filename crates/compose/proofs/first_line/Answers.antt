use Rattle.std.specs.Prelude.{Err}
use mathlib.Core.List.{[]}
use Rattle.compose_fields.proofs.Laws.Fields.{word_end}
use Rattle.compose_line.proofs.Laws.Lines.{clear_short}
use mathlib.Core.Path.{sym, ap, ◌∙◌}
use native.Mathlib.Omega.{arith}
use Rattle.compose.proofs.Laws.Whole.{first_unclear, first-other, first_absent, first-large, first_more, first_read}
use Rattle.compose.proofs.first_line.Goals as goal

pub returns-in_err-clear : goal.returns-in_err-clear
returns-in_err-clear c = first_unclear c.args.line.now _ _ c.in_err-clear.ensures c.from_residual.ensures.1

pub begins-requires : goal.begins-requires
begins-requires c = (omega arith, clear_short 0 [] c.args.line.now c.in_ok-clear.field-0 c.in_ok-clear.ensures, omega arith)

pub returns-then-not-begins : goal.returns-then-not-begins
returns-then-not-begins c = first-other c.args.line.now c.in_ok-clear.field-0 c.in_ok-clear.ensures (sym c.begins.ensures ∙ c.if-not-begins.true)

pub number-requires : goal.number-requires
number-requires c = (clear_short 0 [] c.args.line.now c.in_ok-clear.field-0 c.in_ok-clear.ensures, omega (arith, word_end _ c.args.line.now 0 (sym c.begins.ensures ∙ c.if-not-begins.false) (omega arith)), omega arith)

pub returns-then-n-line : goal.returns-then-n-line
returns-then-n-line c = first_more c.args.line.now c.in_ok-clear.field-0 c.in_ok-clear.ensures (sym c.begins.ensures ∙ c.if-not-begins.false) _ c.number.ensures _ c.in-Ok.is c.if-n-line.true

pub returns-in-Err-Absent : goal.returns-in-Err-Absent
returns-in-Err-Absent c = first_absent c.args.line.now c.in_ok-clear.field-0 c.in_ok-clear.ensures (sym c.begins.ensures ∙ c.if-not-begins.false) _ c.number.ensures (c.in-Err-Absent.is ∙ ap Err c.in-Err-Absent.field-0-is)

pub returns-in-Err-Large : goal.returns-in-Err-Large
returns-in-Err-Large c = first-large c.args.line.now c.in_ok-clear.field-0 c.in_ok-clear.ensures (sym c.begins.ensures ∙ c.if-not-begins.false) _ c.number.ensures (c.in-Err-Large.is ∙ ap Err c.in-Err-Large.field-0-is)

pub returns-else-n-line : goal.returns-else-n-line
returns-else-n-line c = first_read c.args.line.now c.in_ok-clear.field-0 c.in_ok-clear.ensures (sym c.begins.ensures ∙ c.if-not-begins.false) _ c.number.ensures _ c.in-Ok.is c.if-n-line.false

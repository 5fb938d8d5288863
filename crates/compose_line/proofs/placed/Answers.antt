use mathlib.Core.Path.{sym, ◌∙◌}
use Rattle.compose_line.proofs.Laws.Cells.{told_high, told_aside, told-placed}
use Rattle.compose_line.proofs.placed.Goals as goal

pub returns-then-not-lower : goal.returns-then-not-lower
returns-then-not-lower c = told_high c.args.seen.now c.args.told (rw c.from-parent.ensures at (sym c.lower.ensures ∙ c.if-not-lower.true))

pub returns-then-told-level_under : goal.returns-then-told-level_under
returns-then-told-level_under c =
    told_aside c.args.seen.now c.args.told (rw c.from-parent.ensures at (sym c.lower.ensures ∙ c.if-not-lower.false)) (λ e. c.if-told-level_under.true (e ∙ rw (← c.from-parent.ensures) (sym c.level_under.ensures)))

pub returns : goal.returns
returns c = told-placed c.args.seen.now c.args.told (rw c.from-parent.ensures at (sym c.lower.ensures ∙ c.if-not-lower.false)) (c.if-told-level_under.false ∙ (rw c.from-parent.ensures at c.level_under.ensures))

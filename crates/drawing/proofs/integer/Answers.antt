use mathlib.Core.Path.{sym, ◌∙◌}
use native.Mathlib.Omega.{arith}
use mir.Syntax.{w32}
use mir.ValLaws.{to_z-of_z}
use Rattle.drawing.proofs.Laws.Numbers.{below-some, integer-not_below, integer-below, integer-not_above, integer-above, told_small}
use Rattle.drawing.proofs.integer.Goals as goal

pub slice_bounds-natural-count : goal.slice_bounds-natural-count
slice_bounds-natural-count c = omega (arith, below-some c.args.word.now (sym c.begins_below.ensures ∙ c.if-begins_below.true))

pub slice_bounds-natural-start : goal.slice_bounds-natural-start
slice_bounds-natural-start c = omega (arith, below-some c.args.word.now (sym c.begins_below.ensures ∙ c.if-begins_below.true))

pub returns-in_err-natural : goal.returns-in_err-natural
returns-in_err-natural c = rw c.from_residual.ensures (integer-not_below _ (sym c.begins_below.ensures ∙ c.if-begins_below.true) c.in_err-natural.ensures)

pub difference-requires : goal.difference-requires
difference-requires c = (omega arith, omega (arith, told_small _ _ c.in_ok-natural.ensures))

pub returns-then-begins_below : goal.returns-then-begins_below
returns-then-begins_below c =
    integer-below _ (sym c.begins_below.ensures ∙ c.if-begins_below.true) _ _ c.in_ok-natural.ensures (to_z-of_z w32 c.difference.result (record { sfits = c.difference.type_inv }) ∙ c.difference.ensures)

pub returns-in_err-natural-2 : goal.returns-in_err-natural-2
returns-in_err-natural-2 c = rw c.from_residual-in_err-natural-2.ensures (integer-not_above _ (sym c.begins_below.ensures ∙ c.if-begins_below.false) c.in_err-natural-2.ensures)

pub difference-requires-2 : goal.difference-requires-2
difference-requires-2 c = (omega (arith, told_small _ _ c.in_ok-natural-2.ensures), omega arith)

pub returns : goal.returns
returns c =
    integer-above _ (sym c.begins_below.ensures ∙ c.if-begins_below.false) _ _ c.in_ok-natural-2.ensures (to_z-of_z w32 c.difference-2.result (record { sfits = c.difference-2.type_inv }) ∙ c.difference-2.ensures)

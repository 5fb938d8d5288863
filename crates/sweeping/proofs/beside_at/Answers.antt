use mathlib.Core.Path.{refl}
use Rattle.sweeping.proofs.Passing.{said_yes, said-no, said, from_low, sibling_low, beside_none, beside-one, not_ends, not_starts, overlaps}
use native.Mathlib.Omega.{arith}
use Rattle.whole.proofs.Laws.Says.{holds, says_le, is_true}
use Rattle.sweeping.proofs.beside_at.Goals as goal

pub cell_at-u-requires : goal.cell_at-u-requires
cell_at-u-requires c = from_low c.requires.ready.0 c.requires.small.1 c.see-w.ensures refl

pub returns-then-u-v : goal.returns-then-u-v
returns-then-u-v c = said_yes (beside_none _ _ _ c.requires.ready.1 c.see-w.ensures refl c.cell_at-u.ensures _ c.args.sides.now.high c.args.sides.now.low c.if-u-v.true)

pub see-e-requires : goal.see-e-requires
see-e-requires c = let h = sibling_low c.requires.ready.0 c.requires.ready.1 c.requires.small.1 c.see-w.ensures refl c.cell_at-u.ensures in omega (arith, c.requires.ready.0.few)

pub returns-then-w-most : goal.returns-then-w-most
returns-then-w-most c = said-no (λ h. not_ends _ _ _ c.requires.ready.1 c.see-w.ensures refl c.cell_at-u.ensures c.requires.ready.0 c.requires.small.1 c.if-u-v.false _ c.args.sides.now.high c.args.sides.now.low h c.if-w-most.true)

pub returns-then-least-e : goal.returns-then-least-e
returns-then-least-e c = said-no (λ h. not_starts _ _ _ c.requires.ready.1 c.see-w.ensures refl c.cell_at-u.ensures c.requires.ready.0 c.requires.small.1 c.if-u-v.false _ c.args.sides.now.high c.args.sides.now.low h c.see-e.ensures c.if-least-e.true)

pub returns : goal.returns
returns c = said _ (λ e. beside-one _ _ _ c.requires.ready.1 c.see-w.ensures refl c.cell_at-u.ensures _ c.args.sides.now.high c.args.sides.now.low c.see-e.ensures (c.requires.small.0.low_small _ c.requires.small.1) c.if-w-most.false c.if-least-e.false (holds (says_le _ _) e)) (λ h. is_true (says_le _ _) (overlaps _ _ _ c.requires.ready.1 c.see-w.ensures refl c.cell_at-u.ensures c.requires.ready.0 c.requires.small.1 c.if-u-v.false _ c.args.sides.now.high c.args.sides.now.low h (c.requires.small.0.low_small _ c.requires.small.1)))

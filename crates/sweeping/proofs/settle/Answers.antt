use Rattle.sweeping.proofs.Passing.{not_both, parent_low}
use Rattle.sweeping.proofs.Filling.{box-fits, stem-fits, settled_root, settled-other, settled_heir, heir_blocked, box_blocked}
use Rattle.looking_sights.specs.Sights.{view_in}
use Rattle.looking_sights.specs.declared.View.{View}
use mathlib.Core.Path.{◌∙◌, ap, refl}
use native.Mathlib.Omega.{arith}
use Rattle.sweeping.proofs.settle.Goals as goal

pub fill-requires : goal.fill-requires
fill-requires c = let e = ap (λ (v : View). v.x) c.see-w.ensures in let f = ap (λ (v : View). v.right) c.see-w.ensures in let g = ap (λ (v : View). v.bottom) c.see-w.ensures in let b = box-fits c.requires.1 c.requires.2 c.see-w.ensures in (omega (arith, c.requires.0.wide _ c.requires.2), c.requires.3, b.0, b.1, b.2)

pub returns-then-not-fill : goal.returns-then-not-fill
returns-then-not-fill c = (λ e. not_both e refl, λ e. box_blocked _ (c.args.c) c.see-w.ensures (c.fill.ensures.1 (c.if-not-fill.true)))

pub returns-then-c-eq0 : goal.returns-then-c-eq0
returns-then-c-eq0 c = (λ e. settled_root _ _ (c.args.c) c.requires.1 c.requires.2 c.see-w.ensures (c.fill.ensures.0 (c.if-not-fill.false)) c.if-c-eq0.true, λ e. not_both refl e)

pub see-v-requires : goal.see-v-requires
see-v-requires c = let h = parent_low c.requires.0 c.requires.2 c.if-c-eq0.false c.see-w.ensures refl in omega (arith, c.requires.0.few)

pub returns-then-w-v : goal.returns-then-w-v
returns-then-w-v c = (λ e. settled-other _ _ (c.args.c) c.requires.1 c.requires.2 c.see-w.ensures (c.fill.ensures.0 (c.if-not-fill.false)) (c.see-v.ensures ∙ ap (view_in (c.args.sights.now)) refl) c.if-w-v.true, λ e. not_both refl e)

pub fill-requires-2 : goal.fill-requires-2
fill-requires-2 c = let b = stem-fits c.requires.0 c.requires.1 c.requires.2 c.if-c-eq0.false c.see-w.ensures (c.see-v.ensures ∙ ap (view_in (c.args.sights.now)) refl) in (omega arith, (c.fill.ensures.0 (c.if-not-fill.false)).long, b.0, b.1, b.2)

pub returns : goal.returns
returns c = (λ e. settled_heir _ _ (c.args.c) c.requires.1 c.requires.2 c.see-w.ensures (c.fill.ensures.0 (c.if-not-fill.false)) (c.see-v.ensures ∙ ap (view_in (c.args.sights.now)) refl) c.if-c-eq0.false c.if-w-v.false (c.fill-2.ensures.0 e), λ e. heir_blocked _ _ (c.args.c) c.requires.1 c.requires.2 c.see-w.ensures (c.fill.ensures.0 (c.if-not-fill.false)) (c.see-v.ensures ∙ ap (view_in (c.args.sights.now)) refl) c.if-c-eq0.false c.if-w-v.false (c.fill-2.ensures.1 e))

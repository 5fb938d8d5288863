use Rattle.sweeping.proofs.Passing.{said_yes, said-no, said, not_alone_one, alone_two, alone_root, alone_child, parent_low}
use mathlib.Core.Path.{refl, ◌∙◌, sym}
use native.Mathlib.Omega.{arith}
use Rattle.sweeping.proofs.alone_at.Goals as goal

pub returns-then-not-pass1 : goal.returns-then-not-pass1
returns-then-not-pass1 c = said-no (not_alone_one c.see-w.ensures (sym c.pass1.ensures ∙ c.if-not-pass1.true))

pub returns-then-c-eq0 : goal.returns-then-c-eq0
returns-then-c-eq0 c = said_yes (alone_root c.see-w.ensures (sym c.pass1.ensures ∙ c.if-not-pass1.false) c.if-c-eq0.true)

pub see-v-requires : goal.see-v-requires
see-v-requires c = let h = parent_low c.requires.0 c.requires.1 c.if-c-eq0.false c.see-w.ensures refl in omega (arith, c.requires.0.few)

pub pass2-requires : goal.pass2-requires
pass2-requires c = let h = parent_low c.requires.0 c.requires.1 c.if-c-eq0.false c.see-w.ensures refl in omega (arith, c.requires.0.few)

pub returns : goal.returns
returns c = said _ (λ e. alone_child c.see-w.ensures (sym c.pass1.ensures ∙ c.if-not-pass1.false) refl c.see-v.ensures (sym c.pass2.ensures ∙ e)) (λ h. c.pass2.ensures ∙ alone_two c.see-w.ensures c.if-c-eq0.false refl c.see-v.ensures h)

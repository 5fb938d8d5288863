use mathlib.Core.Path.{refl, sym, ◌∙◌}
use Rattle.drawing.proofs.Laws.Numbers.{small_back}
use Rattle.drawing.proofs.Laws.Lines.{steps-beyond, steps_twice, steps-x, steps-y, steps-near}
use Rattle.drawing.proofs.put_cell.Goals as goal

pub returns-then-n-c : goal.returns-then-n-c
returns-then-n-c c = steps-beyond c.args.n c.args.k c.args.corner c.args.given.now c.args.places.now c.requires.0.few c.requires.1 c.if-n-c.true

pub returns-then-given-c-ne0 : goal.returns-then-given-c-ne0
returns-then-given-c-ne0 c = steps_twice c.args.n c.args.k c.args.corner c.args.given.now c.args.places.now c.requires.0.few c.requires.1 c.if-n-c.false c.if-given-c-ne0.true

pub returns-then-not-within : goal.returns-then-not-within
returns-then-not-within c = steps-x c.args.n c.args.k c.args.corner c.args.given.now c.args.places.now c.requires.0.few c.requires.1 c.if-n-c.false c.if-given-c-ne0.false _ _ (small_back c.args.corner.x) (small_back c.args.corner.y) (sym c.within.ensures ∙ c.if-not-within.true)

pub returns-then-not-within-2 : goal.returns-then-not-within-2
returns-then-not-within-2 c = steps-y c.args.n c.args.k c.args.corner c.args.given.now c.args.places.now c.requires.0.few c.requires.1 c.if-n-c.false c.if-given-c-ne0.false _ _ (small_back c.args.corner.x) (small_back c.args.corner.y) (sym c.within-2.ensures ∙ c.if-not-within-2.true)

pub returns : goal.returns
returns c =
    steps-near c.args.n c.args.k c.args.corner c.args.given.now c.args.places.now c.requires.0.few c.requires.1 c.if-n-c.false c.if-given-c-ne0.false _ _ (small_back c.args.corner.x) (small_back c.args.corner.y)
    (sym c.within.ensures ∙ c.if-not-within.false) (sym c.within-2.ensures ∙ c.if-not-within-2.false) _ _ refl c.put_corner.ensures _

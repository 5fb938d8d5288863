use native.Mathlib.Omega.{arith}
use mathlib.Core.Path.{◌∙◌}
use Rattle.strokes.specs.Raised.{box_of}
use Rattle.strokes.proofs.box_of.Goals as goal

pub box_stroke-requires : goal.box_stroke-requires
box_stroke-requires c =
    let h = c.requires.2 in
    (omega (arith, c.requires.0), omega (arith, c.x_of-x.ensures.1), omega (arith, c.y_of-y.ensures.1), omega (arith, c.from-w.ensures, h.wide), omega (arith, c.from-d.ensures, h.deep))

pub returns : goal.returns
unfolding box_of
returns c = c.box_stroke.ensures ∙ rw (c.x_of-x.ensures.0, c.y_of-y.ensures.0, c.from-w.ensures, c.from-d.ensures)

use mathlib.Core.Path.{◌∙◌}
use native.Mathlib.Omega.{arith}
use Rattle.strokes.proofs.Laws.Raised.{half_low}
use Rattle.strokes.specs.Raised.{connector_of}
use Rattle.strokes.proofs.connector_of.Goals as goal

pub returns : goal.returns
unfolding connector_of
returns c = c.connector_stroke.ensures ∙ rw (c.x_of-x.ensures.0, c.y_of-y.ensures.0, c.x_of-u.ensures.0, c.y_of-v.ensures.0, c.half-h.ensures, c.from-d.ensures, c.half-k.ensures)

pub overflow_add-x : goal.overflow_add-x
overflow_add-x c = omega (arith, c.x_of-x.ensures.1, half_low _ _ c.half-h.ensures c.requires.3.wide)

pub overflow_add-u : goal.overflow_add-u
overflow_add-u c = omega (arith, c.x_of-u.ensures.1, half_low _ _ c.half-k.ensures c.requires.4.wide)

pub connector_stroke-requires : goal.connector_stroke-requires
connector_stroke-requires c = (
  omega (arith, c.requires.0),
  omega (arith, c.x_of-x.ensures.1, half_low _ _ c.half-h.ensures c.requires.3.wide),
  omega (arith, c.y_of-y.ensures.1, c.from-d.ensures, c.requires.3.deep),
  omega (arith, c.x_of-u.ensures.1, half_low _ _ c.half-k.ensures c.requires.4.wide),
  omega (arith, c.y_of-v.ensures.1),
)

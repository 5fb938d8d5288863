-- A stroke whose coordinates are numbers (document 02, E1): each a value of the 64-bit format, neither a NaN nor an infinity. Assumes nothing.
use Rattle.std.specs.Prelude.{Bool, true, ◌&&◌, Float}
use Rattle.std.specs.Float.{binary64}
use Rattle.std.specs.Float.Ieee.{fits}
use Rattle.std.specs.Float.Ieee.Scale.{finite}
use Rattle.pen.specs.declared.Stroke.{Stroke}
use Rattle.pen.specs.declared.Stroke.TheVariants.{Move, Line, Lift}

unfoldable pub number : Float → Bool
number x = fits binary64 x && finite x

unfoldable pub finite_stroke : Stroke → Bool
finite_stroke (Move x y) = number x && number y
finite_stroke (Line x y) = number x && number y
finite_stroke Lift = true

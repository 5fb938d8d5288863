-- What it is for strokes to be in order: the pen is down only on a path that begins with a move, goes on with lines, one at least, and ends with a lift. Assumes nothing.
use Rattle.std.specs.Prelude.{◌≡◌, List, [], ◌∷◌, Bool, true, false, ℕ, ◌-◌, ◌≤◌, Float, get_or}
use Rattle.pen.specs.declared.Stroke.{Stroke}
use Rattle.pen.specs.declared.Stroke.TheVariants.{Move, Line, Lift}

-- the pen is up; stands where it moved to; draws
pub data Pen : Type 0 where
  up standing drawing : Pen

unfoldable pub orderly : Pen → List Stroke → Bool
orderly up [] = true
orderly up (Move x y ∷ l) = orderly standing l
orderly up (Line x y ∷ l) = false
orderly up (Lift ∷ l) = false
orderly standing [] = false
orderly standing (Move x y ∷ l) = false
orderly standing (Line x y ∷ l) = orderly drawing l
orderly standing (Lift ∷ l) = false
orderly drawing [] = false
orderly drawing (Move x y ∷ l) = false
orderly drawing (Line x y ∷ l) = orderly drawing l
orderly drawing (Lift ∷ l) = orderly up l

-- stroke s is a line
pub record Lined (l : List Stroke) (s : ℕ) : Type 0 where
  pub x : Float
  pub y : Float
  pub is : get_or l s Lift ≡ Line x y

-- the stroke before s is a line
pub record Lifted (l : List Stroke) (s : ℕ) : Type 0 where
  pub some : 1 ≤ s
  pub line : Lined l (s - 1)

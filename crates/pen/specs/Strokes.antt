-- THE STROKES of a drawn sheet, as document 02 lists them (E1). Assumes nothing.
use Rattle.std.specs.Prelude.{List, [], ◌∷◌, ◌++◌, ℕ, pred, length, ℤ}
use Rattle.plan.specs.Lists.{from}
use Rattle.plan.specs.Plan.{Table, cells}
use Rattle.plan.specs.declared.Page.{Page}
use Rattle.rules.specs.Placement.{Placement, right, base}
use Rattle.ends.specs.Ended.{joined}
use Rattle.ends.specs.declared.Ended.{Ended}
use Rattle.pen.specs.declared.Stroke.{Stroke}
use Rattle.pen.specs.declared.Stroke.TheVariants.{Move, Line, Lift}
use Rattle.pen.specs.Paper.{across, down}

-- the lists of the numbers of a list, one after the other
unfoldable pub each : (ℕ → List Stroke) → List ℕ → List Stroke
each f [] = []
each f (a ∷ l) = f a ++ each f l

module _ (t : Table) (p : Placement) (g : Page) where
  -- "a move to a point", "a line to a point"
  unfoldable pub move : ℤ → ℤ → Stroke
  move x y = Move (across t p g x) (down t p g y)

  unfoldable pub line : ℤ → ℤ → Stroke
  line x y = Line (across t p g x) (down t p g y)

  -- "a move to its upper left corner, four lines (to its upper right, lower right, lower left and upper left corner, lower being greater y) and a lift"
  unfoldable pub box_strokes : ℕ → List Stroke
  box_strokes c =
      move (p.x c) (p.y c)
      ∷ line (right t p c) (p.y c)
      ∷ line (right t p c) (base t p c)
      ∷ line (p.x c) (base t p c)
      ∷ line (p.x c) (p.y c)
      ∷ Lift
      ∷ []

  -- "a move to the father's end, a line and a lift": the two ends are those that Ends answers
  unfoldable pub from_end_to_end : Ended → List Stroke
  from_end_to_end e = move e.from_x e.from_y ∷ line e.to_x e.to_y ∷ Lift ∷ []

  unfoldable pub connector_strokes : ℕ → List Stroke
  connector_strokes c = from_end_to_end (joined t p c)

  -- "Each box, in cell order"; "then each connector, in order of the son"
  unfoldable pub strokes : List Stroke
  strokes = each box_strokes (cells t) ++ each connector_strokes (from 1 (pred (length t)))

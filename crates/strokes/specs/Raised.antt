-- The strokes as the code makes them, from natural numbers: coordinates moved up by 262,143. Nothing that a reader must believe stands here. Assumes nothing.
use Rattle.std.specs.Prelude.{List, [], ◌∷◌, ℕ, ◌+◌, ◌≤◌, ◌<◌, ℤ, pos, ◌-ℤ◌, get_or}
use Rattle.plan.specs.Limits.{farthest, most_cells, most_width, most_depth}
use Rattle.plan.specs.declared.Page.{Page}
use Rattle.corners.specs.Corners.{x_up, y_up}
use Rattle.ends.specs.Ended.{half}
use Rattle.pen.specs.declared.Stroke.{Stroke}
use Rattle.pen.specs.declared.Stroke.TheVariants.{Move, Line, Lift}
use Rattle.pen.specs.Paper.{plotted}

module _ (g : Page) (l : ℕ) where
  abbrev pub move_at : (x y : ℕ) → Stroke
  move_at x y = Move (plotted (pos x -ℤ pos l) g.pitch g.margin_x) (plotted (pos y -ℤ pos farthest) g.pitch g.margin_y)

  abbrev pub line_at : (x y : ℕ) → Stroke
  line_at x y = Line (plotted (pos x -ℤ pos l) g.pitch g.margin_x) (plotted (pos y -ℤ pos farthest) g.pitch g.margin_y)

  unfoldable pub box_at : (x y w d : ℕ) → List Stroke
  box_at x y w d = move_at x y ∷ line_at (x + w) y ∷ line_at (x + w) (y + d) ∷ line_at x (y + d) ∷ line_at x y ∷ Lift ∷ []

  unfoldable pub connector_at : (x y u v : ℕ) → List Stroke
  connector_at x y u v = move_at x y ∷ line_at u v ∷ Lift ∷ []

-- cell c has a box no greater than question 8 allows
pub record Boxed (ws ds : List ℕ) (c : ℕ) : Type 0 where
  pub few : c < most_cells
  pub wide : get_or ws c 0 ≤ most_width
  pub deep : get_or ds c 0 ≤ most_depth

-- a box and a connector from the columns
module _ (g : Page) (l : ℕ) (ws ds : List ℕ) (ps : List ℤ) where
  unfoldable pub box_of : ℕ → List Stroke
  box_of c = box_at g l (x_up ps c) (y_up ps c) (get_or ws c 0) (get_or ds c 0)

  unfoldable pub connector_of : ℕ → ℕ → List Stroke
  connector_of f c =
      connector_at g l (x_up ps f + half (get_or ws f 0)) (y_up ps f + get_or ds f 0) (x_up ps c + half (get_or ws c 0)) (y_up ps c)

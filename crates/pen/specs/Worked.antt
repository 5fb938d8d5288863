-- Worked coordinates and strokes. Assumes nothing.
use Rattle.std.specs.Prelude.{◌≡◌, List, [], ◌∷◌, ℕ, get_or, ℤ, pos, negsuc, Float}
use Rattle.std.specs.Float.{binary64}
use Rattle.std.specs.Float.Ieee.{of_int, of_bits}
use Rattle.plan.specs.Plan.{Table}
use Rattle.plan.specs.declared.Page.{Page}
use Rattle.rules.specs.Placement.{placed}
use Rattle.pen.specs.declared.Stroke.{Stroke}
use Rattle.pen.specs.declared.Stroke.TheVariants.{Move, Line, Lift}
use Rattle.pen.specs.Paper.{plotted}
use Rattle.pen.specs.Strokes.{strokes}

-- ◆B of document 01, run W 4 over steps W 3 and 5, here one row lower than our sheet has it: x 0, −4 and 0, y 1, 3 and 3; pitch 2, margins 10 and 0
unfoldable pub B : Table
B =
    record { parent = 65535; kind = 2; width = 4; depth = 1; rank = 0 }
    ∷ record { parent = 0; kind = 1; width = 3; depth = 1; rank = 0 }
    ∷ record { parent = 0; kind = 1; width = 5; depth = 1; rank = 0 }
    ∷ []

unfoldable pub BPositions : List ℤ
BPositions = pos 0 ∷ pos 1 ∷ negsuc 3 ∷ pos 3 ∷ pos 0 ∷ pos 3 ∷ []

abbrev pub whole_number : ℕ → Float
whole_number n = of_int binary64 (pos n)

unfoldable pub BPage : Page
BPage = record { pitch = whole_number 2; margin_x = whole_number 10; margin_y = whole_number 0 }

abbrev pub BStroke : ℕ → Stroke
BStroke s = get_or (strokes B (placed BPositions) BPage) s Lift

pub record Rows : Type 0 where
  -- 3 · 0.7 + 0.3: two roundings give ..32; one rounding of the whole (a fused multiply-add) would give ..33
  pub twice_rounded : plotted (pos 3) (of_bits binary64 0x3fe6_6666_6666_6666) (of_bits binary64 0x3fd3_3333_3333_3333) ≡ of_bits binary64 0x4003_3333_3333_3332
  -- the root's box, from (0, 1) to (4, 2), clockwise from its upper left corner and back to it: x counts from −4, y from 0
  pub upper_left : BStroke 0 ≡ Move (whole_number 18) (whole_number 2)
  pub upper_right : BStroke 1 ≡ Line (whole_number 26) (whole_number 2)
  pub lower_right : BStroke 2 ≡ Line (whole_number 26) (whole_number 4)
  pub lower_left : BStroke 3 ≡ Line (whole_number 18) (whole_number 4)
  pub closed : BStroke 4 ≡ Line (whole_number 18) (whole_number 2)
  pub lifts : BStroke 5 ≡ Lift
  -- the connector to cell 1: from (0 + 2, 1 + 1) to (−4 + 2, 3)
  pub joins : BStroke 18 ≡ Move (whole_number 22) (whole_number 4)
  pub ends : BStroke 19 ≡ Line (whole_number 14) (whole_number 6)

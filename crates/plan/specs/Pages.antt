-- The page of a plotter (document 02, E1): what question 17 asks, in the logic's account of IEEE 754. Assumes nothing.
use Rattle.std.specs.Prelude.{Bool, false, ◌&&◌, pos, negsuc, Float}
use Rattle.std.specs.Float.{fin}
use Rattle.std.specs.Float.Ieee.{le}
use Rattle.plan.specs.declared.Page.{Page}

-- from low to high, both included; a NaN is not
unfoldable pub from_to : (low high x : Float) → Bool
from_to low high x = le low x && le x high

-- a pitch: 0.25 to 16
abbrev pub least_pitch : Float
least_pitch = fin false 1 (negsuc 1)

abbrev pub most_pitch : Float
most_pitch = fin false 1 (pos 4)

-- a margin: 0 to 100
abbrev pub least_margin : Float
least_margin = fin false 0 (pos 0)

abbrev pub most_margin : Float
most_margin = fin false 25 (pos 2)

-- question 17: "17 when the pitch is not from 0.25 to 16 or a margin not from 0 to 100"
unfoldable pub fair : Page → Bool
fair g =
    from_to least_pitch most_pitch g.pitch
    && (from_to least_margin most_margin g.margin_x && from_to least_margin most_margin g.margin_y)

-- THE STROKES OF A DRAWING in SVG, and what stands before them, every byte: what the program `plot` prints (document 02, E1; docs/DECISIONS.md). Assumes nothing.
use Rattle.std.specs.Prelude.{◌∷◌, ◌++◌, Float}
use Rattle.listing.specs.Printed.{Bytes, space}
use Rattle.decimals.specs.Fixed.{millimetres}
use Rattle.pen.specs.declared.Stroke.{Stroke}
use Rattle.pen.specs.declared.Stroke.TheVariants.{Move, Line, Lift}
use Rattle.svg_strokes.specs.Words.{svg_open, mm_height, mm_view, strokes_open, path_open, line_word, path_close}

-- a path goes from each move to its lift
unfoldable pub point_text : (x y : Float) → Bytes
point_text x y = millimetres x ++ (space ∷ millimetres y)

unfoldable pub stroke_text : Stroke → Bytes
stroke_text (Move x y) = path_open ++ point_text x y
stroke_text (Line x y) = line_word ++ point_text x y
stroke_text Lift = path_close

-- before the strokes
unfoldable pub head_text : (wide high : Float) → Bytes
head_text w h = svg_open ++ (millimetres w ++ (mm_height ++ (millimetres h ++ (mm_view ++ (point_text w h ++ strokes_open)))))

-- THE DRAWING OF A PLAN FILE in SVG, every byte of it: what the program `plot` prints (document 02, E1; docs/DECISIONS.md). Assumes nothing.
use Rattle.std.specs.Prelude.{cond, List, [], ◌∷◌, ◌++◌, ℕ, zero, suc, ◌+◌, ◌*◌, eqb, ℤ, pos, Float, get_or, replicate}
use Rattle.std.specs.Float.{binary64}
use Rattle.std.specs.Float.Ieee.{of_int, add, mul}
use Rattle.whole.specs.Whole.{plus}
use Rattle.plan.specs.Limits.{most_cells}
use Rattle.plan.specs.Pages.{fair}
use Rattle.plan.specs.declared.Page.{Page}
use Rattle.rules.specs.Placement.{placed, width, rows}
use Rattle.positions.specs.Written.{written}
use Rattle.planfile_spec.specs.Read.{Reading}
use Rattle.planfile_spec.specs.Reading.{reading_of}
use Rattle.listing.specs.Printed.{Bytes, refused_line}
use Rattle.printing.specs.Printing.{label_bytes, read_table, ours}
use Rattle.pen.specs.declared.Stroke.{Stroke}
use Rattle.pen.specs.declared.Stroke.TheVariants.{Lift}
use Rattle.pen.specs.Strokes.{strokes}
use Rattle.svg_strokes.specs.Strokes.{stroke_text, head_text}
use Rattle.svg_labels.specs.Labels.{label_text, labels_head}
use Rattle.svg.specs.Words.{svg_close}

-- ---- the strokes: a path from each move to its lift
unfoldable pub strokes_text : List Stroke → Bytes
strokes_text [] = []
strokes_text (s ∷ l) = stroke_text s ++ strokes_text l

-- ---- the labels
-- those of the first n cells, by the strokes l
unfoldable pub labels_text : (l : List Stroke) (file : Bytes) → ℕ → Bytes
labels_text l f zero = []
labels_text l f (suc c) = labels_text l f c ++ label_text (get_or l (6 * c + 3) Lift) (label_bytes f c)

-- ---- the page: as long as so many lattice units, with a margin on both sides
unfoldable pub side : (units : ℕ) (pitch margin : Float) → Float
side n p m = add binary64 (add binary64 (mul binary64 (of_int binary64 (pos n)) p) m) m

-- ---- of a plan that is read: our sheet, as Layout writes it
unfoldable pub our_positions : Reading → List ℤ
our_positions p = written (replicate 512 (pos 0)) (ours p) p.columns.count

unfoldable pub our_strokes : Reading → Page → List Stroke
our_strokes p g = strokes (read_table p) (placed (our_positions p)) g

unfoldable pub sheet_text : Reading → Page → (file : Bytes) → Bytes
sheet_text p g f =
    head_text (side (plus (width (read_table p) (ours p))) g.pitch g.margin_x) (side (plus (rows (read_table p) (ours p))) g.pitch g.margin_y)
    ++ (strokes_text (our_strokes p g) ++ (labels_head g.pitch ++ (labels_text (our_strokes p g) f p.columns.count ++ svg_close)))

-- THE DRAWING: of a plan that Read refuses, or of a page that question 17 refuses, the line of the refusal
unfoldable pub drawing_of : (file : Bytes) → Page → Bytes
drawing_of f g =
    let p = reading_of f most_cells in
    cond (eqb p.refusal.number 0)
    (cond (fair g) (sheet_text p g f) (refused_line 17 0))
    (refused_line p.refusal.number p.refusal.cell)

-- THE LABELS OF A DRAWING in SVG, and what stands before them, every byte: what the program `plot` prints (document 02, E1; docs/DECISIONS.md). Assumes nothing.
use Rattle.std.specs.Prelude.{cond, [], ◌∷◌, ◌++◌, ℕ, eqb, Float, length}
use Rattle.listing.specs.Printed.{Bytes}
use Rattle.decimals.specs.Fixed.{millimetres}
use Rattle.pen.specs.declared.Stroke.{Stroke}
use Rattle.pen.specs.declared.Stroke.TheVariants.{Move, Line, Lift}
use Rattle.svg_labels.specs.Words.{labels_open, labels_scaled, text_open, text_y, text_shift, text_close, amp_word, lt_word, gt_word}

unfoldable pub letter : ℕ → Bytes
letter b = cond (eqb b 38) amp_word (cond (eqb b 60) lt_word (cond (eqb b 62) gt_word (b ∷ [])))

unfoldable pub escaped : Bytes → Bytes
escaped [] = []
escaped (b ∷ bs) = letter b ++ escaped bs

-- a label beside the point where its box's lower left corner is: the end of the line that is stroke 3 of the box; no text where it is empty
unfoldable pub label_at : (x y : Float) → Bytes → Bytes
label_at x y l = text_open ++ (millimetres x ++ (text_y ++ (millimetres y ++ (text_shift ++ (escaped l ++ text_close)))))

unfoldable pub at_line : Stroke → Bytes → Bytes
at_line (Move x y) l = []
at_line (Line x y) l = label_at x y l
at_line Lift l = []

unfoldable pub label_text : Stroke → Bytes → Bytes
label_text s l = cond (eqb (length l) 0) [] (at_line s l)

-- before the labels
unfoldable pub labels_head : (pitch : Float) → Bytes
labels_head p = labels_open ++ (millimetres p ++ labels_scaled)

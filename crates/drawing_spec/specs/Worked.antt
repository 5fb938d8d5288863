-- WORKED DRAWINGS, each computed: a listing, another origin, lines that are passed over, each fault. Assumes nothing.
use Rattle.std.specs.Prelude.{◌≡◌, refl, [], ◌∷◌, pos, negsuc}
use Rattle.whole.specs.Range.{in_range}
use Rattle.rules.specs.Placement.{placed}
use Rattle.positions.specs.Written.{corners}
use Rattle.listing.specs.Printed.{sheet_word}
use Rattle.drawing_spec.specs.declared.Fault.TheVariants.{NoNumber, NoCell, Twice, Far, Missing}
use Rattle.drawing_spec.specs.Words.{onto, lines, blank, parted, words, first, others, is_digit, natural_from, natural, with_sign, begins_below, integer}
use Rattle.drawing_spec.specs.Said.{Said, placed_at, wrong, begins, passes, numbered, by_words, line_said, empty_sheet, with_cell, step, lowest, moved, complete, said_lines, said}
use Rattle.drawing_spec.specs.Quoted.{text}

pub word : sheet_word ≡ text "sheet"
unfolding text
word = refl

-- document 01's printed example: what it says of the three cells
unfoldable pub example : Said
example = placed_at (pos 0 ∷ pos 0 ∷ negsuc 3 ∷ pos 2 ∷ pos 0 ∷ pos 2 ∷ [])

pub drawings :
    -- its listing, as printed
    (said 3 (text "sheet 3 0 9 4\n0 0 0 4 1 Up\n1 -4 2 3 1 A\n2 0 2 5 1 Run\n") ≡ example)
    -- with another origin, in another order, without a last line feed; a tab parts words as a blank does
    × (said 3 (text "2 17 5\n0 17 3\n1\t13  5") ≡ example)
    -- a remark, an empty line, one of blanks, what follows the numbers; a carriage return before the line feed
    × (said 3 (text "# by Nela\n\n   \n0 0 0 root\r\n1 -4 2 # left\r\n 2 -0 02\r\n") ≡ example)
    -- farthest bounds, and a plan of one cell
    × (said 1 (text "0 -262143 262143") ≡ placed_at (pos 0 ∷ pos 0 ∷ []))
unfolding text example corners placed in_range onto lines blank parted words first others is_digit natural_from natural with_sign begins_below integer begins passes numbered by_words line_said empty_sheet with_cell step lowest moved complete said_lines said
drawings = (refl, refl, refl, refl)

pub faults :
    -- two numbers; a word that is no number; a minus sign alone, or before a cell; `sheet` in a later line
    (said 3 (text "0 0 0\n1 -4") ≡ wrong (NoNumber 2))
    × (said 3 (text "0 0 0\n\n1 x 2\n") ≡ wrong (NoNumber 3))
    × (said 3 (text "0 0 -\n") ≡ wrong (NoNumber 1))
    × (said 3 (text "-0 0 0\n") ≡ wrong (NoNumber 1))
    × (said 3 (text "0 0 0\nsheet 3 0 9 4\n") ≡ wrong (NoNumber 2))
    -- cell 3 of three; it comes before what its x says
    × (said 3 (text "3 0 0\n") ≡ wrong (NoCell 1))
    × (said 3 (text "99999999999999999999 0 0\n") ≡ wrong (NoCell 1))
    × (said 3 (text "0 0 0\n3 262144 0\n") ≡ wrong (NoCell 2))
    -- a cell twice; it comes before what its x says
    × (said 3 (text "0 0 0\n1 -4 2\n# again\n1 -4 2\n") ≡ wrong (Twice 4 1))
    × (said 3 (text "0 0 0\n0 262144 0\n") ≡ wrong (Twice 2 0))
    -- out of bounds
    × (said 3 (text "0 262144 0\n") ≡ wrong (Far 1))
    × (said 3 (text "0 0 0\n1 0 -262144\n") ≡ wrong (Far 2))
    × (said 3 (text "0 0 99999999999999999999\n") ≡ wrong (Far 1))
    -- the lowest that is missing; an earlier fault goes first
    × (said 3 (text "2 0 2\n") ≡ wrong (Missing 0))
    × (said 3 (text "0 0 0\n2 0 2\n") ≡ wrong (Missing 1))
    × (said 3 (text "") ≡ wrong (Missing 0))
    × (said 3 (text "0 0 0\nx") ≡ wrong (NoNumber 2))
unfolding text corners placed in_range onto lines blank parted words first others is_digit natural_from natural with_sign begins_below integer begins passes numbered by_words line_said empty_sheet with_cell step lowest moved complete said_lines said
faults = (refl, refl, refl, refl, refl, refl, refl, refl, refl, refl, refl, refl, refl, refl, refl, refl, refl)

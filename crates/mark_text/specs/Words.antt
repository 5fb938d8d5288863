-- THE WORDS as text, and lines that compute. Assumes nothing.
use Rattle.std.specs.Prelude.{◌≡◌, refl, Ok, Err}
use Rattle.listing.specs.Printed.{digits, decimal, line, refused_line}
use Rattle.summary.specs.Summary.{named_line}
use Rattle.drawing_spec.specs.Quoted.{text}
use Rattle.drawing_spec.specs.declared.Fault.TheVariants.{NoNumber, NoCell, Twice, Far, Missing, Long}
use Rattle.drawing_spec.specs.declared.DrawError.TheVariants.{Refused}
use Rattle.mark_spec.specs.Marked.{full_of, wide_of, broken_of, refused_of}
use Rattle.mark_text.specs.Text.{full_part, wide_part, broken_part, line_part, numbers_part, no_cell_part, cell_part, twice_part, far_part, missing_cell_part, missing_part, long_part, drawings_part, broken_count_part, refused_part, unread_part, pair, triple, marked_line, fault_line, unread_line, outcome_line, more, mark_kind, outcome_kind, more_if, counted, first_counts, last_counts, counts_line}

pub words :
    (full_part ≡ text " full ")
    × (wide_part ≡ text " wide ")
    × (broken_part ≡ text " broken S")
    × (line_part ≡ text " line ")
    × (numbers_part ≡ text ": not three numbers\n")
    × (no_cell_part ≡ text ": no such cell\n")
    × (cell_part ≡ text ": cell ")
    × (twice_part ≡ text " is given twice\n")
    × (far_part ≡ text ": a number out of bounds\n")
    × (missing_cell_part ≡ text " cell ")
    × (missing_part ≡ text " is missing\n")
    × (long_part ≡ text " more than 65536 bytes\n")
    × (drawings_part ≡ text "drawings ")
    × (broken_count_part ≡ text " broken ")
    × (refused_part ≡ text " refused ")
    × (unread_part ≡ text " unread ")
unfolding text
words = (refl, refl, refl, refl, refl, refl, refl, refl, refl, refl, refl, refl, refl, refl, refl, refl)

pub marks :
    (marked_line (text "a") (Ok (full_of 25 10)) ≡ text "a full 25 10\n")
    × (marked_line (text "a") (Ok (wide_of 26 25 10)) ≡ text "a wide 26 25 10\n")
    × (marked_line (text "a") (Ok (broken_of 4 4 11)) ≡ text "a broken S4 4 11\n")
    × (marked_line (text "a") (Err (refused_of 15 3)) ≡ text "a refused 15 3\n")
    × (outcome_line (text "a") (Err (Refused (refused_of 15 3))) ≡ text "a refused 15 3\n")
unfolding text digits decimal line refused_line named_line pair triple marked_line outcome_line
marks = (refl, refl, refl, refl, refl)

pub faults :
    (unread_line (text "a") (NoNumber 7) ≡ text "a line 7: not three numbers\n")
    × (unread_line (text "a") (NoCell 7) ≡ text "a line 7: no such cell\n")
    × (unread_line (text "a") (Twice 7 4) ≡ text "a line 7: cell 4 is given twice\n")
    × (unread_line (text "a") (Far 7) ≡ text "a line 7: a number out of bounds\n")
    × (unread_line (text "a") (Missing 4) ≡ text "a cell 4 is missing\n")
    × (unread_line (text "a") Long ≡ text "a more than 65536 bytes\n")
unfolding text digits decimal fault_line unread_line
faults = (refl, refl, refl, refl, refl, refl)

pub sitting : counts_line (record { drawings = 200; full = 31; wide = 120; broken = 45; refused = 1; unread = 3 }) ≡ text "drawings 200 full 31 wide 120 broken 45 refused 1 unread 3\n"
unfolding text digits decimal first_counts last_counts counts_line
sitting = refl

-- a wide one is counted
pub counting : counted (record { drawings = 7; full = 1; wide = 2; broken = 3; refused = 0; unread = 1 }) (Ok (wide_of 26 25 10)) ≡ record { drawings = 8; full = 1; wide = 3; broken = 3; refused = 0; unread = 1 }
unfolding more mark_kind outcome_kind more_if counted
counting = refl

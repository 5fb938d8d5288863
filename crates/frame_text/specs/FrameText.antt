-- WHAT THE PROGRAM `frame` PRINTS (document 02, E2) of a plan file and a frame of so many squares, every byte of it: one line. Every definition computes. Assumes nothing.
use Rattle.std.specs.Prelude.{cond, List, [], ◌∷◌, ℕ, eqb, Option, Some, None, Result, Ok, Err}
use Rattle.whole.specs.Whole.{plus}
use Rattle.plan.specs.Limits.{most_cells, most_allowance, scratch_size}
use Rattle.plan.specs.Plan.{Table}
use Rattle.plan.specs.Columns.{table_of}
use Rattle.plan.specs.Questions.{refusal, frame, frame_given}
use Rattle.rules.specs.Placement.{width, rows}
use Rattle.contours.specs.Sheet.{sheet}
use Rattle.plan.specs.declared.Measures.{Measures}
use Rattle.plan.specs.declared.Refusal.{Refusal}
use Rattle.planfile_spec.specs.Reading.{reading_of}
use Rattle.listing.specs.Printed.{Bytes, line, decimal, refused_line}
use Rattle.fitting.specs.Fitted.{fitted_of}

-- the words `allowance`, `none`, `width` and `rows`
abbrev pub allowance_word : Bytes
allowance_word = 97 ∷ 108 ∷ 108 ∷ 111 ∷ 119 ∷ 97 ∷ 110 ∷ 99 ∷ 101 ∷ []

abbrev pub none_word : Bytes
none_word = 110 ∷ 111 ∷ 110 ∷ 101 ∷ []

abbrev pub width_word : Bytes
width_word = 119 ∷ 105 ∷ 100 ∷ 116 ∷ 104 ∷ []

abbrev pub rows_word : Bytes
rows_word = 114 ∷ 111 ∷ 119 ∷ 115 ∷ []

-- width and rows of a sheet, each behind its word
unfoldable pub sheet_fields : (width rows : ℕ) → List Bytes
sheet_fields w h = width_word ∷ decimal w ∷ rows_word ∷ decimal h ∷ []

-- `allowance A width W rows R`, and `none width W rows R`
unfoldable pub allowance_line : (allowance width rows : ℕ) → Bytes
allowance_line a w h = line (allowance_word ∷ decimal a ∷ sheet_fields w h)

unfoldable pub none_line : (width rows : ℕ) → Bytes
none_line w h = line (none_word ∷ sheet_fields w h)

-- width and rows of our sheet at an allowance
unfoldable pub measures_of : Table → (allowance : ℕ) → Measures
measures_of t al = record { width = plus (width t (sheet t al)); rows = plus (rows t (sheet t al)) }

-- the line of Frame's answer: the allowance with its sheet; none with the sheet at 65,535, than which none is narrower; or the refusal
unfoldable pub fitted_line : Table → Result (Option ℕ) Refusal → Bytes
fitted_line t (Ok (Some a)) = allowance_line a (measures_of t a).width (measures_of t a).rows
fitted_line t (Ok None) = none_line (measures_of t most_allowance).width (measures_of t most_allowance).rows
fitted_line t (Err r) = refused_line r.number r.cell

-- Frame's answer of a table, with a scratch that is long enough
unfoldable pub answer_line : Table → (squares : ℕ) → Bytes
answer_line t n = fitted_line t (fitted_of t n (refusal frame (frame_given t n scratch_size)))

-- THE TEXT: of a file that Read refuses its refusal, else the line of Frame's answer
unfoldable pub frame_text : (file : Bytes) (squares : ℕ) → Bytes
frame_text f n =
    let p = reading_of f most_cells in
    cond (eqb p.refusal.number 0) (answer_line (table_of p.columns) n) (refused_line p.refusal.number p.refusal.cell)

-- bytes of what stands behind the first fields, and of the whole, at most
abbrev pub sheet_size : ℕ
sheet_size = 54

abbrev pub frame_size : ℕ
frame_size = 128

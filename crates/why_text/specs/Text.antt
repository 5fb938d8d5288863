-- WHAT IS PRINTED OF A PLAN FILE: the reason for the width of its sheet, or the line of the refusal; every byte. Assumes nothing.
use Rattle.std.specs.Prelude.{◌≡◌, cond, List, [], ◌∷◌, ℕ, eqb, ℤ}
use Rattle.whole.specs.Whole.{plus}
use Rattle.plan.specs.Limits.{most_cells}
use Rattle.plan.specs.Plan.{Table}
use Rattle.plan.specs.Columns.{table_of}
use Rattle.plan.specs.Fit.{Fit}
use Rattle.plan.specs.Near.{Near}
use Rattle.plan.specs.declared.Columns.{Columns}
use Rattle.rules.specs.Placement.{placed, Agree, width}
use Rattle.contours.specs.Sheet.{sheet}
use Rattle.planfile_spec.specs.Reading.{reading_of}
use Rattle.listing.specs.Printed.{Bytes, refused_line, lines_joined}
use Rattle.printing.specs.Printing.{read_table}
use Rattle.why_spec.specs.Measures.{across}
use Rattle.why_spec.specs.Search.{reason}
use Rattle.why_search.specs.Explains.{told, Chained}
use Rattle.why_lines.specs.Printed.{reason_lines}

-- THE reason for the width of our sheet
unfoldable pub sheet_reason : Table → (allowance : ℕ) → List Bytes
sheet_reason t al = reason_lines t al (sheet t al) (reason t al (across t) (sheet t al))

-- the lines of a plan file
unfoldable pub why_lines : (file : Bytes) → List Bytes
why_lines f =
    let p = reading_of f most_cells in
    cond (eqb p.refusal.number 0)
    (sheet_reason (read_table p) p.allowance)
    (refused_line p.refusal.number p.refusal.cell ∷ [])

unfoldable pub why_text : (file : Bytes) → Bytes
why_text f = lines_joined (why_lines f)

-- bytes of an output that is long enough, whatever the file
abbrev pub reason_size : ℕ
reason_size = 32768

-- ---- what the functions ask of each other
-- a table whose sheet stands in the positions, with its width, and the cells and rules of THE reason
pub record Reasoned (t : Columns) (al w : ℕ) (ps : List ℤ) (count : ℕ) (cells rules : List ℕ) : Type 0 where
  pub fit : Fit (table_of t)
  pub near : Near ps t.count
  pub wide : w ≡ plus (width (table_of t) (sheet (table_of t) al))
  pub same : Agree (table_of t) (placed ps) (sheet (table_of t) al)
  pub is : reason (table_of t) al (across (table_of t)) (sheet (table_of t) al) ≡ told (table_of t) al (placed ps) count cells
  pub chained : Chained (table_of t) al (placed ps) count cells rules

-- WHAT REPORT ANSWERS (document 02, E14), and what it leaves in the buffers lent to it, on every input. Assumes nothing.
use Rattle.std.specs.Prelude.{◌≡◌, Result, Ok, Err, List, [], ◌∷◌, ◌++◌, ℕ, ℤ, length, drop, replicate}
use Rattle.whole.specs.Whole.{plus}
use Rattle.plan.specs.Limits.{scratch_size}
use Rattle.plan.specs.Plan.{Table}
use Rattle.plan.specs.Records.{cells_of}
use Rattle.plan.specs.Questions as calls
use Rattle.plan.specs.Questions.{Given, to_fill, scratch, long, nothing, none, refusal, answered}
use Rattle.plan.specs.declared.Record.{Record}
use Rattle.plan.specs.declared.Refusal.{Refusal}
use Rattle.rules.specs.Placement.{Placement, width, rows}
use Rattle.contours.specs.Sheet.{sheet}
use Rattle.positions.specs.Written.{written}
use Rattle.planfile_spec.specs.Read.{plan_of}
use Rattle.planfile_spec.specs.declared.PlanFile.{PlanFile}
use Rattle.planfile_spec.specs.Format.{trailer_of, entry, records_of, file_given}
use Rattle.planfile_spec.specs.Reading.{columns_of}
use Rattle.season.specs.Report.{Figure, report}
use Rattle.season.specs.declared.Report.{Report}
use Rattle.reporting.specs.declared.Draft.{Draft}

-- the table of a file, and "its sheet at its own allowance"
abbrev pub file_table : List ℕ → Table
file_table f = cells_of (records_of f)

abbrev pub own_sheet : List ℕ → Placement
own_sheet f = sheet (file_table f) (trailer_of f).allowance

-- its figures: cells, and width and rows of that sheet
unfoldable pub figure_of : List ℕ → Figure
figure_of f = record { cells = (trailer_of f).count; width = plus (width (file_table f) (own_sheet f)); rows = plus (rows (file_table f) (own_sheet f)) }

-- what the call is given: as Read, with a scratch and positions of so many numbers
unfoldable pub report_given : List ℕ → (room scratch positions : ℕ) → Given
report_given f room s p =
    let g = file_given f (to_fill room ∷ scratch s ∷ []) nothing in
    record { source = g.source; table = g.table; allowance = g.allowance; buffers = g.buffers; positions = long p; coordinates = g.coordinates; subject = g.subject }

abbrev pub report_refusal : List ℕ → (room scratch positions : ℕ) → Refusal
report_refusal f room s p = refusal calls.report (report_given f room s p)

-- document 02's values of the two answers: the report of this one plan; the refusal
unfoldable pub reported_of : List ℕ → Refusal → Result Report Refusal
reported_of f r = answered r (report (figure_of f ∷ []))

-- ---- "what it borrows ends as Read and Layout leave it"; of a refusal: as it was
-- records 0 to n - 1 are the file's, the rest as they were
unfoldable pub table_left : Result Report Refusal → List ℕ → List Record → List Record
table_left (Ok r) f t = records_of f ++ drop (trailer_of f).count t
table_left (Err e) f t = t

-- the first 16,384 numbers zero, later ones as they were
unfoldable pub scratch_left : Result Report Refusal → List ℕ → List ℕ
scratch_left (Ok r) s = replicate scratch_size 0 ++ drop scratch_size s
scratch_left (Err e) s = s

-- x then y of each cell of that sheet, nothing beyond
unfoldable pub positions_left : Result Report Refusal → List ℕ → List ℤ → List ℤ
positions_left (Ok r) f ps = written ps (own_sheet f) (trailer_of f).count
positions_left (Err e) f ps = ps

-- a call of Report: the answer, and the table, the scratch and the positions before and after it
pub record Reports (f : List ℕ) (t t' : List Record) (s s' : List ℕ) (ps ps' : List ℤ) (r : Result Report Refusal) : Type 0 where
  pub answers : r ≡ reported_of f (report_refusal f (length t) (length s) (length ps))
  pub table : t' ≡ table_left r f t
  pub scratch : s' ≡ scratch_left r s
  pub positions : ps' ≡ positions_left r f ps

-- ---- as the code has it, before the table is filled
-- the plan of a file that no question refuses, and the draft of its report
unfoldable pub file_plan : List ℕ → PlanFile
file_plan f = plan_of (columns_of none (trailer_of f).allowance (trailer_of f).count (entry f))

unfoldable pub draft_of : List ℕ → Draft
draft_of f = record { plan = file_plan f; report = report (figure_of f ∷ []) }

-- what the call answers, by the draft
unfoldable pub report_of : Result Draft Refusal → Result Report Refusal
report_of (Ok d) = Ok d.report
report_of (Err e) = Err e

pub record Drafts (f : List ℕ) (room : ℕ) (s s' : List ℕ) (ps ps' : List ℤ) (d : Result Draft Refusal) : Type 0 where
  pub answers : d ≡ answered (report_refusal f room (length s) (length ps)) (draft_of f)
  pub scratch : s' ≡ scratch_left (report_of d) s
  pub positions : ps' ≡ positions_left (report_of d) f ps

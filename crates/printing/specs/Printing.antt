-- THE LISTING OF A PLAN FILE (document 01, "Printed"). Assumes nothing.
use Rattle.std.specs.Prelude.{◌≡◌, cond, List, [], ◌∷◌, ◌++◌, map, ℕ, ◌*◌, ◌≤◌, eqb, ℤ, length, drop, Result, Ok, Err}
use Rattle.whole.specs.Whole.{plus}
use Rattle.plan.specs.Limits.{most_cells, listing_size}
use Rattle.plan.specs.Lists.{from}
use Rattle.plan.specs.Plan.{Table, box_width, box_depth}
use Rattle.plan.specs.Columns.{table_of}
use Rattle.plan.specs.Questions.{list, list_given, refusal, answered}
use Rattle.plan.specs.declared.Refusal.{Refusal}
use Rattle.rules.specs.Placement.{Placement, placed, Agree, width, rows}
use Rattle.contours.specs.Sheet.{sheet}
use Rattle.planfile_spec.specs.Read.{Reading}
use Rattle.planfile_spec.specs.Reading.{reading_of, label_part}
use Rattle.planfile.specs.Subslice.{bytes_in}
use Rattle.listing.specs.Printed.{Bytes, sheet_line, cell_line, refused_line, lines_joined}

-- the bytes of a cell's label
abbrev pub label_bytes : Bytes → (cell : ℕ) → Bytes
label_bytes f c = bytes_in f (label_part f c)

-- the table of a plan that is read, and our sheet for it
abbrev pub read_table : Reading → Table
read_table p = table_of p.columns

abbrev pub ours : Reading → Placement
ours p = sheet (read_table p) p.allowance

-- the first line
unfoldable pub first_line : Reading → Bytes
first_line p = sheet_line p.columns.count p.allowance (plus (width (read_table p) (ours p))) (plus (rows (read_table p) (ours p)))

-- a cell's line
unfoldable pub cell_of : Reading → (file : Bytes) → (cell : ℕ) → Bytes
cell_of p f c = cell_line c ((ours p).x c) ((ours p).y c) (box_width (read_table p) c) (box_depth (read_table p) c) (label_bytes f c)

-- all lines, in order
unfoldable pub listing_of : (file : Bytes) → List Bytes
listing_of f =
    let p = reading_of f most_cells in
    cond (eqb p.refusal.number 0)
    (first_line p ∷ map (cell_of p f) (from 0 p.columns.count))
    (refused_line p.refusal.number p.refusal.cell ∷ [])

-- THE LISTING, every byte of it
unfoldable pub text_of : (file : Bytes) → Bytes
text_of f = lines_joined (listing_of f)

-- ---- WHAT THE CALL ANSWERS, and what it leaves in the output lent to it, on every input
-- document 01's values of the two answers: the length of the listing; number and cell of the refusal, of an output that is too short
unfoldable pub listed_of : (file : Bytes) → Refusal → Result ℕ Refusal
listed_of f r = answered r (length (text_of f))

-- the lent output after it. Of a listing: the listing, the rest as it was. Of a refusal: as it was
unfoldable pub out_after : Result ℕ Refusal → (file out : Bytes) → Bytes
out_after (Ok n) f out = text_of f ++ drop n out
out_after (Err r) f out = out

-- bytes of the listing that a call gives
unfoldable pub size : Result ℕ Refusal → ℕ
size (Ok n) = n
size (Err r) = 0

-- a call: the answer, and the output before and after it. The length that question 1 asks for suffices
pub record Lists (f out out' : Bytes) (r : Result ℕ Refusal) : Type 0 where
  pub answers : r ≡ listed_of f (refusal list (list_given (length out)))
  pub bytes : out' ≡ out_after r f out
  pub suffices : size r ≤ listing_size

-- ---- what the functions ask of each other
-- the plan that Read gives of a file
pub record Taken (p : Reading) (f : Bytes) : Type 0 where
  pub is : p ≡ reading_of f most_cells
  pub passes : p.refusal.number ≡ 0

-- bytes of a cell's line, at most
abbrev pub cell_size : ℕ
cell_size = 65

-- the lines of the first n cells
unfoldable pub cells_text : Reading → (file : Bytes) → ℕ → Bytes
cells_text p f n = lines_joined (map (cell_of p f) (from 0 n))

-- positions that are our sheet for the plan
pub record Placed (p : Reading) (ps : List ℤ) : Type 0 where
  pub few : p.columns.count ≤ most_cells
  pub room : 2 * p.columns.count ≤ length ps
  pub agree : Agree (read_table p) (placed ps) (ours p)

-- its width and its rows
pub record Measured (p : Reading) (w h : ℕ) : Type 0 where
  pub small : p.columns.count ≤ most_cells
  pub wide : w ≡ plus (width (read_table p) (ours p))
  pub deep : h ≡ plus (rows (read_table p) (ours p))

-- THE THREE DEMANDS AT THE CALLS: statements only; each proof is one name. A reader needs the definitions of crate plan (sequence, puts, holds), of crate
-- rules (placement, S1 to S5, verdict), `sheet`, what each call answers (Reads, Lays, checked_of, ended_of, Labels, label_of and label_refusal, Lists, Frames, Marks with Narrowest, FullWith and WideBy, Copies, Mends, Strips, Joins, Drills with the moves of crate moves, Starts, Steps, Reaches with After, Reports with Answered and accepted) and Outcomes. Every call's
-- contract is one of those, so what is said of them is said of what the call answers and leaves in the lent buffers. Assumes nothing.
use Rattle.std.specs.Prelude.{◌≡◌, refl, List, [], ◌∷◌, ◌++◌, map, ◌↔◌, ◌⊎◌, ℕ, suc, ◌+◌, ◌*◌, ◌-◌, ◌/◌, ◌%◌, ◌^◌, ◌≤◌, ◌<◌, length, get_or, take, drop, replicate, ℤ, pos, ◌+ℤ◌, ◌-ℤ◌, ◌≤ℤ◌, ◌<ℤ◌, T, Option, Some, None, Result, Ok, Err, ⊤}
use Rattle.std.specs.Borrow.{Bor}
use Rattle.plan.specs.Limits.{most_cells, scratch_size, second_size, most_file, most_allowance, lines_size}
use Rattle.plan.specs.Plan.{Table, Is, parent, box_width, box_depth}
use Rattle.plan.specs.Records.{cells_of}
use Rattle.plan.specs.Questions.{Call, Given, layout, check, ends, list, frame, none, kept, sequence, refusal, layout_given, check_given, ends_given, list_given, frame_given, drill, drill_given}
use Rattle.plan.specs.declared.Record.{Record}
use Rattle.rules.specs.Placement.{Placement, placed, width}
use Rattle.rules.specs.Rules.{Keeps}
use Rattle.rules.specs.Verdict.{Breaks}
use Rattle.contours.specs.Sheet.{sheet}
use Rattle.plan.specs.Order as order
use Rattle.plan.proofs.Laws.Order as order-laws
use Rattle.least.specs.Refusals.{YesSteps}
use Rattle.least.proofs.Laws.FirstNo as first
use Rattle.least.specs.FirstNo.{FirstNo}
use Rattle.least.specs.Alike.{Alike, Twins}
use Rattle.least.specs.NoLess.{NoLess}
use Rattle.least.specs.Frame.{Least}
use Rattle.least.specs.Worked.{sheets}
use Rattle.planfile_spec.specs.Format.{trailer_of, entry, records_of}
use Rattle.planfile_spec.specs.Reading.{label_refusal}
use Rattle.planfile.proofs.Laws.Place as placing
use Rattle.layout.specs.Laid.{Lays}
use Rattle.layout.proofs.Laws.Promised as promised
use Rattle.fitting.specs.Fitted.{Frames, AtMost}
use Rattle.fitting.proofs.Laws.Promised as fitting
use Rattle.fitting.specs.Worked as frames
use Rattle.fitting.proofs.Laws.Worked as frames-laws
use Rattle.moves.specs.Drill.{Outcome, spent, drill_of}
use Rattle.moves.specs.Moves.{Stand, Reached, Stops, Ends, used_at}
use Rattle.following.specs.Drilled.{told_as, drill_told, Drills, Tells}
use Rattle.following.proofs.Laws.Promised as following
use Rattle.following.specs.declared.Drilled.{Drilled}
use Rattle.checker.specs.Checked.{checked_of}
use Rattle.ends.specs.Ended.{ended_of}
use Rattle.ends.specs.Nearest.{Nearest}
use Rattle.listing.specs.Printed.{refused_line}
use Rattle.printing.specs.Printing.{Lists}
use Rattle.mending.specs.Mended.{would_get}
use Rattle.mending.specs.Mending.{mend_refusal, Mends, MendGives}
use Rattle.mending.proofs.Laws.Answer as mends
use Rattle.mending.specs.declared.Mended.{Mended}
use Rattle.plan.specs.Questions.{strip, strip_given}
use Rattle.plan.specs.declared.Refusal.{Refusal}
use Rattle.plan.specs.declared.Measures.{Measures}
use Rattle.rules.specs.Placement.{rows}
use Rattle.corners.specs.Corners.{left}
use Rattle.raster.specs.Boundary.{OnSome}
use Rattle.raster.specs.Strip.{strip_of}
use Rattle.raster.specs.Worked as strips
use Rattle.raster.proofs.Laws.Worked as strips-laws
use Rattle.strips.specs.Stripped.{Strips}
use Rattle.strips.proofs.Laws.Promised as stripping
use Rattle.season.specs.Report.{most_plans, report, Plans}
use Rattle.season.specs.Pool.{sound, pool, refuses, folder}
use Rattle.season.proofs.Promised as season
use Rattle.season.specs.declared.Report.{Report}
use Rattle.reporting.specs.Reporting.{file_table, figure_of, report_refusal, Reports}
use Rattle.reporting.specs.Folder.{accepted, Answered}
use Rattle.reporting.proofs.Laws.Folder as folders
use Rattle.read_entry.specs.declared.ReadPlan.{ReadPlan}
use Rattle.read_entry.specs.Read.{read_refusal, Reads}
use Rattle.label_entry.specs.Label.{label_of, Labels}
use Rattle.demands.specs.Outcomes.{sheet_of, plan_of, kept_of, breach_of, refusing, Gives, PlacedTwin, Judged, Listing, printed_sheet, told}
use Rattle.content.specs.Content.{content, letters_of}
use Rattle.content.specs.Clean.{copy, copy_refusal}
use Rattle.copying.specs.Copied.{Copies}
use Rattle.demands.proofs.Laws.Between as between
use Rattle.demands.proofs.Laws.Check as checking
use Rattle.demands.proofs.Laws.Copy as copying
use Rattle.demands.proofs.Laws.Layout as laying
use Rattle.demands.proofs.Laws.List as listing
use Rattle.demands.proofs.Laws.Prints as printing
use Rattle.demands.proofs.Laws.ReadThen as then
use Rattle.demands.proofs.Laws.Demand as demand
use Rattle.demands.proofs.Laws.Report as reporting
use Rattle.demands.proofs.Laws.WorkedCalls as worked_calls
use Rattle.demands.specs.WorkedCalls.{called, due}
use Rattle.plan.specs.Plan.{within}
use Rattle.rules.specs.Placement.{left_extent, right_extent}
use Rattle.graft.specs.Joined.{joined, joined_records}
use Rattle.graft.specs.Sequence.{join_sequence, join_refusal}
use Rattle.graft.specs.FirstNo.{YesAll, JoinFirstNo}
use Rattle.graft.specs.Order as join-order
use Rattle.graft.proofs.Laws.Order as join-order-laws
use Rattle.graft.proofs.Theorems as grafts
use Rattle.graft.specs.Worked as joins
use Rattle.graft.proofs.Laws.Worked as joins-laws
use Rattle.grafting.specs.Joins.{Joins}
use Rattle.grafting.proofs.Laws.Joins as grafting
use Rattle.whole.specs.Whole.{plus}
use Rattle.plan.specs.Lists.{At, mem}
use Rattle.plan.specs.Plan.{children, cells, earlier}
use Rattle.plan.specs.Fit.{Fit}
use Rattle.positions.specs.Written.{written}
use Rattle.finishing_order.specs.Postorder.{postorder}
use Rattle.finishing_asks.specs.Asks.{start_no, step_no, reach_no}
use Rattle.finishing.specs.Finishing.{Starts}
use Rattle.finishing_reach.specs.Reaching.{Reaches}
use Rattle.finishing_step.specs.Stepping.{Holds, Unaltered, Steps}
use Rattle.finishing_reach.specs.declared.Sides.{Sides}
use Rattle.finishing.specs.After.{After, counted}
use Rattle.finishing.proofs.Laws.After as after
use Rattle.finishing_order.proofs.Laws.Promised as finishing
use Rattle.demands.proofs.Laws.Making as making
use Rattle.plan.specs.Questions.{mark, mark_given}
use Rattle.mark_spec.specs.Marked.{Marks}
use Rattle.mark_spec.specs.Promises.{Narrowest, FullWith, WideBy, IsFull, IsWide, IsBroken, IsRefused, OneOf}
use Rattle.mark_spec.proofs.Promised as marking
use Rattle.mark_spec.specs.Worked as marks
use Rattle.mark_spec.specs.declared.Marked.{Marked}
use Rattle.mark_spec.specs.Marked.{full_of, wide_of, broken_of}
use Rattle.demands.proofs.Laws.Mark as marking-laws

-- ==== DEMAND 1: A CALL REFUSES BY THE FIRST "NO"
-- The refusal is number k at cell c exactly where a question of that number, at that cell, is the first "no" of the sequence.
pub first_no : (call : Call) (g : Given) (k c : ℕ) → 1 ≤ k → (refusal call g ≡ record { number = k; cell = c }) ↔ FirstNo call g k c
first_no = first.first_no

-- There is none exactly where there is no "no".
pub no-no : (call : Call) (g : Given) → (refusal call g ≡ none) ↔ YesSteps g (kept call sequence)
no-no = first.no-no

-- The numbers that each call puts, in their order: a row a call, to be held against the papers. A call is refused by a number of its row only.
pub asks-in_order : order.Rows
asks-in_order = order-laws.rows

pub refused_in_row : (call : Call) (g : Given) → ¬ ((refusal call g).number ≡ 0) → T (mem (refusal call g).number (order.asks call g))
refused_in_row = order-laws.refused_in_row

-- Nothing lies between a result and a refusal: a refusal of number 0 is none, so that of every call either what it gives or what it refuses is said below, and never both.
pub number-none : (call : Call) (g : Given) → (refusal call g).number ≡ 0 → refusal call g ≡ none
number-none = between.number-none

pub none_or_refused : (call : Call) (g : Given) → (refusal call g ≡ none) ⊎ (¬ ((refusal call g).number ≡ 0))
none_or_refused = between.none_or_refused

-- The same of Label and Copy, whose refusals have names of their own (Join's is below: its sequence is its own).
pub label_none_or_refused : (f : List ℕ) (c : ℕ) → (label_refusal f c ≡ none) ⊎ (¬ ((label_refusal f c).number ≡ 0))
label_none_or_refused = between.label_none_or_refused

pub copy_none_or_refused : (rs : List Record) (letters : List ℕ) (al room : ℕ) → (copy_refusal rs letters al room ≡ none) ⊎ (¬ ((copy_refusal rs letters al room).number ≡ 0))
copy_none_or_refused = between.copy_none_or_refused

-- A refusal is answered by its number and cell, and leaves the lent buffers as they were.
pub read_refuses : (f : List ℕ) (t t' : List Record) (r : Result ReadPlan Refusal) → Reads f t t' r → ¬ ((read_refusal f (length t)).number ≡ 0)
    → (r ≡ Err (read_refusal f (length t))) × (t' ≡ t)
read_refuses = then.unchanged

pub layout_refuses : (t : Table) (al : ℕ) (s s' : List ℕ) (ps ps' : List ℤ) (r : Result Measures Refusal) → Lays t al s s' ps ps' r
    → ¬ ((refusal layout (layout_given t al (length s) (length ps))).number ≡ 0)
    → (r ≡ Err (refusal layout (layout_given t al (length s) (length ps)))) × (ps' ≡ ps) × (s' ≡ s)
layout_refuses = laying.unchanged

pub list_refuses : (f out out' : List ℕ) (r : Result ℕ Refusal) → Lists f out out' r → ¬ ((refusal list (list_given (length out))).number ≡ 0)
    → (r ≡ Err (refusal list (list_given (length out)))) × (out' ≡ out)
list_refuses = listing.unchanged

-- (Check and Ends are lent nothing to write; nor is Label, whose second call returns the refusal itself, by its contract: its first then gives no byte.)
pub check_refuses : (t : Table) (al : ℕ) (ps : List ℤ) → ¬ ((refusal check (check_given t al ps)).number ≡ 0)
    → checked_of t ps al ≡ Err (refusal check (check_given t al ps))
check_refuses = checking.check-refused

pub ends_refuses : (t : Table) (ps : List ℤ) (c : ℕ) → ¬ ((refusal ends (ends_given t ps c)).number ≡ 0)
    → ended_of t ps c ≡ Err (refusal ends (ends_given t ps c))
ends_refuses = checking.ends-refused

-- Label's part is then the empty one at byte 0: it begins where the file does, and has no byte.
pub label_refuses : (file : Bor (List ℕ)) (c : ℕ) (r : Bor (List ℕ)) → Labels file c r → ¬ ((label_refusal file.now c).number ≡ 0)
    → (r.ref_ptr ≡ file.ref_ptr) × (r.now ≡ [])
label_refuses = placing.label-refused

-- ==== WHERE NO QUESTION REFUSES
-- Read gives n and the allowance, and the file's records in the first n of the table, the rest as they were.
pub read-gives : (f : List ℕ) (t t' : List Record) (r : Result ReadPlan Refusal) → Reads f t t' r → read_refusal f (length t) ≡ none
    → (r ≡ plan_of (trailer_of f).count (trailer_of f).allowance) × (t' ≡ records_of f ++ drop (trailer_of f).count t)
read-gives = then.gives

-- List gives every byte of the listing; the length that question 1 asks for suffices, whatever the file.
pub list-gives : (f out out' : List ℕ) (r : Result ℕ Refusal) → Lists f out out' r → refusal list (list_given (length out)) ≡ none → Listing f out out' r
list-gives = listing.gives

-- Layout gives our sheet, its width and its rows.
pub layout-gives : (t : Table) (al : ℕ) (s s' : List ℕ) (ps ps' : List ℤ) (r : Result Measures Refusal) → Lays t al s s' ps ps' r
    → refusal layout (layout_given t al (length s) (length ps)) ≡ none → Gives t al s s' ps ps' r
layout-gives = laying.gives

-- Check answers "kept" exactly where the placement keeps S1 to S5, with its width and rows; "broken" exactly where that is the lowest rule and pair broken.
pub check_decides : (t : Table) (al : ℕ) (ps : List ℤ) → refusal check (check_given t al ps) ≡ none
    → ((w h : ℕ) → (checked_of t ps al ≡ kept_of w h) ↔ Judged t (placed ps) al w h) × ((r a b : ℕ) → (checked_of t ps al ≡ breach_of r a b) ↔ Breaks t (placed ps) al r a b)
check_decides t al ps z = (checking.kept_iff t al ps z, checking.broken_iff t al ps z)

-- So one of the two is answered, and never a refusal: some width and rows exactly where S1 to S5 are kept, some rule and pair exactly where they are not.
pub check-total : (t : Table) (al : ℕ) (ps : List ℤ) → refusal check (check_given t al ps) ≡ none
    → (((w : ℕ) × (h : ℕ) × (checked_of t ps al ≡ kept_of w h)) ↔ Keeps t (placed ps) al)
    × (((r : ℕ) × (a : ℕ) × (b : ℕ) × (checked_of t ps al ≡ breach_of r a b)) ↔ (¬ (Keeps t (placed ps) al)))
    × ((e : Refusal) → ¬ (checked_of t ps al ≡ Err e))
check-total t al ps z = (checking.keeps_iff t al ps z, checking.breaks_iff t al ps z, checking.no-refusal t al ps z)

-- Ends gives two points: on the parent's box below, and on the cell's above, each at the nearer whole number to half the width, a tie going to the even one (document 02, E3).
pub ends-gives : (t : Table) (ps : List ℤ) (c : ℕ) → refusal ends (ends_given t ps c) ≡ none
    → (h : ℕ) × (h' : ℕ) × Nearest (box_width t (parent t c)) h × Nearest (box_width t c) h'
    × (ended_of t ps c ≡ Ok (record { from_x = (placed ps).x (parent t c) +ℤ pos h; from_y = (placed ps).y (parent t c) +ℤ pos (box_depth t (parent t c)); to_x = (placed ps).x c +ℤ pos h'; to_y = (placed ps).y c }))
ends-gives = checking.ends_given_as

-- Label gives that part of the file's own bytes: in the file's memory from the start that the cell's record says, as many bytes as it says.
pub label-gives : (file : Bor (List ℕ)) (c : ℕ) (r : Bor (List ℕ)) → Labels file c r → label_refusal file.now c ≡ none
    → (r.ref_ptr ≡ (file.ref_ptr.0, file.ref_ptr.1 + (entry file.now c).label_start)) × (length r.now ≡ (entry file.now c).label_length)
    × (r.now ≡ take (entry file.now c).label_length (drop (entry file.now c).label_start file.now))
label-gives = placing.label_given

-- ---- one call after another
-- What Read gives, Label refuses for no cell of it; the label is the part of the file that the cell's record says.
pub read-then-label : (f : List ℕ) (t t' : List Record) (n al : ℕ) → Reads f t t' (plan_of n al) → (c : ℕ) → c < n → (d : Record)
    → (label_refusal f c ≡ none) × (label_of f c ≡ take (get_or t' c d).label_length (drop (get_or t' c d).label_start f))
read-then-label = then.then-label

-- What Read gives, Layout does not refuse, with long enough buffers.
pub read-then-layout : (f : List ℕ) (t t' : List Record) (n al : ℕ) → Reads f t t' (plan_of n al) → (s p : ℕ) → scratch_size ≤ s → 2 * n ≤ p
    → refusal layout (layout_given (cells_of (take n t')) al s p) ≡ none
read-then-layout = then.then-layout

-- What List prints of a file that Read accepts: the count and the allowance that Read gives, the width, the rows and the positions that Layout gives of the table read, each cell's width and depth of that table, and Label's bytes.
pub list_prints : (f : List ℕ) (t t' : List Record) (n al : ℕ) → Reads f t t' (plan_of n al) → (s s' : List ℕ) (ps ps' : List ℤ) (w h : ℕ) → Lays (cells_of (take n t')) al s s' ps ps' (sheet_of w h)
    → (out out' : List ℕ) (r : Result ℕ Refusal) → Lists f out out' r → refusal list (list_given (length out)) ≡ none
    → (r ≡ Ok (length (printed_sheet (cells_of (take n t')) n al w h (placed ps') (label_of f))))
    × (out' ≡ printed_sheet (cells_of (take n t')) n al w h (placed ps') (label_of f) ++ drop (length (printed_sheet (cells_of (take n t')) n al w h (placed ps') (label_of f))) out)
list_prints = printing.prints

-- Of a file that Read refuses, into a table of 256 records or more: one line, with Read's number and cell.
pub list_prints_refusal : (f : List ℕ) (t t' : List Record) (k c : ℕ) → Reads f t t' (refusing k c) → most_cells ≤ length t → (out out' : List ℕ) (r : Result ℕ Refusal) → Lists f out out' r → refusal list (list_given (length out)) ≡ none
    → (r ≡ Ok (length (refused_line k c))) × (out' ≡ refused_line k c ++ drop (length (refused_line k c)) out)
list_prints_refusal = printing.prints_refusal

-- ==== DEMANDS 2 AND 3, of what Layout writes
module _ (t : Table) (al : ℕ) (s s' : List ℕ) (ps ps' : List ℤ) (w h : ℕ) (l : Lays t al s s' ps ps' (sheet_of w h)) where
  -- it keeps S1 to S5,
  pub layout_keeps : Keeps t (placed ps') al
  layout_keeps = (promised.promised t al s s' ps ps' _ l).keeps

  -- of all placements that keep them none is anywhere less,
  pub layout-least : (p : Placement) → Keeps t p al → NoLess t (placed ps') p
  layout-least = (promised.promised t al s s' ps ps' _ l).least

  -- Check accepts it, with the same width and rows,
  pub layout-accepted : checked_of t ps' al ≡ kept_of w h
  layout-accepted = demand.layout-accepted t al s s' ps ps' w h l

  -- and no sheet that Check accepts is narrower or has other rows.
  pub none_narrower : (qs : List ℤ) (v k : ℕ) → checked_of t qs al ≡ kept_of v k → (w ≤ v) × (k ≡ h)
  none_narrower = demand.none_narrower t al s s' ps ps' w h l

-- Two Layouts under one allowance: subtrees of equal shape, kinds, widths and depths, of one table or of two, differ by a shift only (000's Bd5).
pub layout_alike : (t u : Table) (al : ℕ) (s s' v v' : List ℕ) (ps ps' qs qs' : List ℤ) (w h y k : ℕ) → Lays t al s s' ps ps' (sheet_of w h) → Lays u al v v' qs qs' (sheet_of y k)
    → (a b : ℕ) → Is t a → Is u b → Alike t u (a ∷ []) (b ∷ []) → (c d : ℕ) → Twins t u (a ∷ []) (b ∷ []) c d
    → ((placed ps').x c -ℤ (placed ps').x a ≡ (placed qs').x d -ℤ (placed qs').x b) × ((placed ps').y c -ℤ (placed ps').y a ≡ (placed qs').y d -ℤ (placed qs').y b)
layout_alike = laying.alike_written

-- No cell is left out: every cell of the one subtree has exactly one twin in the other, in the same place of its own subtree and as far from its top, both ways.
pub layout_alike_whole : (t u : Table) (al : ℕ) (s s' v v' : List ℕ) (ps ps' qs qs' : List ℤ) (w h y k : ℕ) → Lays t al s s' ps ps' (sheet_of w h) → Lays u al v v' qs qs' (sheet_of y k)
    → (a b : ℕ) → Is t a → Is u b → Alike t u (a ∷ []) (b ∷ [])
    → ((c : ℕ) → Is t c → T (within t a c) → PlacedTwin t u (placed ps') (placed qs') a b c) × ((d : ℕ) → Is u d → T (within u b d) → PlacedTwin u t (placed qs') (placed ps') b a d)
layout_alike_whole = laying.alike_whole_written

-- Two Layouts of one table: at the larger allowance the sheet is no wider and has the same rows, no subtree reaches further left or right in what was written, and no neighbouring siblings stand further apart (document 02, E2).
pub layout_wider : (t : Table) (al al' : ℕ) → al ≤ al' → (s s' v v' : List ℕ) (ps ps' qs qs' : List ℤ) (w h w' h' : ℕ)
    → Lays t al s s' ps ps' (sheet_of w h) → Lays t al' v v' qs qs' (sheet_of w' h') → (w' ≤ w) × (h' ≡ h) × NoLess t (placed qs') (placed ps')
layout_wider = laying.wider_written

-- ==== THE WORKED SHEETS ◆A to ◆J, five more, nine with choices (E6) and ten whose ranks decide the order of siblings (E13), lent to Check with its questions:
-- it answers what documents 01 and 02 have.
pub worked : map called sheets ≡ map due sheets
worked = worked_calls.worked_calls

-- ==== THE ALLOWANCE THAT FITS A FRAME of f squares (document 02, E2)
module _ (t : Table) (f : ℕ) (s s' : List ℕ) (r : Result (Option ℕ) Refusal) (g : Frames t f s s' r) where
  -- A refusal is answered by its number and cell, and leaves the scratch as it was.
  pub frame_refuses : ¬ ((refusal frame (frame_given t f (length s))).number ≡ 0)
      → (r ≡ Err (refusal frame (frame_given t f (length s)))) × (s' ≡ s)
  frame_refuses = fitting.unchanged t f s s' r g

  -- Where no question refuses:
  module _ (z : refusal frame (frame_given t f (length s)) ≡ none) where
    -- a is answered exactly where it is the least allowance from 0 to 65,535 whose sheet is no wider than the frame,
    pub frame-gives : (a : ℕ) → (r ≡ Ok (Some a)) ↔ Least t f a
    frame-gives = fitting.allowance_iff t f s s' r g z

    -- "none" exactly where the sheet at 65,535 is wider,
    pub frame-none : (r ≡ Ok None) ↔ (pos f <ℤ width t (sheet t most_allowance))
    frame-none = fitting.none_iff t f s s' r g z

    -- at most a where the sheet at a is no wider than the frame, as where the frame is its width,
    pub frame_bounds : (a : ℕ) → a ≤ most_allowance → width t (sheet t a) ≤ℤ pos f → AtMost r a
    frame_bounds = fitting.at_most t f s s' r g z

    -- and the scratch is left as Layout leaves it.
    pub frame_clears : s' ≡ replicate scratch_size 0 ++ drop scratch_size s
    frame_clears = fitting.clears t f s s' r g z

-- Of an answer alone: an allowance is the least.
pub frame-least : (t : Table) (f : ℕ) (s s' : List ℕ) (a : ℕ) → Frames t f s s' (Ok (Some a)) → Least t f a
frame-least = fitting.allowance_least

-- ◆E and ◆F in frames, the questions included.
pub frame-worked : frames.Rows
frame-worked = frames-laws.worked

-- ==== THE MARK OF A DRAWING: full marks exactly where nothing narrower was possible
module _ (t : Table) (ps : List ℤ) (al : ℕ) (s s' : List ℕ) (r : Result Marked Refusal) (g : Marks t ps al s s' r) where
  -- Exactly one of the four answers, on every input.
  pub mark-one : OneOf (IsFull r) (IsWide r) (IsBroken r) (IsRefused r)
  mark-one = marking.one_answer t ps al s s' r g

  -- A refusal is answered by its number and cell, and leaves the scratch as it was.
  pub mark_refuses : ¬ ((refusal mark (mark_given t ps al (length s))).number ≡ 0)
      → (r ≡ Err (refusal mark (mark_given t ps al (length s)))) × (s' ≡ s)
  mark_refuses = marking.mark_refuses t ps al s s' r g

  -- Where no question refuses:
  module _ (z : refusal mark (mark_given t ps al (length s)) ≡ none) where
    -- full marks exactly where the drawing keeps S1 to S5 and no placement that keeps them, whole numbers of any size, is narrower,
    pub full_marks : IsFull r ↔ Narrowest t (placed ps) al
    full_marks = marking.full_marks t ps al s s' r g z

    -- with its width and its rows,
    pub full_with : (w h : ℕ) → (r ≡ Ok (full_of w h)) ↔ FullWith t (placed ps) al w h
    full_with = marking.full_with t ps al s s' r g z

    -- "wide" exactly where it keeps them, is w wide, and l < w is the least width of all that keep them,
    pub wide_by : (w l h : ℕ) → (r ≡ Ok (wide_of w l h)) ↔ WideBy t (placed ps) al w l h
    wide_by = marking.wide_by t ps al s s' r g z

    -- "broken" exactly where that is the lowest rule and pair broken, as Check has it,
    pub mark-broken : (k a b : ℕ) → (r ≡ Ok (broken_of k a b)) ↔ Breaks t (placed ps) al k a b
    mark-broken = marking.broken-by t ps al s s' r g z

    -- and the scratch is left as Layout leaves it, with "broken" too.
    pub mark_clears : s' ≡ replicate scratch_size 0 ++ drop scratch_size s
    mark_clears = marking.mark_clears t ps al s s' r g z

-- So of every placement exactly one of four is so, and is answered: it is refused; or it is not, and is as narrow as the rules permit, or keeps them and is wider, or breaks one.
pub mark_exactly : (t : Table) (ps : List ℤ) (al : ℕ) (s : List ℕ) → OneOf ((refusal mark (mark_given t ps al (length s)) ≡ none) × Narrowest t (placed ps) al)
    ((refusal mark (mark_given t ps al (length s)) ≡ none) × (w : ℕ) × (l : ℕ) × (h : ℕ) × WideBy t (placed ps) al w l h)
    ((refusal mark (mark_given t ps al (length s)) ≡ none) × (k : ℕ) × (a : ℕ) × (b : ℕ) × Breaks t (placed ps) al k a b) (¬ ((refusal mark (mark_given t ps al (length s))).number ≡ 0))
mark_exactly = marking-laws.exactly

-- It refuses what Check refuses, where the scratch is long enough.
pub mark_as_check : (t : Table) (ps : List ℤ) (al s : ℕ) → scratch_size ≤ s → refusal mark (mark_given t ps al s) ≡ refusal check (check_given t al ps)
mark_as_check = marking-laws.as_check

-- What Layout writes gets full marks at the same allowance, with Layout's width and rows.
pub layout-full : (t : Table) (al : ℕ) (s s' : List ℕ) (ps ps' : List ℤ) (w h : ℕ) → Lays t al s s' ps ps' (sheet_of w h)
    → (v v' : List ℕ) (r : Result Marked Refusal) → Marks t ps' al v v' r → scratch_size ≤ length v → r ≡ Ok (full_of w h)
layout-full = marking-laws.layout-full

-- The worked sheets, marked: ours full, ◆G wide by 1, ◆H, ◆I and ◆J broken.
pub mark-worked : map marks.gives sheets ≡ marks.due
mark-worked = marking.worked

-- ==== THE CLEAN COPY of a table with its label bytes, at an allowance (document 02, E4)
-- A refusal is answered by its number and cell, and leaves the output as it was.
pub copy_refuses : (rs : List Record) (letters : List ℕ) (al : ℕ) (out out' : List ℕ) (r : Result ℕ Refusal) → Copies rs letters al out out' r → ¬ ((copy_refusal rs letters al (length out)).number ≡ 0)
    → (r ≡ Err (copy_refusal rs letters al (length out))) × (out' ≡ out)
copy_refuses = copying.unchanged

-- Else the length of the clean copy is answered; the output begins with it, and is as it was beyond.
pub copy_gives : (rs : List Record) (letters : List ℕ) (al : ℕ) (out out' : List ℕ) (r : Result ℕ Refusal) → Copies rs letters al out out' r → copy_refusal rs letters al (length out) ≡ none
    → (r ≡ Ok (length (copy rs letters al))) × (out' ≡ copy rs letters al ++ drop (length (copy rs letters al)) out)
copy_gives = copying.written

-- What Read gives, Copy does not refuse, with the file's label bytes and a long enough output.
pub read-then-copy : (f : List ℕ) (t t' : List Record) (n al : ℕ) → Reads f t t' (plan_of n al) → (room : ℕ) → most_file ≤ room → (copy_refusal (take n t') (letters_of f) al room).number ≡ 0
read-then-copy = copying.then-copy

-- What Copy writes, Read does not refuse, into a table of 256 records or more,
pub copy-then-read : (rs : List Record) (letters : List ℕ) (al : ℕ) (out out' : List ℕ) (k : ℕ) → Copies rs letters al out out' (Ok k) → (room : ℕ) → most_cells ≤ room
    → read_refusal (take k out') room ≡ none
copy-then-read = copying.then-accepted

-- and reads with the same fathers, kinds, widths, depths, ranks, label texts and allowance.
pub copy-then-content : (rs : List Record) (letters : List ℕ) (al : ℕ) (out out' : List ℕ) (k : ℕ) → Copies rs letters al out out' (Ok k)
    → (t t' : List Record) (n al' : ℕ) → Reads (take k out') t t' (plan_of n al') → content (take n t') (letters_of (take k out')) al' ≡ content rs letters al
copy-then-content = copying.then-content

-- Equal content gives equal files.
pub copy-same : (rs rs' : List Record) (letters letters' : List ℕ) (al al' : ℕ) (out out' o o' : List ℕ) (k m : ℕ) → Copies rs letters al out out' (Ok k) → Copies rs' letters' al' o o' (Ok m)
    → content rs letters al ≡ content rs' letters' al' → (k ≡ m) × (take k out' ≡ take m o')
copy-same = copying.same_copies

-- A clean copy, read and copied again, gives itself.
pub copy_again : (rs : List Record) (letters : List ℕ) (al : ℕ) (out out' : List ℕ) (k : ℕ) → Copies rs letters al out out' (Ok k) → (t t' : List Record) (n al' : ℕ) → Reads (take k out') t t' (plan_of n al')
    → (o o' : List ℕ) (m : ℕ) → Copies (take n t') (letters_of (take k out')) al' o o' (Ok m) → take m o' ≡ take k out'
copy_again = copying.again

-- ==== MENDING (document 02, E11). What is promised of the mended file itself is in crate mending, specs/Promised.antt.
module _ (f out out' lines lines' : List ℕ) (r : Result Mended Refusal) (m : Mends f out out' lines lines' r) where
  -- A refusal, the one that the mended file gets, is answered by its number and cell, and leaves both outputs as they were.
  pub mend_refuses : ¬ ((mend_refusal f (length out) (length lines)).number ≡ 0)
      → (r ≡ Err (mend_refusal f (length out) (length lines))) × (out' ≡ out) × (lines' ≡ lines)
  mend_refuses = mends.unchanged f out out' lines lines' r m

  -- Where no question refuses: the mended file, which Read accepts, and its lines, every byte.
  pub mend-gives : mend_refusal f (length out) (length lines) ≡ none → MendGives f out out' lines lines' r
  mend-gives = mends.gives f out out' lines lines' r m

  -- A file that Read accepts comes out byte for byte equal, with no lines.
  pub mend-same : would_get f ≡ none → most_file ≤ length out → lines_size ≤ length lines → (r ≡ Ok (record { file = length f; lines = 0 })) × (out' ≡ f ++ drop (length f) out) × (lines' ≡ lines)
  mend-same = mends.same f out out' lines lines' r m

-- ==== STRIPS FOR THE RASTER PRINTER (document 02, E8): a row of a drawn sheet, from a column on
module _ (t : Table) (ps : List ℤ) (row first : ℕ) (bs bs' : List ℕ) (r : Result ⊤ Refusal) (g : Strips t ps row first bs bs' r) where
  -- A refusal is answered, and leaves the bytes as they were.
  pub strip_refuses : ¬ ((refusal strip (strip_given t ps)).number ≡ 0) → (r ≡ Err (refusal strip (strip_given t ps))) × (bs' ≡ bs)
  strip_refuses = stripping.unchanged t ps row first bs bs' r g

  -- Where no question refuses:
  module _ (z : refusal strip (strip_given t ps) ≡ none) where
    -- nothing is answered, and every lent byte is the strip's;
    pub strip-gives : (r ≡ Ok tt) × (bs' ≡ strip_of t (placed ps) row first (length bs))
    strip-gives = stripping.gives t ps row first bs bs' r g z

    -- bit 7 − j of byte i is column first + 8i + j, counted from the least x: it is set exactly if that point is on the boundary of some box;
    pub strip_sets : (i j : ℕ) → i < length bs → j < 8
        → (get_or bs' i 0 / 2 ^ (7 - j) % 2 ≡ 1) ↔ OnSome t (placed ps) (left t (placed ps) +ℤ pos (first + (8 * i + j))) (pos row)
    strip_sets = stripping.sets t ps row first bs bs' r g z

    -- it is 0 right of the sheet, and below it.
    pub strip-beyond : (i j : ℕ) → i < length bs → j < 8 → width t (placed ps) <ℤ pos (first + (8 * i + j)) → get_or bs' i 0 / 2 ^ (7 - j) % 2 ≡ 0
    strip-beyond = stripping.beyond t ps row first bs bs' r g z

    pub strip-below : (i j : ℕ) → i < length bs → j < 8 → rows t (placed ps) ≤ℤ pos row → get_or bs' i 0 / 2 ^ (7 - j) % 2 ≡ 0
    strip-below = stripping.below t ps row first bs bs' r g z

-- A strip cut between any two of its bytes gives two strips that join into the whole, where the second's first column is one that a call can be given.
pub strip_joins : (t : Table) (ps : List ℤ) (row first : ℕ) (cs ds cs' ds' whole : List ℕ) (q r s : Result ⊤ Refusal)
    → Strips t ps row first cs cs' q → Strips t ps row (first + 8 * length cs) ds ds' r → Strips t ps row first (cs ++ ds) whole s → whole ≡ cs' ++ ds'
strip_joins = stripping.joins

-- Worked strips: an upright box, ◆B, boxes that overlap, one that begins above row 0; odd first columns, one near 2^32.
pub strip-worked : map strips.computed strips.rows ≡ map (λ (r : strips.Row). r.bytes) strips.rows
strip-worked = strips-laws.worked

-- ==== JOINING TWO PLANS (document 02, E10): u hung under cell c of t, into the table o
-- Its refusal is the first "no" of a sequence of its own, of three tables; there is none exactly where there is no "no".
pub join-first_no : (room : ℕ) (t u : Table) (c k a : ℕ) → 1 ≤ k → (join_refusal room t u c ≡ record { number = k; cell = a }) ↔ JoinFirstNo room t u c k a
join-first_no = grafts.join-first_no

pub join-no-no : (room : ℕ) (t u : Table) (c : ℕ) → (join_refusal room t u c ≡ none) ↔ YesAll room t u c join_sequence
join-no-no = grafts.join-no-no

-- Its numbers in their order, each with the table that it is put to.
pub join-asks-in_order : join-order.Rows
join-asks-in_order = join-order-laws.rows

-- As of the other calls, nothing lies between.
pub join-number-none : (room : ℕ) (t u : Table) (c : ℕ) → (join_refusal room t u c).number ≡ 0 → join_refusal room t u c ≡ none
join-number-none = between.join-number-none

pub join_none_or_refused : (room : ℕ) (t u : Table) (c : ℕ) → (join_refusal room t u c ≡ none) ⊎ (¬ ((join_refusal room t u c).number ≡ 0))
join_none_or_refused = between.join_none_or_refused

module _ (t u : List Record) (c : ℕ) (o o' : List Record) (r : Result ℕ Refusal) (g : Joins t u c o o' r) where
  -- A refusal is answered by its number and cell, and leaves the table as it was.
  pub join_refuses : ¬ ((join_refusal (length o) (cells_of t) (cells_of u) c).number ≡ 0)
      → (r ≡ Err (join_refusal (length o) (cells_of t) (cells_of u) c)) × (o' ≡ o)
  join_refuses = grafting.unchanged t u c o o' r g

  -- Where no question refuses: how many records, the joined ones, and the records beyond as they were.
  pub join-gives : (join_refusal (length o) (cells_of t) (cells_of u) c).number ≡ 0 → (r ≡ Ok (length t + length u)) × (o' ≡ joined_records t u c ++ drop (length t + length u) o)
  join-gives = grafting.gives t u c o o' r g

-- Of an answer alone, n records:
module _ (t u : List Record) (c : ℕ) (o o' : List Record) (n : ℕ) (g : Joins t u c o o' (Ok n)) where
  -- what Layout and Check see in them is THE joined table,
  pub join-holds : cells_of (take n o') ≡ joined (cells_of t) (cells_of u) c
  join-holds = grafting.holds-joined t u c o o' n g

  -- Layout refuses nothing of it, nor of the second plan alone,
  pub join-then-layout : (al s p : ℕ) → al ≤ most_allowance → scratch_size ≤ s → 2 * n ≤ p → refusal layout (layout_given (cells_of (take n o')) al s p) ≡ none
  join-then-layout = grafting.joined_has_sheet t u c o o' n g

  pub join-second-layout : (al s p : ℕ) → al ≤ most_allowance → scratch_size ≤ s → 2 * length u ≤ p → refusal layout (layout_given (cells_of u) al s p) ≡ none
  join-second-layout = grafting.second_has_sheet t u c o o' n g

  -- every subtree of the second plan extends as in its own sheet,
  pub join_second_reaches : (al b : ℕ) → Is (cells_of u) b
      → (left_extent (cells_of (take n o')) (sheet (cells_of (take n o')) al) (length t + b) ≡ left_extent (cells_of u) (sheet (cells_of u) al) b)
      × (right_extent (cells_of (take n o')) (sheet (cells_of (take n o')) al) (length t + b) ≡ right_extent (cells_of u) (sheet (cells_of u) al) b)
  join_second_reaches = grafting.second_extends t u c o o' n g

  -- and so does every subtree of the first that does not hold the named cell.
  pub join_first_reaches : (al a : ℕ) → Is (cells_of t) a → ¬ T (within (cells_of t) a c)
      → (left_extent (cells_of (take n o')) (sheet (cells_of (take n o')) al) a ≡ left_extent (cells_of t) (sheet (cells_of t) al) a)
      × (right_extent (cells_of (take n o')) (sheet (cells_of (take n o')) al) a ≡ right_extent (cells_of t) (sheet (cells_of t) al) a)
  join_first_reaches = grafting.first_extends t u c o o' n g

-- Joins by hand, the questions included.
pub join-worked : joins.Rows
join-worked = joins-laws.worked

-- ==== THE DRILL with the answer bytes bs and the list xs (document 02, E12)
module _ (t : Table) (bs xs xs' : List ℕ) (r : Result Drilled Refusal) (g : Drills t bs xs xs' r) where
  -- A refusal is answered by its number and cell, and leaves the list as it was.
  pub drill_refuses : ¬ ((refusal drill (drill_given t (length bs) (length xs))).number ≡ 0)
      → (r ≡ Err (refusal drill (drill_given t (length bs) (length xs)))) × (xs' ≡ xs)
  drill_refuses = following.unchanged t bs xs xs' r g

  -- Where no question refuses:
  module _ (z : refusal drill (drill_given t (length bs) (length xs)) ≡ none) where
    -- the answer is that of the drill, and the list has its recorded steps first and is unchanged beyond;
    pub drill-gives : (r ≡ Ok (drill_told (drill_of t bs))) × (xs' ≡ (drill_of t bs).steps ++ drop (length (drill_of t bs).steps) xs)
    drill-gives = following.gives t bs xs xs' r g z

    -- an outcome is answered exactly when the moves, each the one that the description dictates, reach a stand where the drill stops with it;
    pub drill_exactly : (o : Outcome) → Tells o r ↔ Ends t bs o
    drill_exactly = following.exactly t bs xs xs' r g z

    -- the bytes used, a wrong one included, the number of records and the recorded steps are those of that stand.
    pub drill-stops : (o : Outcome) (p : Stand) → Reached t bs p → Stops t bs o p
        → (r ≡ Ok (told_as o (used_at o p.used) (length p.steps))) × (xs' ≡ p.steps ++ drop (length p.steps) xs)
    drill-stops = following.stops_there t bs xs xs' r g z

-- More answer bytes after the last one used change nothing: two calls whose answers agree in the bytes that the first one used, which was not spent, answer alike and leave alike lists.
pub drill-beyond : (t : Table) (bs cs xs xs' ys : List ℕ) (r q : Result Drilled Refusal) → Drills t bs xs xs' r → Drills t cs xs ys q
    → refusal drill (drill_given t (length bs) (length xs)) ≡ none → refusal drill (drill_given t (length cs) (length xs)) ≡ none
    → ¬ Tells spent r → take (drill_of t bs).used cs ≡ take (drill_of t bs).used bs → (q ≡ r) × (ys ≡ xs')
drill-beyond = following.beyond_used

-- ==== A SHEET THAT IS BEING MADE (document 02, E9)
-- A start that is refused leaves both scratches as they were; one that is not clears their first 16,384 and 1,024 numbers, and no step is made yet.
pub start_refuses : (t : Table) (al : ℕ) (xs xs' ms ms' : List ℕ) (r : Result ⊤ Refusal) → Starts t al xs xs' ms ms' r → ¬ ((start_no t al (length xs) (length ms)).number ≡ 0)
    → (r ≡ Err (start_no t al (length xs) (length ms))) × (xs' ≡ xs) × (ms' ≡ ms)
start_refuses = making.start_unchanged

pub start_clears : (t : Table) (al : ℕ) (xs xs' ms ms' : List ℕ) (r : Result ⊤ Refusal) → Starts t al xs xs' ms ms' r → (start_no t al (length xs) (length ms)).number ≡ 0
    → (r ≡ Ok tt) × (xs' ≡ replicate scratch_size 0 ++ drop scratch_size xs) × (ms' ≡ replicate second_size 0 ++ drop second_size ms)
start_clears = making.start_clears

pub start-begins : (t : Table) (al : ℕ) (xs xs' ms ms' : List ℕ) → Starts t al xs xs' ms ms' (Ok tt) → After t al 0 xs' ms'
start-begins t al xs xs' ms ms' = After.began

-- A step that is refused alters nothing, whatever the scratches hold; nor does one that says "done".
pub step_refuses : (t : Table) (al : ℕ) (xs xs' ms ms' : List ℕ) (ps ps' : List ℤ) (r : Result (Option ℕ) Refusal) → Steps t al xs xs' ms ms' ps ps' r → ¬ ((step_no t al (length xs) (length ms) (length ps)).number ≡ 0)
    → (r ≡ Err (step_no t al (length xs) (length ms) (length ps))) × Unaltered xs xs' ms ms' ps ps'
step_refuses t al xs xs' ms ms' ps ps' r g = g.refuses

pub done_idle : (t : Table) (al : ℕ) (xs xs' ms ms' : List ℕ) (ps ps' : List ℤ) → Steps t al xs xs' ms ms' ps ps' (Ok None) → Unaltered xs xs' ms ms' ps ps'
done_idle t al xs xs' ms ms' ps ps' g = g.idle refl

-- Of a table that neither Start nor Step refuses, on any scratches and positions: every number of steps can be made, up to the last.
pub after_exists : (t : Table) (al : ℕ) (xs ms : List ℕ) (ps : List ℤ) → (start_no t al (length xs) (length ms)).number ≡ 0 → (step_no t al (length xs) (length ms) (length ps)).number ≡ 0
    → (k : ℕ) → k ≤ length t → (xs' : List ℕ) × (ms' : List ℕ) × After t al k xs' ms'
after_exists = making.after_exists

-- Of any calls after a start, whatever positions each step is lent and whichever refused or idle steps come between: after k steps that answered a cell,
module _ (t : Table) (al k : ℕ) (xs ms : List ℕ) (a : After t al k xs ms) where
  -- the scratches hold what k steps make, whichever calls these were, and k is at most the number of cells;
  pub after_holds : Holds t al k xs ms
  after_holds = after.after_holds t al a

  -- the cells that were answered are the first k of the order of finishing:
  pub after-told : told a ≡ take k (postorder t)
  after-told = making.after-told t al a

  -- each cell once, children before their parent, and each sibling's whole subtree before the next's;
  pub after-once : (i j : ℕ) → i < k → j < k → get_or (told a) i 0 ≡ get_or (told a) j 0 → i ≡ j
  after-once = making.told-once t al k xs ms a

  pub after-children : (i j p : ℕ) → i < k → j < k → At (children t (get_or (told a) i 0)) p (get_or (told a) j 0) → j < i
  after-children = making.told-children t al k xs ms a

  pub after_siblings : (i j : ℕ) → i < k → j < k → T (earlier t (get_or (told a) i 0) (get_or (told a) j 0)) → i < j
  after_siblings = making.told_siblings t al k xs ms a

  -- so that n steps finish n cells, which is every cell;
  pub after_finish : k ≡ length t → (x : ℕ) → Is t x → (i : ℕ) × (i < k) × (get_or (told a) i 0 ≡ x)
  after_finish = making.told-all t al k xs ms a

  -- a step that answers a cell answers number k of that order,
  pub after-cell : (xs' ms' : List ℕ) (ps ps' : List ℤ) (x : ℕ) → Steps t al xs xs' ms ms' ps ps' (Ok (Some x)) → (k < length t) × (x ≡ get_or (postorder t) k 0)
  after-cell xs' ms' ps ps' x = making.after-cell t al k xs xs' ms ms' ps ps' x a

  -- there is such a step for any positions, refused or not, and whatever it answers, it is one more that answered a cell, or as many;
  pub after-step : (ps : List ℤ) → (xs' : List ℕ) × (ms' : List ℕ) × (ps' : List ℤ) × (r : Result (Option ℕ) Refusal) × Steps t al xs xs' ms ms' ps ps' r
  after-step = after.step_exists t al k xs ms a

  pub after_any : (xs' ms' : List ℕ) (ps ps' : List ℤ) (r : Result (Option ℕ) Refusal) → Steps t al xs xs' ms ms' ps ps' r → After t al (counted r k) xs' ms'
  after_any xs' ms' ps ps' r = after.after_any t al k xs xs' ms ms' ps ps' r a

  -- and of the next step, where no question refuses it:
  module _ (xs' ms' : List ℕ) (ps ps' : List ℤ) (r : Result (Option ℕ) Refusal) (g : Steps t al xs xs' ms ms' ps ps' r) (z : (step_no t al (length xs) (length ms) (length ps)).number ≡ 0) where
    -- it answers cell number k of the order of finishing, and is one more;
    pub after_answers : k < length t → r ≡ Ok (Some (get_or (postorder t) k 0))
    after_answers = after.next_answers t al k xs xs' ms ms' ps ps' r a g z

    pub after-goes_on : k < length t → After t al (suc k) xs' ms'
    after-goes_on = after.next-goes_on t al k xs xs' ms ms' ps ps' r a g z

    -- after the last it says "done" and alters nothing, and so does every further one;
    pub after-done : k ≡ length t → (r ≡ Ok None) × Unaltered xs xs' ms ms' ps ps' × After t al k xs' ms'
    after-done = making.all_done t al k xs xs' ms ms' ps ps' r a g z

    -- the last that finishes a cell writes the positions of the complete sheet, as Layout does, into those it is lent; no other writes any.
    pub after_writes : suc k ≡ length t → ps' ≡ written ps (sheet t al) (length t)
    after_writes = after.next_writes t al k xs xs' ms ms' ps ps' r a g z

    pub after_waits : ¬ (suc k ≡ length t) → ps' ≡ ps
    after_waits = after.next_waits t al k xs xs' ms ms' ps ps' r a g z

-- The order of finishing itself, of a table that keeps the questions.
module _ (t : Table) (fit : Fit t) where
  pub finished-once : (i j : ℕ) → i < length t → j < length t → get_or (postorder t) i 0 ≡ get_or (postorder t) j 0 → i ≡ j
  finished-once = finishing.finished-once t fit

  pub children-first : (i j p : ℕ) → i < length t → j < length t → At (children t (get_or (postorder t) i 0)) p (get_or (postorder t) j 0) → j < i
  children-first = finishing.children-first t fit

  pub siblings_first : (i j : ℕ) → i < length t → j < length t → T (earlier t (get_or (postorder t) i 0) (get_or (postorder t) j 0)) → i < j
  siblings_first = finishing.siblings_first t fit

-- A reading that another question than 20 refuses is answered by that number and cell, whatever the scratches hold.
pub reach_refuses : (t : Table) (al : ℕ) (xs ms : List ℕ) (c : ℕ) (r : Result Sides Refusal) → Reaches t al xs ms c r → ¬ ((reach_no t al (length xs) (length ms) (cells t) c).number ≡ 0)
    → r ≡ Err (reach_no t al (length xs) (length ms) (cells t) c)
reach_refuses t al xs ms c r g = g.refuses

-- A reading that no question but 20 refuses is refused, if at all, by 20 with the cell, whatever the scratches hold.
pub reach_only_20 : (t : Table) (al : ℕ) (xs ms : List ℕ) (c : ℕ) (r : Result Sides Refusal) → Reaches t al xs ms c r → (reach_no t al (length xs) (length ms) (cells t) c).number ≡ 0
    → (e : Refusal) → r ≡ Err e → (e.number ≡ 20) × (e.cell ≡ c)
reach_only_20 t al xs ms c r g = g.says

-- A reading of the cell c, where no question but 20 refuses, after k steps: the reach of the complete sheet if the cell is among those answered so far, and else 20 with the cell.
module _ (t : Table) (al : ℕ) (xs ms : List ℕ) (c : ℕ) (r : Result Sides Refusal) (g : Reaches t al xs ms c r) (z : (reach_no t al (length xs) (length ms) (cells t) c).number ≡ 0) (k : ℕ) (a : After t al k xs ms) where
  pub reach-final : T (mem c (told a)) → r ≡ Ok (record { left = plus (left_extent t (sheet t al) c); right = plus (right_extent t (sheet t al) c) })
  reach-final = making.reach-final t al xs ms c r g z k a

  pub reach_waits : ¬ (T (mem c (told a))) → r ≡ Err (record { number = 20; cell = c })
  reach_waits = making.reach_waits t al xs ms c r g z k a

-- ==== THE SEASON'S FOLDER (document 02, E14)
module _ (f : List ℕ) (t t' : List Record) (s s' : List ℕ) (ps ps' : List ℤ) (r : Result Report Refusal) (g : Reports f t t' s s' ps ps' r) where
  -- A refusal is answered, and leaves the table, the scratch and the positions as they were.
  pub report_refuses : ¬ ((report_refusal f (length t) (length s) (length ps)).number ≡ 0)
      → (r ≡ Err (report_refusal f (length t) (length s) (length ps))) × (t' ≡ t) × (s' ≡ s) × (ps' ≡ ps)
  report_refuses = reporting.unchanged f t t' s s' ps ps' r g

  -- Where no question refuses:
  module _ (z : report_refusal f (length t) (length s) (length ps) ≡ none) where
    -- the report of this one plan, whose width and rows are those of its sheet at its own allowance,
    pub report-gives : r ≡ Ok (report (figure_of f ∷ []))
    report-gives = reporting.figures f t t' s s' ps ps' r g z

    -- the table as Read leaves it,
    pub report_reads : Reads f t t' (Ok (record { count = (trailer_of f).count; allowance = (trailer_of f).allowance }))
    report_reads = reporting.reads f t t' s s' ps ps' r g z

    -- and the scratch and the positions as Layout leaves them, with that width and those rows.
    pub report_lays : Lays (file_table f) (trailer_of f).allowance s s' ps ps' (Ok (record { width = (figure_of f).width; rows = (figure_of f).rows }))
    report_lays = reporting.lays f t t' s s' ps ps' r g z

    -- 22 does not refuse that report.
    pub report-passes : T (sound (report (figure_of f ∷ [])))
    report-passes = reporting.passes_22 f t t' s s' ps ps' r g z

-- With long enough buffers a file gets Read's refusal: 512 positions always suffice,
pub report_as_read : (f : List ℕ) (room s p : ℕ) → most_cells ≤ room → scratch_size ≤ s → 2 * most_cells ≤ p → report_refusal f room s p ≡ read_refusal f room
report_as_read = folders.as_read_always

-- and so do twice as many as the file's own count, where that is fewer.
pub report_as_read_fewer : (f : List ℕ) (room s p : ℕ) → most_cells ≤ room → scratch_size ≤ s → 2 * (trailer_of f).count ≤ p → report_refusal f room s p ≡ read_refusal f room
report_as_read_fewer = folders.as_read

-- A plan that Report does not refuse is within the limits per plan, so that 22 refuses neither its report nor, up to 1,024 plans, a pool of such (`pool_joins`, `report-sound`, in season's Promised).
pub report_real : (f : List ℕ) (room s p : ℕ) → report_refusal f room s p ≡ none → Plans (figure_of f ∷ [])
report_real = folders.real

-- Whichever of two reports comes first, the pool is the same.
pub pool_turned : (a b : Report) → pool a b ≡ pool b a
pool_turned = season.pool_turned

-- Each file of a folder given to Report, with long enough buffers: the answers, pooled one after another from the report of no plan on, are the report of the files that Read accepts, up to 1,024 of them; a refused file adds nothing.
pub folder_pools : (fs : List (List ℕ)) (rs : List (Result Report Refusal)) → Answered fs rs → length (accepted fs) ≤ most_plans → folder rs ≡ Ok (report (map figure_of (accepted fs)))
folder_pools = folders.folder_pools

-- Of more the answer is 4.
pub folder_too_many : (fs : List (List ℕ)) (rs : List (Result Report Refusal)) → Answered fs rs → most_plans < length (accepted fs) → folder rs ≡ refuses 4
folder_too_many = folders.folder_too_many

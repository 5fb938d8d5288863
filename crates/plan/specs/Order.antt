-- THE QUESTIONS OF EACH CALL, IN THEIR ORDER: one row a call, its numbers one after another, to be held against the papers (document 01, "Calls and their questions"; document
-- 02, request by request). Question 1 stands first, where there are buffers to ask of, and right after 4, where there are positions. Each row is computed from `sequence` and
-- `puts`, and from what the call is given. Join has its row in crate graft. Assumes nothing.
use Rattle.std.specs.Prelude.{◌≡◌, List, [], ◌∷◌, ◌++◌, Bool, true, false, cond, ℕ, ℤ}
use Rattle.plan.specs.Plan.{Table}
use Rattle.plan.specs.declared.Page.{Page}
use Rattle.plan.specs.Questions.{Buffer, to_fill, scratch, copy_output, lines_output, Lent, absent, long, Label, Given, Question, buffers_long, file_sized, file_marked, cells_counted, positions_long, letters_printable, parent_lower, kind_known, box_sized, label_inside, label_fits, children_allowed, level_low, rows_few, frame_wide, allowance_small, coordinates_near, cell_named, page_fair, stroke_numbered, answers_few, cell_finished, number, Step, once, each, sequence, Call, read, label, layout, check, ends, list, frame, copy, mend, stroke, strip, drill, start, step, reach, report, mark, kept, layout_given, check_given, ends_given, list_given, frame_given, copy_given, stroke_given, strip_given, drill_given, start_given, step_given, reach_given, mark_given}

-- whether there is a buffer, and whether there are positions, to put question 1 to
unfoldable pub some_buffer : List Buffer → Bool
some_buffer [] = false
some_buffer (b ∷ bs) = true

unfoldable pub has_positions : Lent → Bool
has_positions absent = false
has_positions (long m) = true

-- a question 1 of nothing is answered yes; every other concerns what is given
unfoldable pub concerns : Given → Question → Bool
concerns g buffers_long = some_buffer g.buffers
concerns g file_sized = true
concerns g file_marked = true
concerns g cells_counted = true
concerns g positions_long = has_positions g.positions
concerns g letters_printable = true
concerns g parent_lower = true
concerns g kind_known = true
concerns g box_sized = true
concerns g label_inside = true
concerns g label_fits = true
concerns g children_allowed = true
concerns g level_low = true
concerns g rows_few = true
concerns g frame_wide = true
concerns g allowance_small = true
concerns g coordinates_near = true
concerns g cell_named = true
concerns g page_fair = true
concerns g stroke_numbered = true
concerns g answers_few = true
concerns g cell_finished = true

-- its number; none of a question 1 of nothing
unfoldable pub number_in : Given → Question → List ℕ
number_in g q = cond (concerns g q) (number q ∷ []) []

unfoldable pub numbers : Given → List Question → List ℕ
numbers g [] = []
numbers g (q ∷ qs) = number_in g q ++ numbers g qs

unfoldable pub in_order : Given → List Step → List ℕ
in_order g [] = []
in_order g (once q ∷ ss) = number_in g q ++ in_order g ss
in_order g (each qs ∷ ss) = numbers g qs ++ in_order g ss

-- THE numbers of a call, in the order in which they are put
unfoldable pub asks : Call → Given → List ℕ
asks call g = in_order g (kept call sequence)

-- the numbers that are put to each cell, those of a group to one cell before the next
unfoldable pub cell_by_cell : Given → List Step → List (List ℕ)
cell_by_cell g [] = []
cell_by_cell g (once q ∷ ss) = cell_by_cell g ss
cell_by_cell g (each qs ∷ ss) = numbers g qs ∷ cell_by_cell g ss

-- ---- THE ROWS
pub record Rows : Type 0 where
  -- document 01: "Read puts 1 to 14; Label 2 to 14 and 16; Layout 1, 4, 6 to 8 and 11 to 14; Check these and 15; Ends 1, 4, 6 to 8, 11 to 13, 15 and 16"
  pub of_read : (g : Given) (m : ℕ) → g.buffers ≡ to_fill m ∷ [] → g.positions ≡ absent → asks read g ≡ 1 ∷ 2 ∷ 3 ∷ 4 ∷ 5 ∷ 6 ∷ 7 ∷ 8 ∷ 9 ∷ 10 ∷ 11 ∷ 12 ∷ 13 ∷ 14 ∷ []
  pub of_label : (g : Given) → asks label g ≡ 2 ∷ 3 ∷ 4 ∷ 5 ∷ 6 ∷ 7 ∷ 8 ∷ 9 ∷ 10 ∷ 11 ∷ 12 ∷ 13 ∷ 14 ∷ 16 ∷ []
  pub of_layout : (t : Table) (al s p : ℕ) → asks layout (layout_given t al s p) ≡ 1 ∷ 4 ∷ 1 ∷ 6 ∷ 7 ∷ 8 ∷ 11 ∷ 12 ∷ 13 ∷ 14 ∷ []
  pub of_check : (t : Table) (al : ℕ) (ps : List ℤ) → asks check (check_given t al ps) ≡ 4 ∷ 1 ∷ 6 ∷ 7 ∷ 8 ∷ 11 ∷ 12 ∷ 13 ∷ 14 ∷ 15 ∷ []
  pub of_ends : (t : Table) (ps : List ℤ) (c : ℕ) → asks ends (ends_given t ps c) ≡ 4 ∷ 1 ∷ 6 ∷ 7 ∷ 8 ∷ 11 ∷ 12 ∷ 13 ∷ 15 ∷ 16 ∷ []
  -- the listing prints what is wrong with its file
  pub of_list : (o : ℕ) → asks list (list_given o) ≡ 1 ∷ []
  -- document 02, E2: "19 when the frame is 0, tested after 13"
  pub of_frame : (t : Table) (f s : ℕ) → asks frame (frame_given t f s) ≡ 1 ∷ 4 ∷ 6 ∷ 7 ∷ 8 ∷ 11 ∷ 12 ∷ 13 ∷ 19 ∷ []
  -- E4: "It puts questions 1 (an output of 16,384 bytes) and 4 to 14"
  pub of_copy : (t : Table) (ls : List Label) (letters : List ℕ) (al o : ℕ) → asks copy (copy_given t ls letters al o) ≡ 1 ∷ 4 ∷ 5 ∷ 6 ∷ 7 ∷ 8 ∷ 9 ∷ 10 ∷ 11 ∷ 12 ∷ 13 ∷ 14 ∷ []
  -- E11: "the refusal it would get", and question 1 of its two outputs
  pub of_mend : (g : Given) (o l : ℕ) → g.buffers ≡ copy_output o ∷ lines_output l ∷ [] → g.positions ≡ absent → asks mend g ≡ 1 ∷ 2 ∷ 3 ∷ 4 ∷ 5 ∷ 6 ∷ 7 ∷ 8 ∷ 9 ∷ 10 ∷ 11 ∷ 12 ∷ 13 ∷ 14 ∷ []
  -- E1: "17 [..] tested after 16, and 18 [..] tested last"
  pub of_stroke : (t : Table) (ps : List ℤ) (page : Page) (s : ℕ) → asks stroke (stroke_given t ps page s) ≡ 4 ∷ 1 ∷ 6 ∷ 7 ∷ 8 ∷ 11 ∷ 12 ∷ 13 ∷ 15 ∷ 17 ∷ 18 ∷ []
  -- E8
  pub of_strip : (t : Table) (ps : List ℤ) → asks strip (strip_given t ps) ≡ 4 ∷ 1 ∷ 6 ∷ 7 ∷ 8 ∷ 11 ∷ 12 ∷ 13 ∷ 15 ∷ []
  -- E12: "21 [..] tested after 13"
  pub of_drill : (t : Table) (a l : ℕ) → asks drill (drill_given t a l) ≡ 1 ∷ 4 ∷ 6 ∷ 7 ∷ 8 ∷ 11 ∷ 12 ∷ 13 ∷ 21 ∷ []
  -- E9: two scratches; "20 [..] tested after 16"
  pub of_start : (t : Table) (al s m : ℕ) → asks start (start_given t al s m) ≡ 1 ∷ 4 ∷ 6 ∷ 7 ∷ 8 ∷ 11 ∷ 12 ∷ 13 ∷ 14 ∷ []
  pub of_step : (t : Table) (al s m p : ℕ) → asks step (step_given t al s m p) ≡ 1 ∷ 4 ∷ 1 ∷ 6 ∷ 7 ∷ 8 ∷ 11 ∷ 12 ∷ 13 ∷ 14 ∷ []
  pub of_reach : (t : Table) (al s m : ℕ) (finished : List ℕ) (c : ℕ) → asks reach (reach_given t al s m finished c) ≡ 1 ∷ 4 ∷ 6 ∷ 7 ∷ 8 ∷ 11 ∷ 12 ∷ 13 ∷ 14 ∷ 16 ∷ 20 ∷ []
  -- E14: Read's, with Layout's scratch and positions
  pub of_report : (g : Given) (m s p : ℕ) → g.buffers ≡ to_fill m ∷ scratch s ∷ [] → g.positions ≡ long p → asks report g ≡ 1 ∷ 2 ∷ 3 ∷ 4 ∷ 1 ∷ 5 ∷ 6 ∷ 7 ∷ 8 ∷ 9 ∷ 10 ∷ 11 ∷ 12 ∷ 13 ∷ 14 ∷ []
  -- an examiner's mark: Layout's scratch, then Check's questions
  pub of_mark : (t : Table) (ps : List ℤ) (al s : ℕ) → asks mark (mark_given t ps al s) ≡ 1 ∷ 4 ∷ 1 ∷ 6 ∷ 7 ∷ 8 ∷ 11 ∷ 12 ∷ 13 ∷ 14 ∷ 15 ∷ []
  -- "For each record in turn, 6 to 10"; 11, 12, 13, 15 and 20 each of all cells before the next number. Of a lent table, 6 to 8 in turn
  pub by_cell : (g : Given) → cell_by_cell g sequence ≡ (6 ∷ 7 ∷ 8 ∷ 9 ∷ 10 ∷ []) ∷ (11 ∷ []) ∷ (12 ∷ []) ∷ (13 ∷ []) ∷ (15 ∷ []) ∷ (20 ∷ []) ∷ []
  pub by_cell_lent : (g : Given) → cell_by_cell g (kept layout sequence) ≡ (6 ∷ 7 ∷ 8 ∷ []) ∷ (11 ∷ []) ∷ (12 ∷ []) ∷ (13 ∷ []) ∷ []

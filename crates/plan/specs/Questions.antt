-- Document 01, "Calls and their questions", with document 02's questions: THE sequence, what each asks, and which of them each call puts.
-- A call's refusal is the first "no". Every definition computes. Assumes nothing.
use Rattle.std.specs.Prelude.{List, [], ◌∷◌, ◌++◌, Bool, true, false, ◌&&◌, cond, ℕ, zero, suc, ◌+◌, ◌*◌, ◌-◌, length, get_or, eqb, leb, ltb, ℤ, pos, Result, Ok, Err, ⊤}
use Rattle.whole.specs.Range.{in_range}
use Rattle.plan.specs.Limits.{between, most_cells, most_width, most_depth, most_level, last_row, most_allowance, farthest, scratch_size, second_size, listing_size, lines_size, least_file, most_file, trailer_size, first_letter, last_letter, most_label, no_parent, most_steps, most_answers}
use Rattle.plan.specs.Forms.{marked, form_of, record_size, widest}
use Rattle.plan.specs.Lists.{from, mem}
use Rattle.plan.specs.Plan.{Table, parent, kind, box_width, box_depth, children, level, row}
use Rattle.plan.specs.Kinds.{known, allows, bordered}
use Rattle.plan.specs.declared.Refusal.{Refusal}
use Rattle.plan.specs.declared.Page.{Page}
use Rattle.plan.specs.Pages.{fair}

-- ---- what a call is given
-- a lent buffer of a length that question 1 asks for, with the length that it has: a table to fill, Layout's scratch, the output of a listing; of document 02 the output of a clean copy
-- or of a mended file (E4, E11), that of the lines that tell the mending, a drill's list (E12), and the second scratch of a sheet that is being made (E9)
pub data Buffer : Type 0 where
  to_fill scratch output : ℕ → Buffer
  copy_output : ℕ → Buffer
  lines_output : ℕ → Buffer
  step_list : ℕ → Buffer
  second_scratch : ℕ → Buffer

-- the length of the positions, where the call has them
pub data Lent : Type 0 where
  absent : Lent
  long : ℕ → Lent

-- what a call is asked about besides: a cell that is named; one that is named as a child, so that it is not the root (Ends); a frame of so many squares; a page and the number of a stroke on it; so many answer bytes;
-- the cells that are finished so far and, of them or not, the cell whose reach is asked for (E9)
pub data Subject : Type 0 where
  nothing : Subject
  named named_child squares : ℕ → Subject
  stroked : Page → ℕ → Subject
  answer_bytes : ℕ → Subject
  reach_of : (finished : List ℕ) → ℕ → Subject

-- the part of the label bytes that is a cell's label
pub record Label : Type 0 where
  pub start : ℕ
  pub size : ℕ

-- what a plan file says beside its table and allowance
pub record File : Type 0 where
  pub size : ℕ
  pub mark : ℕ
  -- the place where the records begin, and the bytes before it
  pub begin : ℕ
  pub letters : List ℕ
  -- of each record
  pub labels : List Label

-- label bytes, how many of them there are, and of each record its part
pub record Lettering : Type 0 where
  pub letters : List ℕ
  pub room : ℕ
  pub labels : List Label

-- a table lent, a table in a file, or a table lent with its label bytes (document 02, E4)
pub data Source : Type 0 where
  lent : Source
  file : File → Source
  lettered : Lettering → Source

pub record Given : Type 0 where
  pub source : Source
  pub table : Table
  pub allowance : ℕ
  pub buffers : List Buffer
  -- the length of the positions, and the numbers in them
  pub positions : Lent
  pub coordinates : List ℤ
  pub subject : Subject

-- ---- the sequence
pub data Question : Type 0 where
  buffers_long file_sized file_marked cells_counted positions_long letters_printable : Question
  parent_lower kind_known box_sized label_inside label_fits : Question
  children_allowed level_low rows_few frame_wide allowance_small coordinates_near cell_named : Question
  page_fair stroke_numbered : Question
  answers_few : Question
  cell_finished : Question

-- the documents' number, which a refusal returns
unfoldable pub number : Question → ℕ
number buffers_long = 1
number file_sized = 2
number file_marked = 3
number cells_counted = 4
number positions_long = 1
number letters_printable = 5
number parent_lower = 6
number kind_known = 7
number box_sized = 8
number label_inside = 9
number label_fits = 10
number children_allowed = 11
number level_low = 12
number rows_few = 13
number frame_wide = 19
number allowance_small = 14
number coordinates_near = 15
number cell_named = 16
number page_fair = 17
number stroke_numbered = 18
number answers_few = 21
number cell_finished = 20

-- a question put once, or questions put to each cell in turn
pub data Step : Type 0 where
  once : Question → Step
  each : List Question → Step

unfoldable pub sequence : List Step
sequence =
    once buffers_long
    ∷ once file_sized
    ∷ once file_marked
    ∷ once cells_counted
    ∷ once positions_long
    ∷ once letters_printable
    ∷ each (parent_lower ∷ kind_known ∷ box_sized ∷ label_inside ∷ label_fits ∷ [])
    ∷ each (children_allowed ∷ [])
    ∷ each (level_low ∷ [])
    ∷ each (rows_few ∷ [])
    ∷ once frame_wide
    ∷ once answers_few
    ∷ once allowance_small
    ∷ each (coordinates_near ∷ [])
    ∷ once cell_named
    ∷ each (cell_finished ∷ [])
    ∷ once page_fair
    ∷ once stroke_numbered
    ∷ []

-- ---- the calls, but for Join, which asks three tables in a sequence of its own (crate graft)
pub data Call : Type 0 where
  read label layout check ends list frame : Call
  copy : Call
  mend : Call
  stroke : Call
  strip : Call
  drill : Call
  start step reach : Call
  report : Call
  mark : Call

-- the numbers of the questions that a call puts
unfoldable pub puts : Call → List ℕ
puts read = from 1 14
puts label = from 2 13 ++ 16 ∷ []
puts layout = 1 ∷ 4 ∷ 6 ∷ 7 ∷ 8 ∷ 11 ∷ 12 ∷ 13 ∷ 14 ∷ []
puts check = 1 ∷ 4 ∷ 6 ∷ 7 ∷ 8 ∷ 11 ∷ 12 ∷ 13 ∷ 14 ∷ 15 ∷ []
puts ends = 1 ∷ 4 ∷ 6 ∷ 7 ∷ 8 ∷ 11 ∷ 12 ∷ 13 ∷ 15 ∷ 16 ∷ []
-- what is wrong with the file it prints, as document 01 says
puts list = 1 ∷ []
puts frame = 1 ∷ 4 ∷ 6 ∷ 7 ∷ 8 ∷ 11 ∷ 12 ∷ 13 ∷ 19 ∷ []
puts copy = 1 ∷ from 4 11
-- of the mended file, as document 02, E11, says: "the refusal it would get"
puts mend = from 1 14
puts stroke = 1 ∷ 4 ∷ 6 ∷ 7 ∷ 8 ∷ 11 ∷ 12 ∷ 13 ∷ 15 ∷ 17 ∷ 18 ∷ []
puts strip = 1 ∷ 4 ∷ 6 ∷ 7 ∷ 8 ∷ 11 ∷ 12 ∷ 13 ∷ 15 ∷ []
puts drill = 1 ∷ 4 ∷ 6 ∷ 7 ∷ 8 ∷ 11 ∷ 12 ∷ 13 ∷ 21 ∷ []
puts start = 1 ∷ 4 ∷ 6 ∷ 7 ∷ 8 ∷ 11 ∷ 12 ∷ 13 ∷ 14 ∷ []
puts step = 1 ∷ 4 ∷ 6 ∷ 7 ∷ 8 ∷ 11 ∷ 12 ∷ 13 ∷ 14 ∷ []
puts reach = 1 ∷ 4 ∷ 6 ∷ 7 ∷ 8 ∷ 11 ∷ 12 ∷ 13 ∷ 14 ∷ 16 ∷ 20 ∷ []
puts report = from 1 14
-- an examiner's mark: Check's, behind Layout's scratch
puts mark = 1 ∷ 4 ∷ 6 ∷ 7 ∷ 8 ∷ 11 ∷ 12 ∷ 13 ∷ 14 ∷ 15 ∷ []

-- those of the questions that a call puts
unfoldable pub put : Call → List Question → List Question
put call [] = []
put call (q ∷ qs) = let r = put call qs in cond (mem (number q) (puts call)) (q ∷ r) r

-- a step that is put to each cell, if a question is left in it
unfoldable pub with_each : List Question → List Step → List Step
with_each [] ss = ss
with_each (q ∷ qs) ss = each (q ∷ qs) ∷ ss

-- the steps with the questions that a call puts, and no others
unfoldable pub kept : Call → List Step → List Step
kept call [] = []
kept call (once q ∷ ss) = let r = kept call ss in cond (mem (number q) (puts call)) (once q ∷ r) r
kept call (each qs ∷ ss) = with_each (put call qs) (kept call ss)

-- ---- what each question asks
unfoldable pub roomy : Buffer → Bool
roomy (to_fill m) = leb most_cells m
roomy (scratch m) = leb scratch_size m
roomy (output m) = leb listing_size m
roomy (copy_output m) = leb most_file m
roomy (lines_output m) = leb lines_size m
roomy (step_list m) = leb most_steps m
roomy (second_scratch m) = leb second_size m

unfoldable pub all_roomy : List Buffer → Bool
all_roomy [] = true
all_roomy (b ∷ bs) = roomy b && all_roomy bs

unfoldable pub enough : Lent → ℕ → Bool
enough absent n = true
enough (long m) n = leb n m

unfoldable pub in_file : Source → (File → Bool) → Bool
in_file lent test = true
in_file (file f) test = test f
in_file (lettered l) test = true

-- questions 5, 9 and 10 are put to the label bytes of a file, those before its records, or to those that were lent
unfoldable pub on_labels : Source → (Lettering → Bool) → Bool
on_labels lent test = true
on_labels (file f) test = test (record { letters = f.letters; room = f.begin; labels = f.labels })
on_labels (lettered l) test = test l

unfoldable pub every : (ℕ → Bool) → List ℕ → Bool
every test [] = true
every test (v ∷ vs) = let r = every test vs in cond (test v) r false

abbrev pub no_label : Label
no_label = record { start = 0; size = 0 }

abbrev pub label_at : Lettering → ℕ → Label
label_at l c = get_or l.labels c no_label

-- question 6: is p a parent for cell c, 65,535 for cell 0, else less than the cell's own number
unfoldable pub lower : ℕ → ℕ → Bool
lower zero p = eqb p no_parent
lower (suc m) p = ltb p (suc m)

-- question 8: the greatest W, which in a file its form gives; is a box sized
unfoldable pub widest_in : Source → ℕ
widest_in lent = most_width
widest_in (file f) = widest (form_of f.mark)
widest_in (lettered l) = most_width

unfoldable pub sized : (most width depth : ℕ) → Bool
sized m w d = between 1 m w && between 1 most_depth d

-- question 15, for one number
unfoldable pub near : ℤ → Bool
near z = in_range farthest z

-- question 16: is cell c one of n, and not the root where a child is named
unfoldable pub in_table : (n : ℕ) → Subject → Bool
in_table n nothing = true
in_table n (named c) = ltb c n
in_table n (named_child c) = ltb c n && ltb 0 c
in_table n (squares f) = true
in_table n (stroked g s) = true
in_table n (answer_bytes a) = true
in_table n (reach_of finished c) = ltb c n

-- question 19 (document 02, E2): is the frame not 0
unfoldable pub framed : Subject → Bool
framed nothing = true
framed (named c) = true
framed (named_child c) = true
framed (squares f) = leb 1 f
framed (stroked g s) = true
framed (answer_bytes a) = true
framed (reach_of finished c) = true

-- question 17 (document 02, E1): is the pitch from 0.25 to 16 and each margin from 0 to 100
unfoldable pub on_page : Subject → Bool
on_page nothing = true
on_page (named c) = true
on_page (named_child c) = true
on_page (squares f) = true
on_page (stroked g s) = fair g
on_page (answer_bytes a) = true
on_page (reach_of finished c) = true

-- "a sheet of n cells has 9n − 3 strokes" (document 02, E1)
unfoldable pub strokes_of : (n : ℕ) → ℕ
strokes_of n = 9 * n - 3

-- question 18: is the number that of a stroke
unfoldable pub numbered : (n : ℕ) → Subject → Bool
numbered n nothing = true
numbered n (named c) = true
numbered n (named_child c) = true
numbered n (squares f) = true
numbered n (stroked g s) = ltb s (strokes_of n)
numbered n (answer_bytes a) = true
numbered n (reach_of finished c) = true

-- question 21 (document 02, E12): are there at most 4,096 answer bytes
unfoldable pub answerable : Subject → Bool
answerable nothing = true
answerable (named c) = true
answerable (named_child c) = true
answerable (squares f) = true
answerable (stroked g s) = true
answerable (answer_bytes a) = leb a most_answers
answerable (reach_of finished c) = true

-- question 20 (document 02, E9), put to each cell: is it finished, if it is the one whose reach is asked for
unfoldable pub finished_at : Subject → ℕ → Bool
finished_at nothing c = true
finished_at (named x) c = true
finished_at (named_child x) c = true
finished_at (squares f) c = true
finished_at (stroked g s) c = true
finished_at (answer_bytes a) c = true
finished_at (reach_of finished x) c = cond (eqb c x) (mem c finished) true

module _ (g : Given) where
  -- the answer, at cell c where the question is put to each cell
  unfoldable pub holds : Question → ℕ → Bool
  holds buffers_long c = all_roomy g.buffers
  holds file_sized c = in_file g.source (λ f. between least_file most_file f.size)
  holds file_marked c = in_file g.source (λ f. marked f.mark)
  holds cells_counted c =
      between 1 most_cells (length g.table)
      && in_file g.source (λ f. eqb (f.begin + record_size (form_of f.mark) * length g.table + trailer_size) f.size)
  holds positions_long c = enough g.positions (2 * length g.table)
  holds letters_printable c = on_labels g.source (λ l. every (between first_letter last_letter) l.letters)
  holds parent_lower c = lower c (parent g.table c)
  holds kind_known c = known (kind g.table c)
  holds box_sized c = sized (widest_in g.source) (box_width g.table c) (box_depth g.table c)
  holds label_inside c =
      on_labels g.source (λ l. leb (label_at l c).size most_label && leb ((label_at l c).start + (label_at l c).size) l.room)
  holds label_fits c = on_labels g.source (λ l. bordered (kind g.table c) (label_at l c).size (box_width g.table c))
  holds children_allowed c = allows (kind g.table c) (length (children g.table c))
  holds level_low c = leb (level g.table c) most_level
  holds rows_few c = leb (row g.table c + box_depth g.table c) last_row
  holds frame_wide c = framed g.subject
  holds allowance_small c = leb g.allowance most_allowance
  holds coordinates_near c = near (get_or g.coordinates (2 * c) (pos 0)) && near (get_or g.coordinates (2 * c + 1) (pos 0))
  holds cell_named c = in_table (length g.table) g.subject
  holds page_fair c = on_page g.subject
  holds stroke_numbered c = numbered (length g.table) g.subject
  holds answers_few c = answerable g.subject
  holds cell_finished c = finished_at g.subject c

-- ---- the first "no"
-- nothing refused: 0 and 0
abbrev pub none : Refusal
none = record { number = 0; cell = 0 }

-- question n at cell c, whose answer is b
unfoldable pub asked : ℕ → Bool → ℕ → Refusal
asked n b c = cond b none (record { number = n; cell = c })

-- the first of two
unfoldable pub or_else : Refusal → Refusal → Refusal
or_else a b = cond (eqb a.number 0) b a

-- the first of those of d cells, from k on
unfoldable pub at_each : (ℕ → Refusal) → ℕ → ℕ → Refusal
at_each f k zero = none
at_each f k (suc d) = let r = at_each f (suc k) d in or_else (f k) r

module _ (g : Given) where
  unfoldable pub ask : Question → ℕ → Refusal
  ask q c = asked (number q) (holds g q c) c

  -- the first of these questions, at cell c
  unfoldable pub ask_all : List Question → ℕ → Refusal
  ask_all [] c = none
  ask_all (q ∷ qs) c = let r = ask_all qs c in or_else (ask q c) r

  unfoldable pub take_step : Step → Refusal
  take_step (once q) = ask q 0
  take_step (each qs) = at_each (ask_all qs) 0 (length g.table)

  unfoldable pub take_steps : List Step → Refusal
  take_steps [] = none
  take_steps (s ∷ ss) = let r = take_steps ss in or_else (take_step s) r

-- THE refusal of a call: the first "no" of the questions that it puts, in the sequence's order
unfoldable pub refusal : Call → Given → Refusal
refusal call g = take_steps g (kept call sequence)

-- what a call answers whose refusal is r: v where nothing is refused, else the refusal
unfoldable pub answered : {A : Type 0} → Refusal → A → Result A Refusal
answered r v = cond (eqb r.number 0) (Ok v) (Err r)

-- the same of a question, or of several, with nothing to answer
abbrev pub passed : Refusal → Result ⊤ Refusal
passed r = answered r tt

-- question n at cell c, whose answer is b, as code puts it
unfoldable pub put_at : ℕ → Bool → ℕ → Result ⊤ Refusal
put_at n b c = cond b (Ok tt) (Err (record { number = n; cell = c }))

-- ---- what the calls on a lent table are given
unfoldable pub layout_given : Table → (allowance scratch positions : ℕ) → Given
layout_given t al s p =
    record { source = lent; table = t; allowance = al; buffers = scratch s ∷ []; positions = long p; coordinates = []; subject = nothing }

unfoldable pub check_given : Table → (allowance : ℕ) → (positions : List ℤ) → Given
check_given t al ps =
    record { source = lent; table = t; allowance = al; buffers = []; positions = long (length ps); coordinates = ps; subject = nothing }

unfoldable pub ends_given : Table → (positions : List ℤ) → (named : ℕ) → Given
ends_given t ps c =
    record { source = lent; table = t; allowance = 0; buffers = []; positions = long (length ps); coordinates = ps; subject = named_child c }

-- what a listing is given, of which a question asks: an output of so many bytes
unfoldable pub list_given : (output : ℕ) → Given
list_given room = record { source = lent; table = []; allowance = 0; buffers = output room ∷ []; positions = absent; coordinates = []; subject = nothing }

-- what the allowance that fits a frame is given: a table, a frame of so many squares and a scratch
unfoldable pub frame_given : Table → (squares scratch : ℕ) → Given
frame_given t f s =
    record { source = lent; table = t; allowance = 0; buffers = scratch s ∷ []; positions = absent; coordinates = []; subject = squares f }

-- what the clean copy is given (document 02, E4): a table, of each record its label, the lent label bytes, an allowance and an output of so many bytes
unfoldable pub copy_given : Table → List Label → (letters : List ℕ) → (allowance output : ℕ) → Given
copy_given t labels letters al room =
    record {
      source = lettered (record { letters = letters; room = length letters; labels = labels });
      table = t;
      allowance = al;
      buffers = copy_output room ∷ [];
      positions = absent;
      coordinates = [];
      subject = nothing;
    }

-- what a stroke is given (document 02, E1): a table, positions, a page and the stroke's number
unfoldable pub stroke_given : Table → (positions : List ℤ) → Page → (s : ℕ) → Given
stroke_given t ps g s =
    record { source = lent; table = t; allowance = 0; buffers = []; positions = long (length ps); coordinates = ps; subject = stroked g s }

-- what a strip is given (document 02, E8), of which a question asks: a table and positions
unfoldable pub strip_given : Table → (positions : List ℤ) → Given
strip_given t ps =
    record { source = lent; table = t; allowance = 0; buffers = []; positions = long (length ps); coordinates = ps; subject = nothing }

-- what a drill is given: a table, so many answer bytes and a list
unfoldable pub drill_given : Table → (answers list : ℕ) → Given
drill_given t a l =
    record { source = lent; table = t; allowance = 0; buffers = step_list l ∷ []; positions = absent; coordinates = []; subject = answer_bytes a }

-- what the three calls on a sheet that is being made are given (document 02, E9): a table, an allowance and two scratches; a step positions too; a reading the cell,
-- and the cells that are finished when it is asked for
unfoldable pub start_given : Table → (allowance scratch second : ℕ) → Given
start_given t al s m =
    record { source = lent; table = t; allowance = al; buffers = scratch s ∷ second_scratch m ∷ []; positions = absent; coordinates = []; subject = nothing }

unfoldable pub step_given : Table → (allowance scratch second positions : ℕ) → Given
step_given t al s m p =
    record { source = lent; table = t; allowance = al; buffers = scratch s ∷ second_scratch m ∷ []; positions = long p; coordinates = []; subject = nothing }

unfoldable pub reach_given : Table → (allowance scratch second : ℕ) → (finished : List ℕ) → (asked-for : ℕ) → Given
reach_given t al s m finished c =
    record { source = lent; table = t; allowance = al; buffers = scratch s ∷ second_scratch m ∷ []; positions = absent; coordinates = []; subject = reach_of finished c }

-- what an examiner's mark is given: a table, the positions of a drawing, an allowance and a scratch
unfoldable pub mark_given : Table → (positions : List ℤ) → (allowance scratch : ℕ) → Given
mark_given t ps al s =
    record { source = lent; table = t; allowance = al; buffers = scratch s ∷ []; positions = long (length ps); coordinates = ps; subject = nothing }

-- THE QUESTIONS OF A JOIN (document 02, E10): "1, 4 and 6 to 8 apply to the first table, then to the second (cells by its own numbers), 16 to the cell,
-- then 4 and 11 to 13 to the joined one". A sequence of its own, in the shape of plan's, with the table that each step is put to: Join's questions stand
-- here and nowhere else. Every definition computes. Assumes nothing.
use Rattle.std.specs.Prelude.{List, [], ◌∷◌, ℕ, length}
use Rattle.plan.specs.Limits.{between, most_cells}
use Rattle.plan.specs.Plan.{Table}
use Rattle.plan.specs.Steps.{cells_refusal}
use Rattle.plan.specs.Questions as asked
use Rattle.plan.specs.Questions.{Given, lent, to_fill, absent, named, Step, once, each, buffers_long, cells_counted, parent_lower, kind_known, box_sized, children_allowed, level_low, rows_few, cell_named, none, or_else, take_step}
use Rattle.plan.specs.declared.Refusal.{Refusal}
use Rattle.graft.specs.Joined.{joined}

-- the table that a step is put to; cells are named by its numbers
pub data Whose : Type 0 where
  first second both : Whose

pub data Asks : Type 0 where
  of : Whose → Step → Asks

-- 1 is asked of the table to fill, 16 of the named cell; they are put with the first table
unfoldable pub join_sequence : List Asks
join_sequence =
    of first (once buffers_long)
    ∷ of first (once cells_counted)
    ∷ of first (each (parent_lower ∷ kind_known ∷ box_sized ∷ []))
    ∷ of second (once cells_counted)
    ∷ of second (each (parent_lower ∷ kind_known ∷ box_sized ∷ []))
    ∷ of first (once cell_named)
    ∷ of both (once cells_counted)
    ∷ of both (each (children_allowed ∷ []))
    ∷ of both (each (level_low ∷ []))
    ∷ of both (each (rows_few ∷ []))
    ∷ []

-- a join of plans t and u at cell c, into a table of so many records
module _ (room : ℕ) (t u : Table) (c : ℕ) where
  unfoldable pub table_asked : Whose → Table
  table_asked first = t
  table_asked second = u
  table_asked both = joined t u c

  unfoldable pub join_given : Whose → Given
  join_given w =
      record { source = lent; table = table_asked w; allowance = 0; buffers = to_fill room ∷ []; positions = absent; coordinates = []; subject = named c }

  unfoldable pub ask_one : Asks → Refusal
  ask_one (of w s) = take_step (join_given w) s

  unfoldable pub ask_all : List Asks → Refusal
  ask_all [] = none
  ask_all (a ∷ rest) = let r = ask_all rest in or_else (ask_one a) r

  -- THE refusal of a join: the first "no"
  unfoldable pub join_refusal : Refusal
  join_refusal = ask_all join_sequence

-- question 4, and 6 to 8: of a table that is to be a part of another
abbrev pub counted : ℕ → Refusal
counted n = asked.asked 4 (between 1 most_cells n) 0

abbrev pub part_refusal : Table → Refusal
part_refusal t = or_else (counted (length t)) (cells_refusal t)

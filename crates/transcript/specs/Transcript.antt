-- WHAT THE PROGRAM `drill` PRINTS of a plan file and answer bytes (document 02, E12): the recorded steps with their labels, a line each, then the outcome, the bytes used and the number of records; or
-- the line of a refusal. Assumes nothing.
use Rattle.std.specs.Prelude.{cond, List, [], ◌∷◌, ◌++◌, ℕ, ◌≤◌, ◌<◌, eqb, length, get_or, Result, Ok, Err}
use Rattle.plan.specs.Limits.{most_cells, most_steps, most_answers}
use Rattle.plan.specs.Questions.{refusal, drill, drill_given}
use Rattle.plan.specs.declared.Refusal.{Refusal}
use Rattle.planfile_spec.specs.Read.{Reading}
use Rattle.planfile_spec.specs.Reading.{reading_of}
use Rattle.listing.specs.Printed.{Bytes, refused_line, step_line, end_line}
use Rattle.printing.specs.Printing.{label_bytes, read_table}
use Rattle.moves.specs.Drill.{drill_of}
use Rattle.following.specs.Drilled.{drilled_of}
use Rattle.following.specs.declared.Drilled.{Drilled}
use Rattle.following.specs.declared.Drilled.TheVariants.{Finished, Spent, Wrong, Full}

-- the words, in ASCII
abbrev pub finished_word : Bytes
finished_word = 102 ∷ 105 ∷ 110 ∷ 105 ∷ 115 ∷ 104 ∷ 101 ∷ 100 ∷ []

abbrev pub spent_word : Bytes
spent_word = 115 ∷ 112 ∷ 101 ∷ 110 ∷ 116 ∷ []

abbrev pub wrong_word : Bytes
wrong_word = 119 ∷ 114 ∷ 111 ∷ 110 ∷ 103 ∷ []

abbrev pub full_word : Bytes
full_word = 102 ∷ 117 ∷ 108 ∷ 108 ∷ []

-- the lines of the steps ss
unfoldable pub steps_text : (file : Bytes) → (steps : List ℕ) → Bytes
steps_text f [] = []
steps_text f (c ∷ ss) = step_line c (label_bytes f c) ++ steps_text f ss

-- the lines of an answer, with these recorded steps
unfoldable pub told_lines : (file : Bytes) → (steps : List ℕ) → Result Drilled Refusal → Bytes
told_lines f ss (Ok (Finished u n)) = steps_text f ss ++ end_line finished_word u n
told_lines f ss (Ok (Spent u n)) = steps_text f ss ++ end_line spent_word u n
told_lines f ss (Ok (Wrong u n)) = steps_text f ss ++ end_line wrong_word u n
told_lines f ss (Ok (Full u n)) = steps_text f ss ++ end_line full_word u n
told_lines f ss (Err r) = refused_line r.number r.cell

-- THE TRANSCRIPT, every byte of it: of a file that Read refuses its refusal, else the drill's answer
unfoldable pub transcript_of : (file answers : Bytes) → Bytes
transcript_of f bs =
    let p = reading_of f most_cells in
    cond (eqb p.refusal.number 0)
    (told_lines f (drill_of (read_table p) bs).steps (drilled_of (read_table p) bs (refusal drill (drill_given (read_table p) (length bs) most_steps))))
    (refused_line p.refusal.number p.refusal.cell)

-- bytes of an output that holds every transcript: 4,096 lines of at most 52 bytes, and one of at most 128
abbrev pub transcript_size : ℕ
transcript_size = 213120

-- ---- what the functions ask of each other
-- the records that an answer tells of
unfoldable pub records_in : Result Drilled Refusal → ℕ
records_in (Ok (Finished u n)) = n
records_in (Ok (Spent u n)) = n
records_in (Ok (Wrong u n)) = n
records_in (Ok (Full u n)) = n
records_in (Err r) = 0

unfoldable pub used_in : Result Drilled Refusal → ℕ
used_in (Ok (Finished u n)) = u
used_in (Ok (Spent u n)) = u
used_in (Ok (Wrong u n)) = u
used_in (Ok (Full u n)) = u
used_in (Err r) = 0

-- the first n numbers of the list are cells of the plan
pub record Recorded (p : Reading) (n : ℕ) (xs : List ℕ) : Type 0 where
  pub few : n ≤ most_steps
  pub long : n ≤ length xs
  pub cells : (i : ℕ) → i < n → get_or xs i 0 < p.columns.count

-- an answer whose lines can be written
pub record Tellable (p : Reading) (xs : List ℕ) (r : Result Drilled Refusal) : Type 0 where
  pub recorded : Recorded p (records_in r) xs
  pub few : used_in r ≤ most_answers

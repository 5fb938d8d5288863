-- WHAT THE JOIN OF TWO PLAN FILES ANSWERS (document 02, E10), and what it leaves in the output lent to it, on every input. Assumes nothing.
use Rattle.std.specs.Prelude.{◌≡◌, cond, List, ◌++◌, Result, Ok, Err, ℕ, ◌≤◌, eqb, leb, length, drop}
use Rattle.plan.specs.Limits.{most_cells, most_file}
use Rattle.plan.specs.Records.{cells_of}
use Rattle.plan.specs.declared.Refusal.{Refusal}
use Rattle.planfile_spec.specs.Format.{records_of}
use Rattle.planfile_spec.specs.Reading.{reading_of}
use Rattle.content.specs.Content.{file_content}
use Rattle.content.specs.Clean.{clean}
use Rattle.graft.specs.Sequence.{join_refusal}
use Rattle.join_file_spec.specs.Contents.{joined_content}
use Rattle.join_file_spec.specs.declared.JoinError.{JoinError}
use Rattle.join_file_spec.specs.declared.JoinError.TheVariants.{FirstRefused, SecondRefused, Refused}

-- question 1
abbrev pub too_short : Refusal
too_short = record { number = 1; cell = 0 }

module _ (f : List ℕ) (c : ℕ) (g : List ℕ) where
  -- THE joined file: the clean copy of the joined content
  unfoldable pub joined_file : List ℕ
  joined_file = clean (joined_content (file_content f) (file_content g) c)

  -- the join's refusal, of the tables that the two files hold
  unfoldable pub tables_refusal : Refusal
  tables_refusal = join_refusal most_cells (cells_of (records_of f)) (cells_of (records_of g)) c

  -- the answer, with an output of so many bytes: 1 (the output has 16,384), Read's questions of the first file, then of the second, then Join's
  unfoldable pub joined_of : (room : ℕ) → Result ℕ JoinError
  joined_of room =
      let a = (reading_of f most_cells).refusal in
      let b = (reading_of g most_cells).refusal in
      cond (leb most_file room)
      (cond (eqb a.number 0)
      (cond (eqb b.number 0)
      (cond (eqb tables_refusal.number 0) (Ok (length joined_file)) (Err (Refused tables_refusal)))
      (Err (SecondRefused b)))
      (Err (FirstRefused a)))
      (Err (Refused too_short))

  -- the lent output after it. Of a joined file: the file, the rest as it was. Of a refusal: as it was
  unfoldable pub joined_after : Result ℕ JoinError → (out : List ℕ) → List ℕ
  joined_after (Ok n) out = joined_file ++ drop n out
  joined_after (Err (FirstRefused r)) out = out
  joined_after (Err (SecondRefused r)) out = out
  joined_after (Err (Refused r)) out = out

-- bytes of the file that is given
unfoldable pub size : Result ℕ JoinError → ℕ
size (Ok n) = n
size (Err e) = 0

-- a call: the answer, and the output before and after it. The length that question 1 asks for suffices
pub record JoinsFiles (f : List ℕ) (c : ℕ) (g out out' : List ℕ) (r : Result ℕ JoinError) : Type 0 where
  pub answers : r ≡ joined_of f c g (length out)
  pub output : out' ≡ joined_after f c g r out
  pub suffices : size r ≤ most_file

-- WHAT IS PROMISED of a joined file (document 02, E10). Statements only; the proofs are in laws/. Assumes nothing.
use Rattle.std.specs.Prelude.{◌≡◌, Result, Ok, Err, List, [], ◌∷◌, ◌++◌, ℕ, ◌+◌, ◌≤◌, ◌<◌, T, length, drop}
use Rattle.plan.specs.Limits.{most_cells, most_file}
use Rattle.plan.specs.Plan.{Is, within}
use Rattle.plan.specs.Records.{cells_of}
use Rattle.plan.specs.Questions.{to_fill, nothing, none, read, refusal}
use Rattle.rules.specs.Placement.{left_extent, right_extent}
use Rattle.contours.specs.Sheet.{sheet}
use Rattle.planfile_spec.specs.Format.{trailer_of, records_of, file_given}
use Rattle.planfile_spec.specs.Reading.{reading_of, label_part}
use Rattle.planfile.specs.Subslice.{bytes_in}
use Rattle.content.specs.Content.{file_content}
use Rattle.graft.specs.Joined.{joined}
use Rattle.join_file_spec.specs.Contents.{joined_content}
use Rattle.join_file_spec.specs.Joined.{too_short, joined_file, tables_refusal, JoinsFiles}
use Rattle.join_file_spec.specs.declared.JoinError.{JoinError}
use Rattle.join_file_spec.specs.declared.JoinError.TheVariants.{FirstRefused, SecondRefused, Refused}
use Rattle.join_file_spec.proofs.Laws.Answers as answers
use Rattle.join_file_spec.proofs.Laws.Promised as laws

-- ---- A call, refused or not. An output that is too short: 1;
module _ (f : List ℕ) (c : ℕ) (g out out' : List ℕ) (r : Result ℕ JoinError) (h : JoinsFiles f c g out out' r) where
  pub short : length out < most_file → (r ≡ Err (Refused too_short)) × (out' ≡ out)
  short = answers.short_refused f c g out out' r h

  module _ (room : most_file ≤ length out) where
    -- else Read's refusal of the first file;
    pub first-refused : ¬ ((reading_of f most_cells).refusal.number ≡ 0) → (r ≡ Err (FirstRefused (reading_of f most_cells).refusal)) × (out' ≡ out)
    first-refused = answers.first-refused f c g out out' r h room

    -- else Read's of the second;
    pub second-refused : (reading_of f most_cells).refusal.number ≡ 0 → ¬ ((reading_of g most_cells).refusal.number ≡ 0)
        → (r ≡ Err (SecondRefused (reading_of g most_cells).refusal)) × (out' ≡ out)
    second-refused = answers.second-refused f c g out out' r h room

    -- else Join's; and the output is as it was;
    pub join-refused : (reading_of f most_cells).refusal.number ≡ 0 → (reading_of g most_cells).refusal.number ≡ 0 → ¬ ((tables_refusal f c g).number ≡ 0)
        → (r ≡ Err (Refused (tables_refusal f c g))) × (out' ≡ out)
    join-refused = answers.join-refused f c g out out' r h room

    -- else the joined file, and the rest of the output as it was: Copy refuses none of it.
    pub written : (reading_of f most_cells).refusal.number ≡ 0 → (reading_of g most_cells).refusal.number ≡ 0 → (tables_refusal f c g).number ≡ 0
        → (r ≡ Ok (length (joined_file f c g))) × (out' ≡ joined_file f c g ++ drop (length (joined_file f c g)) out)
    written = answers.written f c g out out' r h room

-- ---- Two files that Read accepts, and a cell of the first under which Join hangs the second
module _ (f : List ℕ) (c : ℕ) (g : List ℕ) (a : (reading_of f most_cells).refusal.number ≡ 0) (b : (reading_of g most_cells).refusal.number ≡ 0) (z : (tables_refusal f c g).number ≡ 0) where
  -- 1. Read accepts the joined file, and what it reads is exactly the joined content.
  pub file-read : (table : ℕ) → most_cells ≤ table → refusal read (file_given (joined_file f c g) (to_fill table ∷ []) nothing) ≡ none
  file-read = laws.file-read f c g a b z

  pub content-read : file_content (joined_file f c g) ≡ joined_content (file_content f) (file_content g) c
  content-read = laws.content-read f c g

  -- 2. It is no longer than a file may be.
  pub file_small : length (joined_file f c g) ≤ most_file
  file_small = laws.file_small f c g a b z

  -- 3. The labels of both plans are carried over, text for text: of a cell of the first, and of a cell of the second.
  pub first-label : (i : ℕ) → i < (trailer_of f).count → bytes_in (joined_file f c g) (label_part (joined_file f c g) i) ≡ bytes_in f (label_part f i)
  first-label = laws.first-label f c g a b z

  pub second-label : (i : ℕ) → i < (trailer_of g).count → bytes_in (joined_file f c g) (label_part (joined_file f c g) ((trailer_of f).count + i)) ≡ bytes_in g (label_part g i)
  second-label = laws.second-label f c g a b z

  -- 4. Its table is THE joined table; so "under one allowance every sub-diagram of the second plan" reaches "left and right exactly as in its own sheet",
  pub table-read : cells_of (records_of (joined_file f c g)) ≡ joined (cells_of (records_of f)) (cells_of (records_of g)) c
  table-read = laws.table-read f c g

  pub second_reaches : (al i : ℕ) → Is (cells_of (records_of g)) i
      → (left_extent (cells_of (records_of (joined_file f c g))) (sheet (cells_of (records_of (joined_file f c g))) al) ((trailer_of f).count + i) ≡ left_extent (cells_of (records_of g)) (sheet (cells_of (records_of g)) al) i)
      × (right_extent (cells_of (records_of (joined_file f c g))) (sheet (cells_of (records_of (joined_file f c g))) al) ((trailer_of f).count + i) ≡ right_extent (cells_of (records_of g)) (sheet (cells_of (records_of g)) al) i)
  second_reaches = laws.second_reaches f c g z

  -- and so does each of the first's "that doesn't hold the named cell".
  pub first_reaches : (al i : ℕ) → Is (cells_of (records_of f)) i → ¬ T (within (cells_of (records_of f)) i c)
      → (left_extent (cells_of (records_of (joined_file f c g))) (sheet (cells_of (records_of (joined_file f c g))) al) i ≡ left_extent (cells_of (records_of f)) (sheet (cells_of (records_of f)) al) i)
      × (right_extent (cells_of (records_of (joined_file f c g))) (sheet (cells_of (records_of (joined_file f c g))) al) i ≡ right_extent (cells_of (records_of f)) (sheet (cells_of (records_of f)) al) i)
  first_reaches = laws.first_reaches f c g z

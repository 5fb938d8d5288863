-- The join of two files as the code does it: what its functions ask of each other and give. Nothing that a reader must believe stands here. Assumes nothing.
use Rattle.std.specs.Prelude.{◌≡◌, List, Result, Ok, Err, ℕ, ◌+◌, ◌≤◌, ◌<◌, length, get_or}
use Rattle.plan.specs.Limits.{most_cells, most_file, trailer_size}
use Rattle.plan.specs.declared.Lettered.{Lettered}
use Rattle.planfile_spec.specs.Read.{Reading}
use Rattle.planfile_spec.specs.Format.{trailer_of}
use Rattle.planfile_spec.specs.Reading.{column, reading_of}
use Rattle.records.specs.Apart.{records_in}
use Rattle.copying.specs.Copied.{Copies}
use Rattle.plan.specs.declared.Refusal.{Refusal}
use Rattle.join_file_spec.specs.declared.JoinError.{JoinError}
use Rattle.join_file_spec.specs.declared.JoinError.TheVariants.{Refused}

-- a file whose trailer is there, and points back into it
pub record Ended (f : List ℕ) : Type 0 where
  pub long : trailer_size ≤ length f
  pub inside : (trailer_of f).begin ≤ length f

-- the plan that Read gives of a file
pub record Read (p : Reading) (f : List ℕ) : Type 0 where
  pub is : p ≡ reading_of f most_cells
  pub passes : p.refusal.number ≡ 0

-- label starts that can be moved on by so many bytes: no sum wraps
pub record Movable (starts : List ℕ) (by n : ℕ) : Type 0 where
  pub few : n ≤ most_cells
  pub low : by ≤ most_file
  pub each_low : (i : ℕ) → i < n → get_or starts i 0 ≤ most_file

abbrev pub Shiftable : Reading → (by : ℕ) → Type 0
Shiftable p by = Movable p.label_start by p.columns.count

-- a plan that was read, in columns; with each label so many bytes on
abbrev pub lettered : Reading → Lettered
lettered p = record { columns = p.columns; label_length = p.label_length; label_start = p.label_start }

abbrev pub shifted : ℕ → Reading → Lettered
shifted by p =
    record { columns = p.columns; label_length = p.label_length; label_start = column (λ i. by + get_or p.label_start i 0) p.columns.count }

-- the writer's answer as that of the join
unfoldable pub told : Result ℕ Refusal → Result ℕ JoinError
told (Ok n) = Ok n
told (Err r) = Err (Refused r)

-- the clean copy of a plan in columns is written
pub record Writes (t : Lettered) (letters : List ℕ) (al : ℕ) (out out' : List ℕ) (r : Result ℕ JoinError) : Type 0 where
  pub copied : Result ℕ Refusal
  pub copies : Copies (records_in t) letters al out out' copied
  pub answers : r ≡ told copied

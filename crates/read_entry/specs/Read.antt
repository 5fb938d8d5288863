-- WHAT READ ANSWERS, and what it leaves in the table lent to it, on every input. Assumes nothing.
use Rattle.std.specs.Prelude.{◌≡◌, List, [], ◌∷◌, ◌++◌, Result, Ok, Err, ℕ, length, drop}
use Rattle.plan.specs.Questions.{to_fill, nothing, read, refusal, answered}
use Rattle.plan.specs.declared.Record.{Record}
use Rattle.plan.specs.declared.Refusal.{Refusal}
use Rattle.planfile_spec.specs.Format.{trailer_of, records_of, file_given}
use Rattle.read_entry.specs.declared.ReadPlan.{ReadPlan}

-- the refusal, for a table to fill of so many records
abbrev pub read_refusal : List ℕ → (room : ℕ) → Refusal
read_refusal f room = refusal read (file_given f (to_fill room ∷ []) nothing)

-- document 01's values of the two answers: n and the allowance; number and cell of the refusal
unfoldable pub read_answered : List ℕ → Refusal → Result ReadPlan Refusal
read_answered f r = answered r (record { count = (trailer_of f).count; allowance = (trailer_of f).allowance })

-- the lent table after it. Of a plan: records 0 to n - 1 are the file's, the rest as they were. Of a refusal: as it was
unfoldable pub table_after : Result ReadPlan Refusal → List ℕ → List Record → List Record
table_after (Ok p) f t = records_of f ++ drop p.count t
table_after (Err r) f t = t

-- a call of Read: the answer, and the table before and after it
pub record Reads (f : List ℕ) (t t' : List Record) (r : Result ReadPlan Refusal) : Type 0 where
  pub answers : r ≡ read_answered f (read_refusal f (length t))
  pub table : t' ≡ table_after r f t

-- WHAT JOIN ANSWERS (document 02, E10), and what it leaves in the table lent to it to fill, on every input. Assumes nothing.
use Rattle.std.specs.Prelude.{◌≡◌, List, ◌++◌, Result, Ok, Err, ℕ, ◌+◌, length, drop}
use Rattle.plan.specs.Questions.{answered}
use Rattle.plan.specs.Records.{cells_of}
use Rattle.plan.specs.declared.Record.{Record}
use Rattle.plan.specs.declared.Refusal.{Refusal}
use Rattle.graft.specs.Joined.{joined_records}
use Rattle.graft.specs.Sequence.{join_refusal}

-- document 02's values of the two answers: how many records; number and cell of the refusal
unfoldable pub join_answered : (count : ℕ) → Refusal → Result ℕ Refusal
join_answered n r = answered r n

-- the table to fill after it, t and u being lent. Of a plan: the joined records, and "records beyond the joined ones stay unchanged". Of a refusal: as it was
unfoldable pub table_after : Result ℕ Refusal → (t u : List Record) → (c : ℕ) → List Record → List Record
table_after (Ok n) t u c o = joined_records t u c ++ drop n o
table_after (Err r) t u c o = o

-- a call of Join: the answer, and the table to fill before and after it
pub record Joins (t u : List Record) (c : ℕ) (o o' : List Record) (r : Result ℕ Refusal) : Type 0 where
  pub answers : r ≡ join_answered (length t + length u) (join_refusal (length o) (cells_of t) (cells_of u) c)
  pub table : o' ≡ table_after r t u c o

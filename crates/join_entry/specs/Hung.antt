-- A join of two tables that were taken apart, as the code writes it. Nothing that a reader must believe stands here. Assumes nothing.
use Rattle.std.specs.Prelude.{◌≡◌, List, Result, Ok, Err, ℕ, length}
use Rattle.plan.specs.declared.Record.{Record}
use Rattle.plan.specs.declared.Lettered.{Lettered}
use Rattle.plan.specs.declared.Refusal.{Refusal}
use Rattle.records.specs.Together.{as_reading, filled}
use Rattle.grafting.specs.Grafted.{graft_of}

-- how many records, or the refusal
abbrev pub count_of : Result Lettered Refusal → Result ℕ Refusal
count_of (Ok l) = Ok l.columns.count
count_of (Err r) = Err r

-- the table to fill after it
abbrev pub table_after_it : Result Lettered Refusal → List Record → List Record
table_after_it (Ok l) o = filled (as_reading l) l.columns.count o
table_after_it (Err r) o = o

pub record Hangs (t u : Lettered) (c : ℕ) (o o' : List Record) (r : Result ℕ Refusal) : Type 0 where
  pub answers : r ≡ count_of (graft_of (length o) t u c)
  pub table : o' ≡ table_after_it (graft_of (length o) t u c) o

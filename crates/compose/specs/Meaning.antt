-- What the reader's state and answers say: the cells in its table, with their labels in the letters, or a fault and its line. Nothing that a reader must believe stands here. Assumes nothing.
use Rattle.std.specs.Prelude.{List, map, ℕ, take, Result, Ok, Err}
use Rattle.plan.specs.declared.Lettered.{Lettered}
use Rattle.records.specs.Apart.{records_in}
use Rattle.content.specs.Content.{Item, item_of}
use Rattle.outline_spec.specs.Understood.{Cells, faulty, items, First, no_first, allowed, Understood, fault, plan}
use Rattle.outline_spec.specs.declared.Fault.{Fault}
use Rattle.compose.specs.declared.Misread.{Misread}
use Rattle.compose.specs.declared.State.{State}
use Rattle.compose.specs.declared.Understanding.{Understanding}

abbrev pub count : State → ℕ
count s = s.table.columns.count

-- the cells of a table whose labels are the first bytes of the letters
unfoldable pub items_in : (letters : List ℕ) (used : ℕ) → Lettered → List Item
items_in letters used t = map (item_of (take used letters)) (records_in t)

-- the cells so far
abbrev pub so_far : (letters : List ℕ) → State → List Item
so_far letters s = items_in letters s.used s.table

-- all lines read; or the line that is not understood
unfoldable pub cells_in : (letters : List ℕ) → Result State Misread → Cells
cells_in letters (Ok s) = items (so_far letters s)
cells_in letters (Err m) = faulty m.line m.fault

-- the first line
unfoldable pub first_in : Result ℕ Fault → First
first_in (Ok al) = allowed al
first_in (Err f) = no_first f

-- the whole text
unfoldable pub meaning : (letters : List ℕ) → Result Understanding Misread → Understood
meaning letters (Ok u) = plan (record { items = items_in letters u.used u.table; allowance = u.allowance })
meaning letters (Err m) = fault m.line m.fault

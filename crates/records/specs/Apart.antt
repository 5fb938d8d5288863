-- A lent table of records, taken apart into columns. Assumes nothing.
use Rattle.std.specs.Prelude.{List, map, cond, ℕ, ltb, length, get_or, set, replicate}
use Rattle.plan.specs.Limits.{most_cells}
use Rattle.plan.specs.Lists.{from}
use Rattle.plan.specs.declared.Record.{Record}
use Rattle.plan.specs.declared.Columns.{Columns}
use Rattle.plan.specs.declared.Lettered.{Lettered}
use Rattle.planfile_spec.specs.Reading.{column}

-- stands past the end of a table
abbrev pub no_record : Record
no_record = record { parent = 0; kind = 0; width = 0; depth = 0; rank = 0; label_length = 0; label_start = 0 }

-- the record of cell c
abbrev pub lent_at : List Record → ℕ → Record
lent_at t c = get_or t c no_record

-- columns for so many cells, with the numbers of the first n records
unfoldable pub columns : List Record → (count n : ℕ) → Columns
columns t count n =
    record {
      count = count;
      parent = column (λ c. (lent_at t c).parent) n;
      kind = column (λ c. (lent_at t c).kind) n;
      width = column (λ c. (lent_at t c).width) n;
      depth = column (λ c. (lent_at t c).depth) n;
      rank = column (λ c. (lent_at t c).rank) n;
    }

-- how many records are taken: none of a table that has too many
unfoldable pub clipped : ℕ → ℕ
clipped count = cond (ltb most_cells count) 0 count

-- the columns of a table
abbrev pub lent_columns : List Record → Columns
lent_columns t = columns t (length t) (clipped (length t))

-- those and the columns of the label fields
unfoldable pub lettering : List Record → (count n : ℕ) → Lettered
lettering t count n =
    record { columns = columns t count n; label_length = column (λ c. (lent_at t c).label_length) n; label_start = column (λ c. (lent_at t c).label_start) n }

abbrev pub lent_lettered : List Record → Lettered
lent_lettered t = lettering t (length t) (clipped (length t))

-- the record of cell c that stands in columns, and all of them
abbrev pub row_at : Lettered → ℕ → Record
row_at l c =
    let t = l.columns in
    record {
      parent = get_or t.parent c 0;
      kind = get_or t.kind c 0;
      width = get_or t.width c 0;
      depth = get_or t.depth c 0;
      rank = get_or t.rank c 0;
      label_length = get_or l.label_length c 0;
      label_start = get_or l.label_start c 0;
    }

unfoldable pub records_in : Lettered → List Record
records_in l = map (row_at l) (from 0 l.columns.count)

-- ---- as the code makes them
abbrev pub blank : ℕ → Lettered
blank count =
    record {
      columns = record { count = count; parent = replicate most_cells 0; kind = replicate most_cells 0; width = replicate most_cells 0; depth = replicate most_cells 0; rank = replicate most_cells 0 };
      label_length = replicate most_cells 0;
      label_start = replicate most_cells 0;
    }

abbrev pub with_record : Lettered → ℕ → Record → Lettered
with_record l c r =
    let t = l.columns in
    record {
      columns = record { count = t.count; parent = set t.parent c r.parent; kind = set t.kind c r.kind; width = set t.width c r.width; depth = set t.depth c r.depth; rank = set t.rank c r.rank };
      label_length = set l.label_length c r.label_length;
      label_start = set l.label_start c r.label_start;
    }

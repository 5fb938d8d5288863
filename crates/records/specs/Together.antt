-- A lent table filled with the records of a reading. Assumes nothing.
use Rattle.std.specs.Prelude.{List, ℕ, zero, suc, get_or, set}
use Rattle.plan.specs.declared.Record.{Record}
use Rattle.plan.specs.declared.Lettered.{Lettered}
use Rattle.planfile_spec.specs.Read.{Reading, reading}

-- the record of cell c
abbrev pub record_in : Reading → ℕ → Record
record_in r c =
    record {
      parent = get_or r.columns.parent c 0;
      kind = get_or r.columns.kind c 0;
      width = get_or r.columns.width c 0;
      depth = get_or r.columns.depth c 0;
      rank = get_or r.columns.rank c 0;
      label_length = get_or r.label_length c 0;
      label_start = get_or r.label_start c 0;
    }

-- columns as a reading
abbrev pub as_reading : Lettered → Reading
as_reading t = reading (record { allowance = 0; cells = t })

-- a table whose first n records are those of the reading
unfoldable pub filled : Reading → ℕ → List Record → List Record
filled r zero t = t
filled r (suc c) t = set (filled r c t) c (record_in r c)

-- A table as a run of records, and what layout, check and connectors see of it. Assumes nothing.
use Rattle.std.specs.Prelude.{List, map}
use Rattle.plan.specs.Plan.{Cell, Table}
use Rattle.plan.specs.declared.Record.{Record}

-- document 01: layout, checker and connector calls ignore the two label fields
unfoldable pub bare : Record → Cell
bare r = record { parent = r.parent; kind = r.kind; width = r.width; depth = r.depth; rank = r.rank }

unfoldable pub cells_of : List Record → Table
cells_of rs = map bare rs

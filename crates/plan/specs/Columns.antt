-- A table as the code has it, in columns of numbers, and as a list of cells. Assumes nothing.
use Rattle.std.specs.Prelude.{List, map, ℕ, get_or}
use Rattle.plan.specs.Lists.{from}
use Rattle.plan.specs.Plan.{Table}
use Rattle.plan.specs.declared.Columns.{Columns}

-- n cells, with these parents, kinds, widths, depths and ranks
unfoldable pub table : (parents kinds widths depths ranks : List ℕ) (n : ℕ) → Table
table ps ks ws ds qs n = map (λ c. record { parent = get_or ps c 0; kind = get_or ks c 0; width = get_or ws c 0; depth = get_or ds c 0; rank = get_or qs c 0 }) (from 0 n)

abbrev pub table_of : Columns → Table
table_of t = table t.parent t.kind t.width t.depth t.rank t.count

-- TWO PLANS JOINED (document 02, E10): "the joined table has the first's cells, then the second's with numbers raised by the first's count, and the second's root
-- becomes the last son of that cell; fields other than the father are copied". It keeps its rank too, "and need not be the last son" (E13).
-- Said once, of any run whose members have a parent: of the table, and of the lent records with their label fields. Assumes nothing.
use Rattle.std.specs.Prelude.{List, [], ◌∷◌, map, ◌++◌, ℕ, ◌+◌, length}
use Rattle.plan.specs.Plan.{Cell, Table}
use Rattle.plan.specs.declared.Record.{Record}

module _ {A : Type 0} (parent : A → ℕ) (under : ℕ → A → A) where
  -- the parent's number raised by n
  unfoldable pub raised : ℕ → A → A
  raised n x = under (n + parent x) x

  -- a run raised by n, its root under c
  unfoldable pub hung : (n c : ℕ) → List A → List A
  hung n c [] = []
  hung n c (x ∷ u) = under c x ∷ map (raised n) u

  -- u hung under c of t
  unfoldable pub hung_behind : List A → List A → ℕ → List A
  hung_behind t u c = t ++ hung (length t) c u

-- the cell with this parent, and the record
unfoldable pub cell_under : ℕ → Cell → Cell
cell_under p x = record { parent = p; kind = x.kind; width = x.width; depth = x.depth; rank = x.rank }

unfoldable pub record_under : ℕ → Record → Record
record_under p x =
    record { parent = p; kind = x.kind; width = x.width; depth = x.depth; rank = x.rank; label_length = x.label_length; label_start = x.label_start }

-- THE joined table: plan u hung under cell c of plan t
unfoldable pub joined : Table → Table → ℕ → Table
joined t u c = hung_behind (λ (x : Cell). x.parent) cell_under t u c

-- the records that are written
unfoldable pub joined_records : List Record → List Record → ℕ → List Record
joined_records t u c = hung_behind (λ (x : Record). x.parent) record_under t u c

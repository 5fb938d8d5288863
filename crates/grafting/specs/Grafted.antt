-- A join in columns, as the code makes it. Nothing that a reader must believe stands here. Assumes nothing.
use Rattle.std.specs.Prelude.{List, Result, cond, ℕ, zero, suc, ◌+◌, ◌-◌, ◌≤◌, ◌<◌, eqb, leb, ltb, length, get_or, set, replicate}
use Rattle.plan.specs.Limits.{most_cells}
use Rattle.plan.specs.Plan.{Table}
use Rattle.plan.specs.Columns.{table_of}
use Rattle.plan.specs.Questions.{asked, or_else, answered}
use Rattle.plan.specs.declared.Columns.{Columns}
use Rattle.plan.specs.declared.Lettered.{Lettered}
use Rattle.plan.specs.declared.Refusal.{Refusal}
use Rattle.planfile_spec.specs.Reading.{column}
use Rattle.graft.specs.Sequence.{join_refusal, counted, part_refusal}

-- a value of cell i, n cells being the first's, and z where none is
unfoldable pub picked_of : {A : Type 0} → (z : A) → (n : ℕ) → List A → List A → ℕ → A
picked_of z n xs ys i = cond (ltb i n) (get_or xs i z) (get_or ys (i - n) z)

-- 256 values: those of the first n cells, then z
unfoldable pub column_of : {A : Type 0} → (z : A) → (ℕ → A) → ℕ → List A
column_of z f zero = replicate most_cells z
column_of z f (suc n) = set (column_of z f n) n (f n)

-- a number of it
unfoldable pub picked : (n : ℕ) → List ℕ → List ℕ → ℕ → ℕ
picked n xs ys = picked_of 0 n xs ys

-- its parent: the first's, c for the second's root, the second's raised
unfoldable pub picked_parent : (n c : ℕ) → List ℕ → List ℕ → ℕ → ℕ
picked_parent n c xs ys i = cond (ltb i n) (get_or xs i 0) (cond (eqb i n) c (n + get_or ys (i - n) 0))

-- the columns of both
unfoldable pub grafted : Columns → Columns → (c : ℕ) → Columns
grafted t u c =
    let k = t.count + u.count in
    record {
      count = k;
      parent = column (picked_parent t.count c t.parent u.parent) k;
      kind = column (picked t.count t.kind u.kind) k;
      width = column (picked t.count t.width u.width) k;
      depth = column (picked t.count t.depth u.depth) k;
      rank = column (picked t.count t.rank u.rank) k;
    }

-- what is asked, so that no sum wraps: of parents of n and k - n cells, and of two tables
pub record Hangs (us : List ℕ) (n c k : ℕ) : Type 0 where
  pub few : k ≤ most_cells
  pub first : n ≤ most_cells
  pub named : c < most_cells
  pub lower : (i : ℕ) → n < i → i < k → get_or us (i - n) 0 < most_cells

pub record Graftable (t u : Columns) (c : ℕ) : Type 0 where
  pub few : t.count + u.count ≤ most_cells
  pub named : c < t.count
  pub lower : (k : ℕ) → 1 ≤ k → k < u.count → get_or u.parent k 0 < k

-- the questions but for 11 to 13, which are put to the joined columns
unfoldable pub ready_refusal : (room : ℕ) → Table → Table → ℕ → Refusal
ready_refusal room t u c =
    or_else (asked 1 (leb most_cells room) 0) (or_else (part_refusal t) (or_else (part_refusal u) (or_else (asked 16 (ltb c (length t)) 0) (counted (length t + length u)))))

-- these columns, with the label fields of both
unfoldable pub accepted : Lettered → Lettered → Columns → Lettered
accepted t u j =
    let n = t.columns.count in
    record {
      columns = j;
      label_length = column (picked n t.label_length u.label_length) j.count;
      label_start = column (picked n t.label_start u.label_start) j.count;
    }

-- THE answer of the code, for a table of so many records
unfoldable pub graft_of : (room : ℕ) → Lettered → Lettered → ℕ → Result Lettered Refusal
graft_of room t u c = answered (join_refusal room (table_of t.columns) (table_of u.columns) c) (accepted t u (grafted t.columns u.columns c))

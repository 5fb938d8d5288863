-- The columns of a lent table, record by record, and the table that they make. Assumes nothing.
use Rattle.std.specs.Prelude.{◌≡◌, List, [], ◌∷◌, map, Bool, true, false, cond, ℕ, suc, ◌+◌, ◌≤◌, ◌<◌, ltb, length}
use Rattle.std.proofs.Math.Path.{refl}
use Rattle.std.proofs.Common.{sym, ◌∙◌, subst, zero-le, le_refl, zero-add, arith, add-one, le-ltb, ltb-false}
use Rattle.std.proofs.Math.Decide.{dec_le}
use Rattle.std.proofs.Math.ListN.{length-map}
use Rattle.plan.specs.Limits.{most_cells}
use Rattle.plan.specs.Lists.{from}
use Rattle.plan.specs.Plan.{Cell, Table}
use Rattle.plan.specs.Records.{bare, cells_of}
use Rattle.plan.specs.Columns.{table, table_of}
use Rattle.plan.proofs.Laws.Columns.{table-length, length_from}
use Rattle.plan.specs.declared.Record.{Record}
use Rattle.plan.specs.declared.Lettered.{Lettered}
use Rattle.planfile_spec.specs.Reading.{column}
use Rattle.planfile_spec.proofs.Laws.Examined.{column-at}
use Rattle.records.specs.Apart.{lent_at, columns, clipped, lent_columns, lettering, lent_lettered, row_at, records_in, blank, with_record}

-- ---- record by record
pub clipped-fits : (n : ℕ) → (clipped n ≤ n) × (clipped n ≤ most_cells)
unfolding clipped
clipped-fits n = go (ltb most_cells n) refl
  where
    go : (b : Bool) → ltb most_cells n ≡ b → (cond b 0 n ≤ n) × (cond b 0 n ≤ most_cells)
    go true e = (zero-le, zero-le)
    go false e = (le_refl n, ltb-false most_cells n e)

pub lettering-none : (t : List Record) (n : ℕ) → blank n ≡ lettering t n 0
unfolding lettering columns column
lettering-none t n = refl

pub lettering-more : (t : List Record) (n c : ℕ) → with_record (lettering t n c) c (lent_at t c) ≡ lettering t n (c + 1)
unfolding lettering columns column
lettering-more t n c = rw add-one

pub lettering-columns : (t : List Record) (count n : ℕ) → (lettering t count n).columns ≡ columns t count n
unfolding lettering
lettering-columns t count n = refl

-- ---- the table
cells_same : (g : ℕ → Cell) (k : ℕ) (t : List Record) → ((c : ℕ) → c < length t → g (k + c) ≡ bare (lent_at t c)) → map g (from k (length t)) ≡ map bare t
unfolding from
cells_same g k [] h = refl
cells_same g k (r ∷ t) h =
    let e : k + 0 ≡ k = omega arith in
    let a : g k ≡ bare r = rw e at (h 0 (omega arith)) in
    cc (a, cells_same g (suc k) t (λ c l. let e : k + suc c ≡ suc k + c = omega arith in rw e at (h (suc c) (omega arith))))

-- the columns hold the numbers of a table that is not too long
pub apart_cells : (t : List Record) → length t ≤ most_cells → table_of (lent_columns t) ≡ cells_of t
unfolding table cells_of columns clipped bare
apart_cells t h =
    rw (le-ltb most_cells (length t) h) (cells_same _ 0 t (λ c l.
    rw (zero-add, column-at (λ c. (lent_at t c).parent) _ c h l, column-at (λ c. (lent_at t c).kind) _ c h l, column-at (λ c. (lent_at t c).width) _ c h l, column-at (λ c. (lent_at t c).depth) _ c h l, column-at (λ c. (lent_at t c).rank) _ c h l)))

pub apart_length : (t : List Record) → length (table_of (lent_columns t)) ≡ length (cells_of t)
unfolding cells_of columns
apart_length t = table-length _ _ _ _ _ (length t) ∙ sym (length-map t bare)

-- what a call on the columns does, it does on the records, if tables that are too long are all one to it
pub of-records : (P : Table → Type 0) (t : List Record) → ((u v : Table) → most_cells < length u → most_cells < length v → P u → P v) → P (table_of (lent_columns t)) → P (cells_of t)
of-records P t same p = go (dec_le (length t) most_cells)
  where
    go : Dec (length t ≤ most_cells) → P (cells_of t)
    go (yes h) = subst P (apart_cells t h) p
    go (no h) =
        let e : length (cells_of t) ≡ length t = unfold cells_of in length-map t bare in
        same _ (cells_of t) (omega (arith, apart_length t)) (omega arith) p

-- ---- the records themselves
rows_same : (g : ℕ → Record) (k : ℕ) (t : List Record) → ((c : ℕ) → c < length t → g (k + c) ≡ lent_at t c) → map g (from k (length t)) ≡ t
unfolding from
rows_same g k [] h = refl
rows_same g k (r ∷ t) h =
    let e : k + 0 ≡ k = omega arith in
    let a : g k ≡ r = rw e at (h 0 (omega arith)) in
    cc (a, rows_same g (suc k) t (λ c l. let e : k + suc c ≡ suc k + c = omega arith in rw e at (h (suc c) (omega arith))))

pub apart_records : (t : List Record) → length t ≤ most_cells → records_in (lent_lettered t) ≡ t
unfolding records_in lettering columns clipped
apart_records t h =
    rw (le-ltb most_cells (length t) h) (rows_same _ 0 t (λ c l.
    rw (
      zero-add,
      column-at (λ c. (lent_at t c).parent) _ c h l,
      column-at (λ c. (lent_at t c).kind) _ c h l,
      column-at (λ c. (lent_at t c).width) _ c h l,
      column-at (λ c. (lent_at t c).depth) _ c h l,
      column-at (λ c. (lent_at t c).rank) _ c h l,
      column-at (λ c. (lent_at t c).label_length) _ c h l,
      column-at (λ c. (lent_at t c).label_start) _ c h l,
    )))

pub records-length : (l : Lettered) → length (records_in l) ≡ l.columns.count
unfolding records_in
records-length l = length_from (row_at l) 0 l.columns.count

-- what a call on the columns does, it does on the records, if runs that are too long are all one to it
pub of-lettered : (P : List Record → Type 0) (t : List Record) → ((u v : List Record) → most_cells < length u → most_cells < length v → P u → P v) → P (records_in (lent_lettered t)) → P t
of-lettered P t same p = go (dec_le (length t) most_cells)
  where
    go : Dec (length t ≤ most_cells) → P t
    go (yes h) = subst P (apart_records t h) p
    go (no h) =
        let e : (lent_lettered t).columns.count ≡ length t = unfold lettering columns in refl in
        same _ t (omega (arith, records-length (lent_lettered t))) (omega arith) p

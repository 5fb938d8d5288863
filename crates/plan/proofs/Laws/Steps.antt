-- The steps put to a table in columns. Assumes nothing.
use Rattle.std.specs.Prelude.{◌≡◌, Bool, true, false, ◌&&◌, List, ℕ, zero, suc, ◌*◌, ◌≤◌, ◌<◌, T, leb, length, get_or}
use Rattle.std.proofs.Common.{sym, ap, ◌∙◌, arith, ltb→lt, leb→le}
use Rattle.whole.proofs.Laws.Says.{both, says_le}
use Rattle.plan.specs.Questions.{lower, sized, asked, or_else, at_each}
use Rattle.plan.specs.Limits.{between, most_cells, most_width, most_depth}
use Rattle.plan.specs.Kinds.{known}
use Rattle.plan.specs.declared.Refusal.{Refusal}
use Rattle.plan.proofs.Laws.Questions.{each_same, asked_yes, both-none, each_none}
use Rattle.plan.specs.Columns.{table}
use Rattle.plan.proofs.Laws.Columns.{table-length, parent-at, kind_at, width-at, depth_at}
use Rattle.plan.specs.Steps.{cell_refusal, cells_refusal, children_refusal, levels_refusal, rows_refusal, table_refusal, counted_refusal, lent_refusal, cells_at, children_at, levels_at, rows_at}
use Rattle.plan.specs.Plan.{children, level, row}
use Rattle.plan.specs.Trees.{Lower, Flat, Short, Column}
use Rattle.plan.proofs.Laws.Trees.{row_small}

module _ (ps ks ws ds qs : List ℕ) (n : ℕ) where
  pub cells-columns : cells_refusal (table ps ks ws ds qs n) ≡ at_each (cells_at ps ks ws ds) 0 n
  unfolding cells_refusal
  cells-columns =
      rw (table-length ps ks ws ds qs n) (each_same _ (cells_at ps ks ws ds) n (λ c h.
      rw (parent-at ps ks ws ds qs n c h, kind_at ps ks ws ds qs n c h, width-at ps ks ws ds qs n c h, depth_at ps ks ws ds qs n c h)))

  pub children-columns : (ns : List ℕ) → Column ns n (λ c. length (children (table ps ks ws ds qs n) c)) → children_refusal (table ps ks ws ds qs n) ≡ at_each (children_at ks ns) 0 n
  unfolding children_refusal
  children-columns ns col =
      rw (table-length ps ks ws ds qs n) (each_same _ (children_at ks ns) n (λ c h. rw (kind_at ps ks ws ds qs n c h, col.each c h)))

  pub levels_columns : (ls : List ℕ) → Column ls n (level (table ps ks ws ds qs n)) → levels_refusal (table ps ks ws ds qs n) ≡ at_each (levels_at ls) 0 n
  unfolding levels_refusal
  levels_columns ls col = rw (table-length ps ks ws ds qs n) (each_same _ (levels_at ls) n (λ c h. rw (col.each c h)))

  pub rows-columns : (rs : List ℕ) → Column rs n (row (table ps ks ws ds qs n)) → rows_refusal (table ps ks ws ds qs n) ≡ at_each (rows_at rs ds) 0 n
  unfolding rows_refusal
  rows-columns rs col = rw (table-length ps ks ws ds qs n) (each_same _ (rows_at rs ds) n (λ c h. rw (depth_at ps ks ws ds qs n c h, col.each c h)))

-- what questions 6 to 8 establish
pub lower-read : (c p : ℕ) → 1 ≤ c → T (lower c p) → p < c
unfolding lower
lower-read zero p h t = absurd (omega arith)
lower-read (suc m) p h t = ltb→lt p (suc m) t

-- the answers at one cell, if none is no
pub record Passed (m c p k w d : ℕ) : Type 0 where
  pub is_lower : T (lower c p)
  pub is_known : T (known k)
  pub is_sized : T (sized m w d)

pub cell-passed : (m c p k w d : ℕ) → (cell_refusal m c p k w d).number ≡ 0 → Passed m c p k w d
unfolding cell_refusal
cell-passed m c p k w d e =
    let (x, r) = both-none (asked 6 (lower c p) c) _ e in
    let (y, z) = both-none (asked 7 (known k) c) _ r in
    record { is_lower = asked_yes 5 _ c x; is_known = asked_yes 6 _ c y; is_sized = asked_yes 7 _ c z }

pub and_left : (a b : Bool) → T (a && b) → T a
and_left true b h = tt
and_left false b h = h

pub and_right : (a b : Bool) → T (a && b) → T b
and_right true b h = h
and_right false b h = absurd h

pub sized-deep : (m w d : ℕ) → T (sized m w d) → (1 ≤ d) × (d ≤ most_depth)
unfolding sized
sized-deep m w d h = let k = and_right (between 1 m w) _ h in (leb→le 1 d (and_left (leb 1 d) _ k), leb→le d most_depth (and_right (leb 1 d) _ k))

pub sized-wide : (m w d : ℕ) → T (sized m w d) → (1 ≤ w) × (w ≤ m)
unfolding sized
sized-wide m w d h = let k = and_left (between 1 m w) _ h in (leb→le 1 w (and_left (leb 1 w) _ k), leb→le w m (and_right (leb 1 w) _ k))

-- a wider limit passes what a narrower one does
pub sized-within : (m k w d : ℕ) → m ≤ k → T (sized m w d) → T (sized k w d)
unfolding sized
sized-within m k w d l h =
    let (a, b) = sized-wide m w d h in
    (both (both (says_le 1 w) (says_le w k)) (both (says_le 1 d) (says_le d most_depth))).show ((a, omega arith), sized-deep m w d h)

module _ (ps ks ws ds qs : List ℕ) (n : ℕ) (e : (cells_refusal (table ps ks ws ds qs n)).number ≡ 0) where
  at-cell : (c : ℕ) → c < n → Passed most_width c (get_or ps c 0) (get_or ks c 0) (get_or ws c 0) (get_or ds c 0)
  at-cell c h = cell-passed most_width c _ _ _ _ (each_none (cells_at ps ks ws ds) n (ap (λ (r : Refusal). r.number) (sym (cells-columns ps ks ws ds qs n)) ∙ e) c h)

  pub cells-lower : 1 ≤ n → n ≤ most_cells → Lower ps n
  cells-lower a b = record { some = a; few = b; lower = λ c p h. lower-read c (get_or ps c 0) p (at-cell c h).is_lower }

  pub cells-flat : Flat ds n
  cells-flat = record { flat = λ c h. (sized-deep most_width (get_or ws c 0) (get_or ds c 0) (at-cell c h).is_sized).1 }

pub rows_short : (ps ks ws ds qs rs : List ℕ) (n : ℕ) → Lower ps n → Flat ds n → Column rs n (row (table ps ks ws ds qs n)) → Short rs n
rows_short ps ks ws ds qs rs n low flat col = record { short = λ c h. rw (col.each c h) (omega (arith, row_small ps ks ws ds qs n low flat c h, low.few)) }

pub lent_columns : (ps ks ws ds qs : List ℕ) (n p : ℕ)
    → lent_refusal (table ps ks ws ds qs n) p ≡ or_else (asked 4 (between 1 most_cells n) 0) (or_else (asked 1 (leb (2 * n) p) 0) (table_refusal (table ps ks ws ds qs n)))
unfolding lent_refusal
lent_columns ps ks ws ds qs n p = rw (table-length ps ks ws ds qs n)

pub counted-columns : (ps ks ws ds qs : List ℕ) (n : ℕ)
    → counted_refusal (table ps ks ws ds qs n) ≡ or_else (asked 4 (between 1 most_cells n) 0) (table_refusal (table ps ks ws ds qs n))
unfolding counted_refusal
counted-columns ps ks ws ds qs n = rw (table-length ps ks ws ds qs n)

-- what question 4 establishes
pub counted-read : (n : ℕ) (r : Refusal) → r ≡ asked 4 (between 1 most_cells n) 0 → r.number ≡ 0 → (1 ≤ n) × (n ≤ most_cells)
counted-read n r e z =
    let h = asked_yes 3 (between 1 most_cells n) 0 (ap (λ (x : Refusal). x.number) (sym e) ∙ z) in
    (leb→le 1 n (and_left (leb 1 n) _ h), leb→le n most_cells (and_right (leb 1 n) _ h))

-- The pass from the last cell to the first: what its loop keeps. Assumes nothing.
use mathlib.Core.Path.{◌≡◌, ap, subst}
use mathlib.Core.List.{List}
use Prim.Native.Nat.{ℕ, suc, pred, ◌+◌, ◌-◌, ◌≤◌, ◌<◌}
use native.Mathlib.Omega.{arith}
use lib.ListN.{length, get_or, set, length-set}
use Rattle.plan.specs.Limits.{most_cells}
use Rattle.plan.specs.Fit.{Fit}
use Rattle.plan.specs.Columns.{table_of}
use Rattle.spans.specs.Spans.{at, Sized}
use Rattle.spans.proofs.Laws.Columns.{all, all-long, all-at, put, sum_to, sum_suc, sum-part}
use Rattle.spans.proofs.Laws.Sizes.{Folded, folded_start, folded_next, folded_end}
use Rattle.plan.proofs.Laws.Tables.{length-is, count-some, count_few, child-of, parent_lower}
use Rattle.plan.specs.declared.Columns.{Columns}

pub record Folding (t : Columns) (c : ℕ) (size : List ℕ) : Type 0 where
  pub low : 1 ≤ c
  pub high : c ≤ t.count
  pub few : t.count ≤ most_cells
  pub size_long : length size ≡ most_cells
  pub folded : Folded (table_of t) c (t.count - c) (at size)

module _ (t : Columns) (fit : Fit (table_of t)) where
  pub folding_starts : Folding t t.count (all 1)
  folding_starts = record {
    low = count-some t fit;
    high = omega arith;
    few = count_few t fit;
    size_long = all-long 1;
    folded =
        let z : t.count - t.count ≡ 0 = omega arith in
        rw z (subst (λ (k : ℕ). Folded (table_of t) k 0 (at (all 1))) (length-is t) (folded_start (table_of t) (at (all 1)) fit.some_cell (λ c i. all-at 1 c (omega (arith, fit.not_too_many)))));
  }

  module _ {c f : ℕ} {size : List ℕ} (h : Folding t c size) (more : 1 < c) (p : f ≡ get_or t.parent (c - 1) 0) where
    f_less : f < c - 1
    f_less = omega (arith, parent_lower t fit (c - 1) (omega arith) (omega arith))

    pub size_fits : at size f + at size (c - 1) ≤ most_cells
    size_fits =
        let e : suc (c - 1) ≡ c = omega arith in
        omega (arith, h.folded.room, ap (sum_to (at size)) e, sum_suc (at size) (c - 1), sum-part (at size) (c - 1) f f_less, fit.not_too_many)

    pub folding_turns : Folding t (c - 1) (set size f (at size f + at size (c - 1)))
    folding_turns =
        let e : suc (c - 1) ≡ c = omega arith in
        let z : t.count - (c - 1) ≡ suc (t.count - c) = omega (arith, h.high) in
        record {
          low = omega arith;
          high = omega arith;
          few = h.few;
          size_long = simp length-set h.size_long;
          folded = rw z (folded_next (table_of t) f (c - 1) (t.count - c) (child-of t (c - 1) f (omega arith) (omega arith) p) f_less (rw e h.folded) (put size f _ (omega (arith, f_less))));
        }

  pub folding_ends : {c : ℕ} {size : List ℕ} → Folding t c size → c ≤ 1 → Sized (table_of t) (at size)
  folding_ends {c} h l =
      let e : c ≡ 1 = omega (arith, h.low) in
      let z : t.count - 1 ≡ pred (length (table_of t)) = omega (arith, length-is t) in
      folded_end (table_of t) (rw (e, z) at h.folded)

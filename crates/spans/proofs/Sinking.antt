-- The pass that takes the greatest number of each subtree: what its loop keeps. Assumes nothing.
use mathlib.Core.Path.{◌≡◌, subst}
use mathlib.Core.List.{List}
use Prim.Native.Nat.{ℕ, suc, ◌-◌, ◌≤◌, ◌<◌, max}
use native.Mathlib.Omega.{arith}
use lib.ListN.{length, get_or, set, length-set}
use Rattle.plan.specs.Limits.{most_cells}
use Rattle.plan.specs.Fit.{Fit}
use Rattle.plan.specs.Columns.{table_of}
use Rattle.spans.specs.Spans.{at, Deepest}
use Rattle.spans.proofs.Laws.Columns.{put}
use Rattle.spans.proofs.Laws.Deepest.{Sunk, sunk_start, sunk_next, deepest}
use Rattle.plan.proofs.Laws.Tables.{length-is, count-some, count_few, child-of, parent_lower}
use Rattle.plan.specs.declared.Columns.{Columns}

pub record Sinking (t : Columns) (bases : List ℕ) (c : ℕ) (bottoms : List ℕ) : Type 0 where
  pub low : 1 ≤ c
  pub high : c ≤ t.count
  pub few : t.count ≤ most_cells
  pub long : length bottoms ≡ most_cells
  pub sunk : Sunk (table_of t) (at bases) c (at bottoms)

module _ (t : Columns) (fit : Fit (table_of t)) where
  pub sinking_starts : (bases : List ℕ) → length bases ≡ most_cells → Sinking t bases t.count bases
  sinking_starts bases l = record {
    low = count-some t fit;
    high = omega arith;
    few = count_few t fit;
    long = l;
    sunk = subst (λ (k : ℕ). Sunk (table_of t) (at bases) k (at bases)) (length-is t) (sunk_start (table_of t) (at bases) fit.sound);
  }

  module _ {c f v : ℕ} {bases bottoms : List ℕ} (h : Sinking t bases c bottoms) (more : 1 < c) (p : f ≡ get_or t.parent (c - 1) 0) (q : v ≡ max (at bottoms f) (at bottoms (c - 1))) where
    f_less : f < c - 1
    f_less = omega (arith, parent_lower t fit (c - 1) (omega arith) (omega arith))

    pub sinking_turns : Sinking t bases (c - 1) (set bottoms f v)
    sinking_turns =
        let e : suc (c - 1) ≡ c = omega arith in
        rw q (record {
          low = omega arith;
          high = omega arith;
          few = h.few;
          long = simp length-set h.long;
          sunk =
              sunk_next (table_of t) (at bases) fit.sound f (c - 1) (child-of t (c - 1) f (omega arith) (omega arith) p) f_less (rw e h.sunk)
              (put bottoms f _ (omega (arith, f_less)));
        })

  pub sinking_ends : {c : ℕ} {bases bottoms : List ℕ} → Sinking t bases c bottoms → c ≤ 1 → Deepest (table_of t) (at bases) (at bottoms)
  sinking_ends {c} {bases} h l = let e : c ≡ 1 = omega (arith, h.low) in deepest (table_of t) (at bases) fit.sound (rw e at h.sunk)

-- What the loops that make the columns keep: those of the cells passed are made. Assumes nothing.
use mathlib.Core.Path.{◌≡◌, sym, ◌∙◌, ap}
use mathlib.Core.List.{List}
use Prim.Native.Nat.{ℕ, zero, suc, ◌+◌, ◌*◌, ◌^◌, ◌≤◌, ◌<◌}
use native.Mathlib.Nat.{add-zero}
use native.Mathlib.Omega.{arith}
use native.Mathlib.Decide.{ℕ_discrete}
use lib.ListN.{length, get_or, set, length-set}
use lib.IntN.{ℤ, pos}
use Rattle.whole.specs.Range.{InRange}
use Rattle.plan.specs.Limits.{farthest, most_cells, most_width, most_depth}
use Rattle.plan.specs.Plan.{parent, kind, appointed, box_width, box_depth, Child}
use Rattle.plan.specs.Fit.{Fit}
use Rattle.plan.specs.Near.{Near}
use Rattle.plan.specs.Columns.{table_of}
use Rattle.plan.specs.Trees.{Column}
use Rattle.spans.specs.Spans.{at}
use Rattle.spans.proofs.Laws.Columns.{all, all-long, Put, put}
use Rattle.plan.proofs.Laws.Tables.{length-is, parent_is, kind-is, width_is, depth_is, parent_lower, count-some, count_few}
use Rattle.looking_columns.specs.Columns.{Short, Due}
use Rattle.plan.specs.declared.Columns.{Columns}

-- ---- a column, cell by cell
pub made_none : (f : ℕ → ℕ) → Column (all 0) 0 f
made_none f = record { long = all-long 0; each = λ c h. absurd (omega arith) }

pub made-next : {xs : List ℕ} {c : ℕ} {f : ℕ → ℕ} (v : ℕ) → Column xs c f → c < most_cells → v ≡ f c → Column (set xs c v) (c + 1) f
made-next {xs} {c} {f} v h l e = record { long = simp length-set h.long; each = λ i k. go i k (ℕ_discrete i c) }
  where
    p : Put (at xs) (at (set xs c v)) c v
    p = put xs c v (omega (arith, h.long))

    go : (i : ℕ) → i < c + 1 → Dec (i ≡ c) → at (set xs c v) i ≡ f i
    go i k (yes q) = rw q (p.here ∙ e)
    go i k (no q) = p.off i q ∙ h.each i (omega arith)

pub made_all : {xs : List ℕ} {c : ℕ} {f : ℕ → ℕ} (n : ℕ) → Column xs c f → c ≤ n → n ≤ c → Column xs n f
made_all {c = c} n h l k = let e : c ≡ n = omega arith in rw e at h

-- ---- coordinates, moved up
pub within-at : (ps : List ℤ) (n c o : ℕ) → Near ps n → c < n → o ≤ 1 → InRange farthest (get_or ps (2 * c + o) (pos 0))
within-at ps n c zero h l k = rw add-zero (h.x c l)
within-at ps n c (suc zero) h l k = h.y c l
within-at ps n c (suc (suc o)) h l k = absurd (omega arith)

-- ---- boxes
pub record Edging (t : Columns) (x y : List ℕ) (c : ℕ) (right base : List ℕ) : Type 0 where
  pub high : c ≤ t.count
  pub few : t.count ≤ most_cells
  pub rights : Column right c (λ i. at x i + box_width (table_of t) i)
  pub bases : Column base c (λ i. at y i + box_depth (table_of t) i)

module _ (t : Columns) (fit : Fit (table_of t)) (x y : List ℕ) where
  pub edging_starts : Edging t x y 0 (all 0) (all 0)
  edging_starts = record { high = omega arith; few = count_few t fit; rights = made_none _; bases = made_none _ }

  pub edging_turns : {c v w : ℕ} {right base : List ℕ} → Edging t x y c right base → c < t.count → v ≡ get_or t.width c 0 → w ≡ get_or t.depth c 0
      → Edging t x y (c + 1) (set right c (at x c + v)) (set base c (at y c + w))
  edging_turns {c} {v} {w} h l e f = record {
    high = omega arith;
    few = h.few;
    rights = made-next (at x c + v) h.rights (omega (arith, h.few)) (omega (arith, e, width_is t c l));
    bases = made-next (at y c + w) h.bases (omega (arith, h.few)) (omega (arith, f, depth_is t c l));
  }

  pub wide_low : {c v : ℕ} → c < t.count → v ≡ get_or t.width c 0 → v ≤ most_width
  wide_low {c} l e = omega (arith, e, width_is t c l, (fit.wide c (omega (arith, length-is t))).1)

  pub deep_low : {c v : ℕ} → c < t.count → v ≡ get_or t.depth c 0 → v ≤ most_depth
  deep_low {c} l e = omega (arith, e, depth_is t c l, (fit.deep c (omega (arith, length-is t))).1)

-- ---- the rows that S1 asks
pub record Duing (t : Columns) (base : List ℕ) (c : ℕ) (due : List ℕ) : Type 0 where
  pub low : 1 ≤ c
  pub high : c ≤ t.count
  pub few : t.count ≤ most_cells
  pub long : length due ≡ most_cells
  pub root : at due 0 ≡ farthest
  pub each : (i f : ℕ) → Child (table_of t) f i → i < c → at due i ≡ at base f + 1

module _ (t : Columns) (fit : Fit (table_of t)) (base : List ℕ) where
  pub duing_starts : Duing t base 1 (set (all 0) 0 farthest)
  duing_starts = record {
    low = omega arith;
    high = count-some t fit;
    few = count_few t fit;
    long = simp length-set (all-long 0);
    root = (put (all 0) 0 farthest (omega (arith, all-long 0))).here;
    each = λ i f o h. absurd (omega (arith, o.low));
  }

  pub duing_turns : {c f : ℕ} {due : List ℕ} → Duing t base c due → c < t.count → f ≡ get_or t.parent c 0 → Duing t base (c + 1) (set due c (at base f + 1))
  duing_turns {c} {f} {due} h l e = record {
    low = omega arith;
    high = omega arith;
    few = h.few;
    long = simp length-set h.long;
    root = p.off 0 (omega (arith, h.low)) ∙ h.root;
    each = λ i g o k. go i g o k (ℕ_discrete i c);
  }
    where
      p : Put (at due) (at (set due c (at base f + 1))) c (at base f + 1)
      p = put due c (at base f + 1) (omega (arith, h.long, h.few))

      go : (i g : ℕ) → Child (table_of t) g i → i < c + 1 → Dec (i ≡ c) → at (set due c (at base f + 1)) i ≡ at base g + 1
      go i g o k (yes q) =
          let same : f ≡ g = e ∙ sym (parent_is t c l) ∙ ap (parent (table_of t)) (sym q) ∙ o.of in
          rw (q, ← same) p.here
      go i g o k (no q) = p.off i q ∙ h.each i g o (omega arith)

  pub duing_ends : {c : ℕ} {due : List ℕ} → Duing t base c due → t.count ≤ c → Due (table_of t) (at base) (at due)
  duing_ends {c} h l = record { root = h.root; each = λ i f o. h.each i f o (omega (arith, o.is, length-is t)) }

  pub base_low : {c f : ℕ} → Short base t.count → 1 ≤ c → c < t.count → f ≡ get_or t.parent c 0 → at base f < 2 ^ 30
  base_low {c} {f} h k l e = h.short f (omega (arith, e, parent_lower t fit c k l))

-- ---- parents and appointed children
pub record Heading (t : Columns) (many : List ℕ) (c : ℕ) (parents middle : List ℕ) : Type 0 where
  pub high : c ≤ t.count
  pub few : t.count ≤ most_cells
  pub heads : Column parents c (parent (table_of t))
  pub middles : Column middle c (λ i. appointed (kind (table_of t) i) (at many i))

module _ (t : Columns) (fit : Fit (table_of t)) (many : List ℕ) where
  pub heading_starts : Heading t many 0 (all 0) (all 0)
  heading_starts = record { high = omega arith; few = count_few t fit; heads = made_none _; middles = made_none _ }

  pub heading_turns : {c v w : ℕ} {parents middle : List ℕ} → Heading t many c parents middle → c < t.count → v ≡ get_or t.parent c 0
      → w ≡ appointed (get_or t.kind c 0) (at many c) → Heading t many (c + 1) (set parents c v) (set middle c w)
  heading_turns {c} {v} {w} h l e f = record {
    high = omega arith;
    few = h.few;
    heads = made-next v h.heads (omega (arith, h.few)) (e ∙ sym (parent_is t c l));
    middles = made-next w h.middles (omega (arith, h.few)) (f ∙ ap (λ (k : ℕ). appointed k (at many c)) (sym (kind-is t c l)));
  }

-- Laws of the definitions in specs/Corners.antt: the least x is the x of a cell and no x is less; from the code's natural numbers to whole ones. Assumes nothing.
use Rattle.std.specs.Prelude.{◌≡◌, refl, List, Bool, true, false, cond, length, ℤ, ◌+ℤ◌, ◌-ℤ◌, ◌≤ℤ◌}
use Rattle.std.proofs.Common.{sym}
use Prim.Native.Nat.{ℕ, suc, ◌+◌, ◌*◌, ◌-◌, ◌≤◌, ◌<◌, min}
use native.Mathlib.Omega.{arith}
use Rattle.std.proofs.Math.ListN.{get_or}
use Rattle.std.proofs.Math.IntN.{pos}
use Rattle.std.specs.Int.Signed.{le_z}
use Rattle.whole.proofs.Laws.Whole.{whole, not_le, sum, diff, neg-plus, neg-minus}
use Rattle.whole.proofs.Laws.Says.{says_le_z, holds, fails}
use Rattle.whole.specs.Bias.{bias}
use Rattle.whole.specs.Range.{InRange}
use Rattle.plan.specs.Limits.{farthest, most_cells}
use Rattle.plan.specs.Lists.{from}
use Rattle.plan.proofs.Laws.Lists.{from_show, from-read}
use Rattle.plan.specs.Plan.{Table, Is, cells}
use Rattle.plan.specs.Near.{Near}
use Rattle.plan.specs.Columns.{table_of}
use Rattle.plan.proofs.Laws.Tables.{length-is}
use Rattle.plan.specs.declared.Columns.{Columns}
use Rattle.rules.specs.Placement.{Placement, placed, lesser, best, least}
use Rattle.rules.proofs.Laws.Extremes.{least-all, least-one}
use Rattle.corners.specs.Corners.{left, x_up, Spot, Leftmost}

-- ---- the least x: no cell has a lesser one, and some cell has it
pub left-least : (t : Table) (p : Placement) (c : ℕ) → Is t c → left t p ≤ℤ p.x c
unfolding left cells
left-least t p c i = least-all p.x (p.x 0) (from 0 (length t)) c (from_show 0 (length t) c (omega arith) (omega arith))

-- a cell with x z
pub record Reached (t : Table) (p : Placement) (z : ℤ) : Type 0 where
  pub cell : ℕ
  pub of : Is t cell
  pub there : z ≡ p.x cell

pub left-reached : (t : Table) (p : Placement) → 1 ≤ length t → Reached t p (left t p)
unfolding left cells
left-reached t p h =
    least-one p.x (p.x 0) (from 0 (length t)) (Reached t p) (record { cell = 0; of = omega arith; there = refl })
    (λ a m. record { cell = a; of = omega (arith, from-read 0 (length t) a m); there = refl })

-- ---- moved up, moved on, and moved back
module _ (z : ℤ) (w : InRange farthest z) where
  pub moved-is : (by : ℕ) → pos (bias farthest z + by) -ℤ pos farthest ≡ z +ℤ pos by
  moved-is by = omega (whole, w.low, neg-plus (pos farthest), neg-minus (pos farthest), diff (pos (bias farthest z + by)) (pos farthest), sum z (pos by))

  pub back_is : pos (bias farthest z) -ℤ pos farthest ≡ z
  back_is = omega (whole, w.low, neg-plus (pos farthest), neg-minus (pos farthest), diff (pos (bias farthest z)) (pos farthest))

  pub bias_low : bias farthest z ≤ farthest + farthest
  bias_low = omega (whole, w.high)

  -- less the least x, both moved up
  pub across-is : (l : ℕ) → pos (bias farthest z) -ℤ pos l ≡ z -ℤ (pos l -ℤ pos farthest)
  across-is l =
      omega (whole, w.low, neg-plus (pos farthest), neg-minus (pos farthest), diff (pos (bias farthest z)) (pos l), diff (pos l) (pos farthest), diff z (pos l -ℤ pos farthest))

  pub across-moved : (l by : ℕ) → pos (bias farthest z + by) -ℤ pos l ≡ z +ℤ pos by -ℤ (pos l -ℤ pos farthest)
  across-moved l by =
      omega (whole, w.low, neg-plus (pos farthest), neg-minus (pos farthest), diff (pos (bias farthest z + by)) (pos l), diff (pos l) (pos farthest), sum z (pos by), diff (z +ℤ pos by) (pos l -ℤ pos farthest))

-- ---- the loop that finds the least x
abbrev lowered : ℕ → ℤ
lowered r = pos r -ℤ pos farthest

lesser-is : (r : ℕ) (z : ℤ) → InRange farthest z → lesser (lowered r) z ≡ lowered (min r (bias farthest z))
lesser-is r z w = go (le_z (lowered r) z) refl
  where
    go : (b : Bool) → le_z (lowered r) z ≡ b → cond b (lowered r) z ≡ lowered (min r (bias farthest z))
    go true e =
        let h : lowered r ≤ℤ z = holds (says_le_z (lowered r) z) e in
        let m : min r (bias farthest z) ≡ r = omega (whole, back_is z w, diff (pos r) (pos farthest), diff (pos (bias farthest z)) (pos farthest)) in
        rw m
    go false e =
        let h = not_le (fails (says_le_z (lowered r) z) e) in
        let m : min r (bias farthest z) ≡ bias farthest z = omega (whole, back_is z w, diff (pos r) (pos farthest), diff (pos (bias farthest z)) (pos farthest)) in
        rw m (sym (back_is z w))

-- c of n cells seen, and low their least x moved up
pub record Lowering (ps : List ℤ) (n c low : ℕ) : Type 0 where
  pub small : low ≤ farthest + farthest
  pub goes_on : least (placed ps).x (lowered low) (from c (n - c)) ≡ least (placed ps).x ((placed ps).x 0) (from 0 n)

module _ (ps : List ℤ) (n : ℕ) (near : Near ps n) where
  pub lowering_starts : 1 ≤ n → (r : ℕ) → r ≡ bias farthest (get_or ps 0 (pos 0)) → Lowering ps n 0 r
  unfolding placed
  lowering_starts h r e =
      let w : InRange farthest (get_or ps 0 (pos 0)) = near.x 0 h in
      let k : n - 0 ≡ n = omega arith in
      record { small = rw e (bias_low _ w); goes_on = rw (e, k, back_is (get_or ps 0 (pos 0)) w) }

  pub lowering_turns : {c low : ℕ} → Lowering ps n c low → c < n → (v r : ℕ) → v ≡ bias farthest (get_or ps (2 * c) (pos 0)) → r ≡ min low v → Lowering ps n (c + 1) r
  unfolding placed best from
  lowering_turns {c} {low} l h v r e m =
      let w : InRange farthest (get_or ps (2 * c) (pos 0)) = near.x c h in
      let k : n - c ≡ suc (n - (c + 1)) = omega arith in
      let q : suc c ≡ c + 1 = omega arith in
      record { small = omega (arith, l.small); goes_on = rw (m, e, ← lesser-is low (get_or ps (2 * c) (pos 0)) w) (rw (k, q) at l.goes_on) }

  pub lowering_ends : {c low : ℕ} → Lowering ps n c low → n ≤ c → Leftmost ps n low
  unfolding from best
  lowering_ends {c} {low} l h =
      let k : n - c ≡ 0 = omega arith in
      record { low = l.small; is = rw k at l.goes_on }

  -- ---- what the code's least x is good for
  pub spot : (c : ℕ) → n ≤ most_cells → c < n → Spot ps c
  spot c few h = record { few = omega arith; there = omega (arith, near.room); x = near.x c h; y = near.y c h }

  pub left_low : (l : ℕ) → Leftmost ps n l → (a : ℕ) → a < n → l ≤ x_up ps a
  unfolding placed
  left_low l lm a h =
      let k : least (placed ps).x ((placed ps).x 0) (from 0 n) ≤ℤ get_or ps (2 * a) (pos 0) = least-all (placed ps).x ((placed ps).x 0) (from 0 n) a (from_show 0 n a (omega arith) (omega arith)) in
      let e = lm.is in
      let b = back_is (get_or ps (2 * a) (pos 0)) (near.x a h) in
      let m : (pos l -ℤ pos farthest) ≤ℤ (pos (x_up ps a) -ℤ pos farthest) = rw (e, b) k in
      omega (whole, diff (pos l) (pos farthest), diff (pos (x_up ps a)) (pos farthest))

pub left_is : (t : Columns) (ps : List ℤ) (l : ℕ) → Leftmost ps t.count l → left (table_of t) (placed ps) ≡ pos l -ℤ pos farthest
unfolding left cells
left_is t ps l lm = rw (length-is t) (sym lm.is)

-- Laws of the definitions in specs/Strokes.antt: how many strokes there are, and which is number s. Assumes nothing.
use Rattle.std.specs.Prelude.{◌≡◌, List}
use Rattle.std.proofs.Math.Path.{refl, ap}
use Rattle.std.proofs.Common.{◌∙◌}
use Prim.Native.Nat.{ℕ, zero, suc, pred, ◌+◌, ◌*◌, ◌-◌, ◌/◌, ◌%◌, ◌≤◌, ◌<◌}
use native.Mathlib.Omega.{arith}
use Rattle.std.proofs.Math.ListN.{length, get_or, length-append, get_or-append}
use Rattle.std.proofs.Math.Seq.{get_or-append-add}
use Rattle.plan.specs.Lists.{from}
use Rattle.plan.specs.Plan.{Table, cells}
use Rattle.rules.specs.Placement.{Placement}
use Rattle.plan.specs.declared.Page.{Page}
use Rattle.pen.specs.declared.Stroke.{Stroke}
use Rattle.ends.specs.Ended.{joined}
use Rattle.pen.specs.Strokes.{each, box_strokes, from_end_to_end, connector_strokes, strokes}

-- ---- lists of one length, one after the other
module _ (f : ℕ → List Stroke) (m : ℕ) (long : (a : ℕ) → length (f a) ≡ m) where
  each-length : (k d : ℕ) → length (each f (from k d)) ≡ d * m
  unfolding each from
  each-length k zero = let e : 0 ≡ 0 * m = omega arith in e
  each-length k (suc d) =
      let e : suc d * m ≡ m + d * m = omega arith in
      length-append (f k) (each f (from (suc k) d)) ∙ rw (long k, each-length (suc k) d, e)

  each_at : (z : Stroke) (k d i j : ℕ) → i < d → j < m → get_or (each f (from k d)) (i * m + j) z ≡ get_or (f (k + i)) j z
  unfolding each from
  each_at z k zero i j h l = absurd (omega arith)
  each_at z k (suc d) zero j h l =
      let e : 0 * m + j ≡ j = omega arith in
      let g : k + 0 ≡ k = omega arith in
      let q : j < length (f k) = omega (arith, long k) in
      rw (e, g) (get_or-append (f k) (each f (from (suc k) d)) z j q)
  each_at z k (suc d) (suc i) j h l =
      let e : suc i * m + j ≡ length (f k) + (i * m + j) = omega (arith, long k) in
      let g : k + suc i ≡ suc k + i = omega arith in
      rw (e, g) (get_or-append-add (f k) (each f (from (suc k) d)) (i * m + j) z ∙ each_at z (suc k) d i j (omega arith) l)

module _ (t : Table) (p : Placement) (g : Page) where
  box-long : (a : ℕ) → length (box_strokes t p g a) ≡ 6
  unfolding box_strokes
  box-long a = refl

  connector_long : (a : ℕ) → length (connector_strokes t p g a) ≡ 3
  unfolding connector_strokes from_end_to_end joined
  connector_long a = refl

  boxes_length : length (each (box_strokes t p g) (cells t)) ≡ length t * 6
  unfolding cells
  boxes_length = each-length (box_strokes t p g) 6 box-long 0 (length t)

  -- "so a sheet of n cells has 9n − 3 strokes"
  pub strokes-length : 1 ≤ length t → length (strokes t p g) ≡ 9 * length t - 3
  unfolding strokes cells
  strokes-length h =
      let e : pred (length t) ≡ length t - 1 = omega arith in
      length-append (each (box_strokes t p g) (cells t)) (each (connector_strokes t p g) (from 1 (pred (length t))))
      ∙ rw (boxes_length, each-length (connector_strokes t p g) 3 connector_long 1 (pred (length t)), e) (omega arith)

  -- number s is one of box s / 6, or one of the connector of cell 1 + (s − 6n) / 3
  pub box-number : (z : Stroke) (s : ℕ) → s < 6 * length t → get_or (strokes t p g) s z ≡ get_or (box_strokes t p g (s / 6)) (s % 6) z
  unfolding strokes cells
  box-number z s h =
      let e : s / 6 * 6 + s % 6 ≡ s = omega arith in
      let q : 0 + s / 6 ≡ s / 6 = omega arith in
      let l : s < length (each (box_strokes t p g) (cells t)) = omega (arith, boxes_length) in
      get_or-append (each (box_strokes t p g) (cells t)) (each (connector_strokes t p g) (from 1 (pred (length t)))) z s l
      ∙ (rw (e, q) at (each_at (box_strokes t p g) 6 box-long z 0 (length t) (s / 6) (s % 6) (omega arith) (omega arith)))

  pub connector_number : (z : Stroke) (s : ℕ) → 6 * length t ≤ s → s < 9 * length t - 3
      → get_or (strokes t p g) s z ≡ get_or (connector_strokes t p g (1 + (s - 6 * length t) / 3)) ((s - 6 * length t) % 3) z
  unfolding strokes cells
  connector_number z s h k =
      let r = s - 6 * length t in
      let e : s ≡ length (each (box_strokes t p g) (cells t)) + (r / 3 * 3 + r % 3) = omega (arith, boxes_length) in
      let m : pred (length t) ≡ length t - 1 = omega arith in
      ap (λ (i : ℕ). get_or (strokes t p g) i z) e
      ∙ get_or-append-add (each (box_strokes t p g) (cells t)) (each (connector_strokes t p g) (from 1 (pred (length t)))) (r / 3 * 3 + r % 3) z
      ∙ each_at (connector_strokes t p g) 3 connector_long z 1 (pred (length t)) (r / 3) (r % 3) (omega arith) (omega arith)

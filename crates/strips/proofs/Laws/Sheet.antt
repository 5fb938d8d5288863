-- From the boxes, as the code has them, to the strip of a sheet. Assumes nothing.
use Rattle.std.specs.Prelude.{◌≡◌, refl, List, Bool, false, ℕ, zero, suc, ◌+◌, ◌*◌, ◌-◌, ◌≤◌, ◌<◌, length, ℤ, pos, ◌+ℤ◌, ◌-ℤ◌}
use Rattle.std.proofs.Common.{sym, arith}
use Rattle.std.proofs.Math.ListN.{get_or}
use Rattle.std.specs.Int.Signed.{le_z}
use Rattle.whole.proofs.Laws.Whole.{whole, sum, diff, neg-plus, neg-minus}
use Rattle.whole.specs.Says.{Says, eq_z}
use Rattle.whole.proofs.Laws.Says.{that_is, both, either, says_le_z, says_eq_z, same_test}
use Rattle.whole.specs.Bias.{bias}
use Rattle.whole.specs.Range.{InRange}
use Rattle.plan.specs.declared.Columns.{Columns}
use Rattle.plan.specs.Limits.{farthest}
use Rattle.plan.specs.Lists.{some, from}
use Rattle.plan.specs.Plan.{cells}
use Rattle.plan.specs.Near.{Near}
use Rattle.plan.specs.Columns.{table_of}
use Rattle.plan.proofs.Laws.Tables.{length-is, width_is, depth_is}
use Rattle.rules.specs.Placement.{placed, right, base}
use Rattle.corners.specs.Corners.{left, x_up, y_up, Leftmost}
use Rattle.corners.proofs.Laws.Corners.{left_low, left_is}
use Rattle.raster.specs.Points.{on_box, printed, dot}
use Rattle.raster.specs.Strip.{strip_of}
use Rattle.strips.proofs.Laws.Paint.{painted_same, painted_bytes}
use Rattle.strips.specs.Picture.{Picture, Painted, Paints, cell_in}
use Rattle.strips.proofs.Laws.Edges.{says_edge, some_more}

-- ---- the boundary of one box: each test over whole numbers says what the test over natural numbers says
module _ (X : ℤ) (wx : InRange farthest X) (l : ℕ) (low : l ≤ bias farthest X) (L : ℤ) (is : L ≡ pos l -ℤ pos farthest) (w c : ℕ) where
  at_x : Says (eq_z (L +ℤ pos c) X) (c ≡ bias farthest X - l)
  at_x =
      that_is (says_eq_z (L +ℤ pos c) X)
      (λ q. omega (whole, wx.low, sum L (pos c), diff (pos l) (pos farthest), neg-plus (pos farthest), neg-minus (pos farthest)))
      (λ q. omega (whole, wx.low, sum L (pos c), diff (pos l) (pos farthest), neg-plus (pos farthest), neg-minus (pos farthest)))

  at_right : Says (eq_z (L +ℤ pos c) (X +ℤ pos w)) (c ≡ bias farthest X - l + w)
  at_right =
      that_is (says_eq_z (L +ℤ pos c) (X +ℤ pos w))
      (λ q. omega (whole, wx.low, sum L (pos c), sum X (pos w), diff (pos l) (pos farthest), neg-plus (pos farthest), neg-minus (pos farthest)))
      (λ q. omega (whole, wx.low, sum L (pos c), sum X (pos w), diff (pos l) (pos farthest), neg-plus (pos farthest), neg-minus (pos farthest)))

  from-x : Says (le_z X (L +ℤ pos c)) (bias farthest X - l ≤ c)
  from-x =
      that_is (says_le_z X (L +ℤ pos c))
      (λ q. omega (whole, wx.low, sum L (pos c), diff (pos l) (pos farthest), neg-plus (pos farthest), neg-minus (pos farthest)))
      (λ q. omega (whole, wx.low, sum L (pos c), diff (pos l) (pos farthest), neg-plus (pos farthest), neg-minus (pos farthest)))

  to_right : Says (le_z (L +ℤ pos c) (X +ℤ pos w)) (c ≤ bias farthest X - l + w)
  to_right =
      that_is (says_le_z (L +ℤ pos c) (X +ℤ pos w))
      (λ q. omega (whole, wx.low, sum L (pos c), sum X (pos w), diff (pos l) (pos farthest), neg-plus (pos farthest), neg-minus (pos farthest)))
      (λ q. omega (whole, wx.low, sum L (pos c), sum X (pos w), diff (pos l) (pos farthest), neg-plus (pos farthest), neg-minus (pos farthest)))

module _ (Y : ℤ) (wy : InRange farthest Y) (d row : ℕ) where
  at_y : Says (eq_z (pos row) Y) (row + farthest ≡ bias farthest Y)
  at_y =
      that_is (says_eq_z (pos row) Y)
      (λ q. omega (whole, wy.low, neg-plus (pos farthest), neg-minus (pos farthest)))
      (λ q. omega (whole, wy.low, neg-plus (pos farthest), neg-minus (pos farthest)))

  at_base : Says (eq_z (pos row) (Y +ℤ pos d)) (row + farthest ≡ bias farthest Y + d)
  at_base =
      that_is (says_eq_z (pos row) (Y +ℤ pos d))
      (λ q. omega (whole, wy.low, sum Y (pos d), neg-plus (pos farthest), neg-minus (pos farthest)))
      (λ q. omega (whole, wy.low, sum Y (pos d), neg-plus (pos farthest), neg-minus (pos farthest)))

  from-y : Says (le_z Y (pos row)) (bias farthest Y ≤ row + farthest)
  from-y =
      that_is (says_le_z Y (pos row))
      (λ q. omega (whole, wy.low, neg-plus (pos farthest), neg-minus (pos farthest)))
      (λ q. omega (whole, wy.low, neg-plus (pos farthest), neg-minus (pos farthest)))

  to_base : Says (le_z (pos row) (Y +ℤ pos d)) (row + farthest ≤ bias farthest Y + d)
  to_base =
      that_is (says_le_z (pos row) (Y +ℤ pos d))
      (λ q. omega (whole, wy.low, sum Y (pos d), neg-plus (pos farthest), neg-minus (pos farthest)))
      (λ q. omega (whole, wy.low, sum Y (pos d), neg-plus (pos farthest), neg-minus (pos farthest)))

some_same : (f g : ℕ → Bool) (k d : ℕ) → ((a : ℕ) → k ≤ a → a < k + d → f a ≡ g a) → some f (from k d) ≡ some g (from k d)
unfolding some from
some_same f g k zero h = refl
some_same f g k (suc d) h = rw (h k (omega arith) (omega arith), some_same f g (suc k) d (λ a p q. h a (omega arith) (omega arith)))

module _ (t : Columns) (ps : List ℤ) (near : Near ps t.count) (l : ℕ) (lm : Leftmost ps t.count l) (row first : ℕ) where
  box-is : (i j a : ℕ) → a < t.count
      → cell_in first (row + farthest) l t.width t.depth ps a i j ≡ on_box (table_of t) (placed ps) (left (table_of t) (placed ps) +ℤ pos (first + (8 * i + j))) (pos row) a
  unfolding on_box right base placed
  box-is i j a h =
      let c = first + (8 * i + j) in
      let L = left (table_of t) (placed ps) in
      let X = get_or ps (2 * a) (pos 0) in
      let Y = get_or ps (2 * a + 1) (pos 0) in
      let wx = near.x a h in
      let wy = near.y a h in
      let low = left_low ps t.count near l lm a h in
      let lis = left_is t ps l lm in
      rw (width_is t a h, depth_is t a h)
      (same_test (says_edge (x_up ps a - l) (y_up ps a) (get_or t.width a 0) (get_or t.depth a 0) c (row + farthest))
      (either
      (both (either (at_x X wx l low L lis (get_or t.width a 0) c) (at_right X wx l low L lis (get_or t.width a 0) c)) (both (from-y Y wy (get_or t.depth a 0) row) (to_base Y wy (get_or t.depth a 0) row)))
      (both (either (at_y Y wy (get_or t.depth a 0) row) (at_base Y wy (get_or t.depth a 0) row)) (both (from-x X wx l low L lis (get_or t.width a 0) c) (to_right X wx l low L lis (get_or t.width a 0) c)))))

-- ---- the boxes of the cells before c are in the picture
pub record Drawing (t : Columns) (ps : List ℤ) (l first row n : ℕ) (bs : List ℕ) (c : ℕ) : Type 0 where
  pub few : c ≤ t.count
  pub shows : Painted bs n (λ i j. some (λ a. cell_in first row l t.width t.depth ps a i j) (from 0 c))

module _ (t : Columns) (ps : List ℤ) (l first row n : ℕ) where
  pub drawing-starts : {bs : List ℕ} → Painted bs n (λ i j. false) → Drawing t ps l first row n bs 0
  unfolding some from
  drawing-starts p = record { few = omega arith; shows = p }

  pub drawing-turns : {bs cs : List ℕ} {c : ℕ} → Drawing t ps l first row n bs c → c < t.count → Paints bs cs (cell_in first row l t.width t.depth ps c) → Drawing t ps l first row n cs (c + 1)
  drawing-turns {c = c} p h q =
      let z : 0 + c ≡ c = omega arith in
      let s : c + 1 ≡ suc c = omega arith in
      record {
        few = omega arith;
        shows = painted_same (q.adds n _ p.shows) (λ i j k m. rw s (rw z at (some_more (λ a. cell_in first row l t.width t.depth ps a i j) 0 c)));
      }

pub drawing-ends : (t : Columns) (ps : List ℤ) → Near ps t.count → (l first row n : ℕ) → Leftmost ps t.count l → {bs : List ℕ} {c : ℕ}
    → Drawing t ps l first (row + farthest) n bs c → t.count ≤ c → bs ≡ strip_of (table_of t) (placed ps) row first n
unfolding strip_of dot printed cells
drawing-ends t ps near l first row n lm {bs} {c} p h =
    let e : c ≡ t.count = omega (arith, p.few) in
    painted_bytes (dot (table_of t) (placed ps) row) first
    (painted_same p.shows (λ i j k m. rw (e, length-is t) (some_same _ _ 0 t.count (λ a u v. box-is t ps near l lm row first i j a (omega arith)))))

-- the same, from the numbers that the code has
pub drawing-done : (t : Columns) (ps : List ℤ) → Near ps t.count → (l first row n f r m : ℕ) → f ≡ first → r ≡ row → n ≡ m → Leftmost ps t.count l → {bs : List ℕ} {c : ℕ}
    → Drawing t ps l f (r + farthest) n bs c → t.count ≤ c → bs ≡ strip_of (table_of t) (placed ps) row first m
drawing-done t ps near l first row n f r m ef er en lm {bs} {c} p h =
    let q : Drawing t ps l first (row + farthest) m bs c = rw (ef, er, en) at p in drawing-ends t ps near l first row m lm q h

pub painted_long : {bs : List ℕ} {n : ℕ} {F : Picture} → Painted bs n F → Painted bs (length bs) F
painted_long p = rw (sym p.long) at p

-- Width and rows, measured cell by cell. Assumes nothing.
use Rattle.std.specs.Prelude.{◌≡◌, List, ℕ, ◌+◌, ◌-◌, ◌≤◌, ◌<◌, min, max, length, ◌+ℤ◌, ◌≤ℤ◌}
use Rattle.std.proofs.Math.Path.{refl}
use Rattle.std.proofs.Common.{ap, arith}
use Rattle.std.proofs.Math.Decide.{dec_lt}
use Rattle.std.proofs.Math.ListN.{get_or}
use Rattle.std.proofs.Math.IntN.{pos}
use Rattle.whole.proofs.Laws.Whole.{whole, sum}
use Rattle.plan.specs.Limits.{farthest}
use Rattle.plan.specs.Lists.{peak}
use Rattle.plan.proofs.Laws.Lists.{peak-all, peak-one}
use Rattle.plan.specs.Plan.{Table, Is, Sound, box_width, box_depth, row, dictated_bottom, subtree}
use Rattle.plan.proofs.Laws.Plan.{subtree-read, subtree_show}
use Rattle.plan.proofs.Laws.Paths.{below_root, below-within}
use Rattle.plan.specs.Columns.{table}
use Rattle.plan.proofs.Laws.Columns.{table-length, width-at, depth_at}
use Rattle.plan.specs.Trees.{Column}
use Rattle.rules.specs.Placement.{Placement, right, width}
use Rattle.rules.proofs.Laws.Extents.{width_le, width_ge}
use Rattle.positions.specs.Raised.{Raised}

-- m is the greatest of the f of the cells before k
pub record Greatest (f : ℕ → ℕ) (k m : ℕ) : Type 0 where
  pub all : (c : ℕ) → c < k → f c ≤ m
  pub at : ℕ
  pub before : at < k
  pub is : f at ≡ m

pub record Smallest (f : ℕ → ℕ) (k m : ℕ) : Type 0 where
  pub all : (c : ℕ) → c < k → m ≤ f c
  pub at : ℕ
  pub before : at < k
  pub is : f at ≡ m

module _ (f : ℕ → ℕ) where
  only : (c : ℕ) → c < 1 → f c ≡ f 0
  only c h = let e : c ≡ 0 = omega arith in ap f e

  pub greatest-one : Greatest f 1 (f 0)
  greatest-one = record { all = λ c h. omega (arith, only c h); at = 0; before = omega arith; is = refl }

  pub smallest_one : Smallest f 1 (f 0)
  smallest_one = record { all = λ c h. omega (arith, only c h); at = 0; before = omega arith; is = refl }

  module _ (k m : ℕ) where
    last : (P : ℕ → Type 0) → ((c : ℕ) → c < k → P (f c)) → P (f k) → (c : ℕ) → c < k + 1 → P (f c)
    last P h e c l = go (dec_lt c k)
      where
        go : Dec (c < k) → P (f c)
        go (yes d) = h c d
        go (no d) = let z : c ≡ k = omega arith in rw z e

    pub greatest-more : Greatest f k m → Greatest f (k + 1) (max m (f k))
    greatest-more g = go (dec_lt m (f k))
      where
        up : (c : ℕ) → c < k + 1 → f c ≤ max m (f k)
        up = last (λ v. v ≤ max m (f k)) (λ c h. omega (arith, g.all c h)) (omega arith)

        go : Dec (m < f k) → Greatest f (k + 1) (max m (f k))
        go (yes d) = record { all = up; at = k; before = omega arith; is = omega arith }
        go (no d) = record { all = up; at = g.at; before = omega (arith, g.before); is = omega (arith, g.is) }

    pub smallest_more : Smallest f k m → Smallest f (k + 1) (min m (f k))
    smallest_more g = go (dec_lt m (f k))
      where
        up : (c : ℕ) → c < k + 1 → min m (f k) ≤ f c
        up = last (λ v. min m (f k) ≤ v) (λ c h. omega (arith, g.all c h)) (omega arith)

        go : Dec (m < f k) → Smallest f (k + 1) (min m (f k))
        go (yes d) = record { all = up; at = g.at; before = omega (arith, g.before); is = omega (arith, g.is) }
        go (no d) = record { all = up; at = k; before = omega arith; is = omega arith }

module _ (ps ks ws ds qs : List ℕ) (n : ℕ) (some : 1 ≤ n) where
  abbrev t : Table
  t = table ps ks ws ds qs n

  size : length t ≡ n
  size = table-length ps ks ws ds qs n

  -- the greatest right edge less the least x
  module _ (p : Placement) (xs : List ℕ) (r : Raised xs n p.x) (low high : ℕ) (lo : Smallest (λ c. get_or xs c 0) n low) (hi : Greatest (λ c. get_or xs c 0 + get_or ws c 0) n high) where
    edge : (a : ℕ) → a < n → pos (get_or xs a 0 + get_or ws a 0) ≡ right t p a +ℤ pos farthest
    unfolding right
    edge a h = let w = width-at ps ks ws ds qs n a h in omega (whole, r.each a h, sum (p.x a) (pos (box_width t a)), sum (p.x a +ℤ pos (box_width t a)) (pos farthest), sum (p.x a) (pos farthest))

    pub width_is : pos (high - low) ≡ width t p
    width_is =
        let is : (a : ℕ) → Is t a → a < n = λ a h. omega (arith, size) in
        let up : width t p ≤ℤ pos (high - low) =
        width_le t p (high - low) (omega (arith, size)) (λ a b i j.
        omega (whole, edge a (is a i), hi.all a (is a i), lo.all b (is b j), r.each b (is b j), sum (right t p a) (pos farthest), sum (p.x b) (pos farthest), sum (p.x b) (pos (high - low)))) in
        let down : pos (high - low) ≤ℤ width t p =
        width_ge t p (high - low) hi.at lo.at (omega (arith, size, hi.before)) (omega (arith, size, lo.before))
        (omega (whole, edge hi.at hi.before, hi.is, lo.is, hi.all lo.at lo.before, r.each lo.at lo.before, sum (right t p hi.at) (pos farthest), sum (p.x lo.at) (pos farthest), sum (p.x lo.at) (pos (high - low)))) in
        omega whole

  -- the greatest row of a box
  pub bottom-is : Sound t → (ts : List ℕ) → Column ts n (row t) → (last : ℕ) → Greatest (λ c. get_or ts c 0 + get_or ds c 0) n last → last ≡ dictated_bottom t 0
  unfolding dictated_bottom
  bottom-is sound ts col last g =
      let all = subtree t 0 in
      let low : (a : ℕ) → a < n → row t a + box_depth t a ≡ get_or ts a 0 + get_or ds a 0 = λ a h. rw (depth_at ps ks ws ds qs n a h, col.each a h) refl in
      let up : peak (λ a. row t a + box_depth t a) all ≤ last =
      peak-one (λ a. row t a + box_depth t a) (λ m. m ≤ last) all (omega arith) (λ a m. let h : a < n = omega (arith, size, (subtree-read t 0 a m).0) in omega (arith, low a h, g.all a h)) in
      let is : Is t g.at = omega (arith, size, g.before) in
      let down = peak-all (λ a. row t a + box_depth t a) all g.at (subtree_show t 0 g.at is (below-within t sound (below_root t sound g.at is))) in
      omega (arith, low g.at g.before, g.is)

-- Extents and width by what is in the subtree; rows under S1. Assumes nothing.
use Rattle.std.specs.Prelude.{◌≡◌, ℕ, suc, ◌+◌, T, ℤ, ◌+ℤ◌, ◌-ℤ◌, ◌≤ℤ◌}
use Rattle.std.proofs.Common.{◌∙◌, arith}
use Rattle.std.proofs.Math.Path.{ap}
use Rattle.std.proofs.Math.IntN.{pos}
use Rattle.whole.proofs.Laws.Whole.{whole, sum, diff}
use Rattle.plan.specs.Lists.{peak}
use Rattle.plan.proofs.Laws.Lists.{peak-all, peak-one}
use Rattle.plan.specs.Plan as plan
use Rattle.plan.specs.Plan.{Table, Is, Sound, box_depth, cells, within, subtree, row}
use Rattle.plan.proofs.Laws.Plan.{subtree-read, subtree_show, cells-read, cells_show}
use Rattle.plan.proofs.Laws.Paths.{lower, from_parents, row_suc, within-self}
use Rattle.rules.specs.Placement.{Placement, most, least, right, base, bottom, left_extent, right_extent, width, rows}
use Rattle.rules.specs.Rules.{S1}
use Rattle.rules.proofs.Laws.Extremes.{most-all, most-one, least-all, least-one}

module _ (t : Table) (p : Placement) where
  -- ---- extents of the subtree of c
  module _ (c k : ℕ) where
    pub left_extent_le : ((a : ℕ) → Is t a → T (within t c a) → p.x c ≤ℤ (p.x a +ℤ pos k)) → left_extent t p c ≤ℤ pos k
    unfolding left_extent
    left_extent_le h =
        least-one p.x (p.x c) (subtree t c) (λ z. (p.x c -ℤ z) ≤ℤ pos k) (omega (whole, diff (p.x c) (p.x c)))
        (λ a m. omega (whole, diff (p.x c) (p.x a), sum (p.x a) (pos k), h a (subtree-read t c a m).0 (subtree-read t c a m).1))

    pub left_extent_ge : (a : ℕ) → Is t a → T (within t c a) → (p.x a +ℤ pos k) ≤ℤ p.x c → pos k ≤ℤ left_extent t p c
    unfolding left_extent
    left_extent_ge a i w h =
        omega (whole, diff (p.x c) (least p.x (p.x c) (subtree t c)), sum (p.x a) (pos k), least-all p.x (p.x c) (subtree t c) a (subtree_show t c a i w))

    pub right_extent_le : (sound : Sound t) → Is t c → ((a : ℕ) → Is t a → T (within t c a) → right t p a ≤ℤ (p.x c +ℤ pos k)) → right_extent t p c ≤ℤ pos k
    unfolding right_extent
    right_extent_le sound i h =
        most-one (right t p) (right t p c) (subtree t c) (λ z. (z -ℤ p.x c) ≤ℤ pos k)
        (omega (whole, diff (right t p c) (p.x c), sum (p.x c) (pos k), h c i (within-self t sound c)))
        (λ a m. omega (whole, diff (right t p a) (p.x c), sum (p.x c) (pos k), h a (subtree-read t c a m).0 (subtree-read t c a m).1))

    pub right_extent_ge : (a : ℕ) → Is t a → T (within t c a) → (p.x c +ℤ pos k) ≤ℤ right t p a → pos k ≤ℤ right_extent t p c
    unfolding right_extent
    right_extent_ge a i w h =
        omega (whole, diff (most (right t p) (right t p c) (subtree t c)) (p.x c), sum (p.x c) (pos k), most-all (right t p) (right t p c) (subtree t c) a (subtree_show t c a i w))

  -- ---- the width
  pub width_ge : (k a b : ℕ) → Is t a → Is t b → (p.x b +ℤ pos k) ≤ℤ right t p a → pos k ≤ℤ width t p
  unfolding width
  width_ge k a b i j h =
      omega (
        whole,
        diff (most (right t p) (right t p 0) (cells t)) (least p.x (p.x 0) (cells t)),
        sum (p.x b) (pos k),
        most-all (right t p) (right t p 0) (cells t) a (cells_show t a i),
        least-all p.x (p.x 0) (cells t) b (cells_show t b j),
      )

  pub width_le : (k : ℕ) → Is t 0 → ((a b : ℕ) → Is t a → Is t b → right t p a ≤ℤ (p.x b +ℤ pos k)) → width t p ≤ℤ pos k
  unfolding width
  width_le k i h =
      most-one (right t p) (right t p 0) (cells t) (λ e. (e -ℤ least p.x (p.x 0) (cells t)) ≤ℤ pos k) (low 0 i) (λ a m. low a (cells-read t a m))
    where
      low : (a : ℕ) → Is t a → (right t p a -ℤ least p.x (p.x 0) (cells t)) ≤ℤ pos k
      low a j =
          least-one p.x (p.x 0) (cells t) (λ s. (right t p a -ℤ s) ≤ℤ pos k)
          (omega (whole, diff (right t p a) (p.x 0), sum (p.x 0) (pos k), h a 0 j i))
          (λ b m. omega (whole, diff (right t p a) (p.x b), sum (p.x b) (pos k), h a b j (cells-read t b m)))

  -- ---- rows: S1 dictates them
  module _ (sound : Sound t) (s1 : S1 t p) where
    pub y-row : (a : ℕ) → Is t a → p.y a ≡ pos (row t a)
    unfolding base row
    y-row = from_parents t sound (λ a. Is t a → p.y a ≡ pos (row t a)) (λ i. s1.root_y)
        (λ m g i. s1.drop (suc m) i (omega arith) ∙ rw (g (omega (arith, lower t sound m))) (ap pos (omega (arith, row_suc t sound m))))

    pub base-row : (a : ℕ) → Is t a → base t p a ≡ pos (row t a + box_depth t a)
    unfolding base
    base-row a i = ap (λ (z : ℤ). z +ℤ pos (box_depth t a)) (y-row a i)

    pub bottom-row : (c : ℕ) → Is t c → bottom t p c ≡ pos (plan.dictated_bottom t c)
    unfolding bottom plan.dictated_bottom
    bottom-row c i =
        let l = subtree t c in
        let m = most-all (base t p) (base t p c) l c (subtree_show t c c i (within-self t sound c)) in
        let up : most (base t p) (base t p c) l ≤ℤ pos (peak (λ a. row t a + box_depth t a) l) =
        most-one (base t p) (base t p c) l (λ z. z ≤ℤ pos (peak (λ a. row t a + box_depth t a) l))
        (omega (whole, base-row c i, peak-all (λ a. row t a + box_depth t a) l c (subtree_show t c c i (within-self t sound c))))
        (λ a m. omega (whole, base-row a (subtree-read t c a m).0, peak-all (λ a. row t a + box_depth t a) l a m)) in
        let down : pos (peak (λ a. row t a + box_depth t a) l) ≤ℤ most (base t p) (base t p c) l =
        peak-one (λ a. row t a + box_depth t a) (λ n. pos n ≤ℤ most (base t p) (base t p c) l) l (omega (whole, base-row c i))
        (λ a m. omega (whole, base-row a (subtree-read t c a m).0, most-all (base t p) (base t p c) l a m)) in
        omega whole

    pub rows-plan : Is t 0 → rows t p ≡ pos (plan.dictated_bottom t 0 + 1)
    unfolding rows
    rows-plan i = omega (whole, bottom-row 0 i, sum (bottom t p 0) (pos 1))

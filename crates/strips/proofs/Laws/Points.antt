-- What is printed: a point on the boundary of some box, and none outside the sheet. Assumes nothing.
use Rattle.std.specs.Prelude.{◌≡◌, false, ℕ, ℤ, pos, ◌≤ℤ◌, ◌<ℤ◌}
use Rattle.std.proofs.Common.{inl, inr}
use Rattle.whole.proofs.Laws.Whole.{whole, sum, diff}
use Rattle.whole.specs.Says.{Says}
use Rattle.whole.proofs.Laws.Says.{that_is, both, either, says_le_z, says_eq_z, is_false}
use Rattle.plan.proofs.Laws.Lists.{says_some}
use Rattle.plan.specs.Plan.{Table, Sound, box_width, box_depth, cells, subtree}
use Rattle.plan.proofs.Laws.Plan.{subtree_show, cells-read, cells_show}
use Rattle.plan.proofs.Laws.Paths.{below-within, below_root}
use Rattle.rules.specs.Placement.{Placement, right, base, bottom, width, rows, most}
use Rattle.rules.proofs.Laws.Extremes.{most-all}
use Rattle.corners.specs.Corners.{left}
use Rattle.raster.specs.Points.{on_box, printed, dot}
use Rattle.raster.specs.Boundary.{On, OnSome}

module _ (t : Table) (p : Placement) (χ ρ : ℤ) where
  says_on_box : (a : ℕ) → Says (on_box t p χ ρ a) (On t p χ ρ a)
  unfolding on_box
  says_on_box a =
      either (both (either (says_eq_z χ (p.x a)) (says_eq_z χ (right t p a))) (both (says_le_z (p.y a) ρ) (says_le_z ρ (base t p a))))
      (both (either (says_eq_z ρ (p.y a)) (says_eq_z ρ (base t p a))) (both (says_le_z (p.x a) χ) (says_le_z χ (right t p a))))

  -- "exactly if that lattice point is on the boundary of some box"
  pub says_printed : Says (printed t p χ ρ) (OnSome t p χ ρ)
  unfolding printed
  says_printed =
      that_is (says_some (on_box t p χ ρ) (cells t))
      (λ s. record { cell = s.at; is = cells-read t s.at s.there; on = (says_on_box s.at).read s.passes })
      (λ o. record { at = o.cell; there = cells_show t o.cell o.is; passes = (says_on_box o.cell).show o.on })

  -- a box's boundary lies in its columns and in its rows
  on-column : (a : ℕ) → On t p χ ρ a → χ ≤ℤ right t p a
  unfolding right
  on-column a (inl (inl e, q)) = omega (whole, sum (p.x a) (pos (box_width t a)))
  on-column a (inl (inr e, q)) = omega whole
  on-column a (inr q) = q.1.1

  on_row : (a : ℕ) → On t p χ ρ a → ρ ≤ℤ base t p a
  unfolding base
  on_row a (inl q) = q.1.1
  on_row a (inr (inl e, q)) = omega (whole, sum (p.y a) (pos (box_depth t a)))
  on_row a (inr (inr e, q)) = omega whole

-- "Points outside the sheet give 0": beyond its width,
pub dot-beyond : (t : Table) (p : Placement) (row c : ℕ) → width t p <ℤ pos c → dot t p row c ≡ false
unfolding dot width left
dot-beyond t p row c h =
    is_false (says_printed t p _ _)
    (λ s.
    let k = on-column t p _ _ s.cell s.on in
    let m = most-all (right t p) (right t p 0) (cells t) s.cell (cells_show t s.cell s.is) in
    omega (whole, sum (left t p) (pos c), diff (most (right t p) (right t p 0) (cells t)) (left t p)))

-- and below its rows
pub dot-below : (t : Table) (p : Placement) → Sound t → (row c : ℕ) → rows t p ≤ℤ pos row → dot t p row c ≡ false
unfolding dot rows bottom
dot-below t p sound row c h =
    is_false (says_printed t p _ _)
    (λ s.
    let k = on_row t p _ _ s.cell s.on in
    let m = most-all (base t p) (base t p 0) (subtree t 0) s.cell (subtree_show t 0 s.cell s.is (below-within t sound (below_root t sound s.cell s.is))) in
    omega (whole, sum (most (base t p) (base t p 0) (subtree t 0)) (pos 1)))

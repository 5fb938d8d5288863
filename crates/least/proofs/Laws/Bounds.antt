-- A contour's extents are bounded by the boxes of its subtree: L + R + 1 is at most the sum of W + 1. Assumes nothing.
use Rattle.std.specs.Prelude.{ℕ, suc, ◌+◌, ◌≤◌, List, refl, length}
use native.Mathlib.Omega.{arith}
use Rattle.plan.specs.Lists.{At, total}
use Rattle.plan.specs.Plan.{Table, Is, Sound, box_width, box_depth, place, subtree}
use Rattle.plan.proofs.Laws.Paths.{child_less}
use Rattle.plan.proofs.Laws.Sums.{total-parts}
use Rattle.contours.specs.Contour.{Contour, greatest}
use Rattle.contours.specs.Sheet.{middle, around, contours, whole_contour}
use Rattle.contours.proofs.Laws.Spans.{spans, span}
use Rattle.contours.proofs.Laws.Forest.{Forest, traces, Grown, grown, traces_are}

-- the room of a subtree: W + 1 of each of its cells
abbrev pub room : Table → ℕ → ℕ
room t c = total (λ a. box_width t a + 1) (subtree t c)

module _ (t : Table) (sound : Sound t) (al : ℕ) where
  around_span : (c : ℕ) (os : List Contour) → greatest (around t al c os).left + greatest (around t al c os).right + 1 ≤ box_width t c + 1 + spans os
  unfolding around middle
  around_span c os = span al (box_width t c) (box_depth t c) (place t c (length os)) os

  spans-room : {cs : List ℕ} {F : Forest} → Grown t cs F → ((i s : ℕ) → At cs i s → Is t s) → spans (traces t al F) ≤ total (room t) cs
  unfolding spans traces total
  spans-room Grown.nil h = omega arith
  spans-room (Grown.cons {c = c} {F = F} g b) h =
      omega (
        arith,
        around_span c (traces t al F),
        spans-room g (λ i s a. (child_less t sound c i s a).1),
        total-parts t sound (λ a. box_width t a + 1) c (h 0 c refl),
        spans-room b (λ i. h (suc i)),
      )

  pub contour-room : (c : ℕ) → Is t c → greatest (whole_contour t al c).left + greatest (whole_contour t al c).right + 1 ≤ room t c
  contour-room c i =
      let g = grown t sound c in
      let e = spans-room g (λ i s a. (child_less t sound c i s a).1) in
      let z = rw (traces_are t sound al c g) at e in
      omega (arith, around_span c (contours t al c), total-parts t sound (λ a. box_width t a + 1) c i)

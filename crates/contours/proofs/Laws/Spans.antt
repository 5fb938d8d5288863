-- How much room siblings take: a contour's extents and 1, summed. Assumes nothing.
use Prim.Native.Nat.{ℕ, zero, suc, ◌+◌, ◌-◌, ◌≤◌}
use mathlib.Core.List.{List, [], ◌∷◌}
use Rattle.std.proofs.Math.Logic.{inl, inr}
use native.Mathlib.Omega.{arith}
use Rattle.plan.specs.Lists.{At}
use Rattle.contours.specs.Contour.{Contour, greatest, separation, stride, offset, lefts, rights, contour}
use Rattle.contours.proofs.Laws.Contour.{at_boxes, cover_cases, greatest-at, greatest_le, separation_apart, separation-least}

unfoldable pub spans : List Contour → ℕ
spans [] = 0
spans (o ∷ os) = greatest o.left + greatest o.right + 1 + spans os

greatest-most : (vs : List ℕ) (d : ℕ) → ((j v : ℕ) → At vs j v → v ≤ d) → greatest vs ≤ d
greatest-most vs d h = elim (greatest-at vs) [ inl e ↦ omega arith | inr p ↦ h p.0 (greatest vs) p.1 ]

module _ (al : ℕ) where
  pub separation-most : (o p : Contour) → separation al o p ≤ greatest o.right + greatest p.left + 1
  separation-most o p =
      separation-least al o p _ (record {
        ends = omega arith;
        starts = omega arith;
        rows = λ j r l a b. omega (arith, greatest_le o.right j r a, greatest_le p.left j l b);
        overlap = omega arith;
      })

  -- how far siblings extend from the first one's x, to the left and to the right
  abbrev leftmost : List Contour → ℕ
  leftmost [] = 0
  leftmost (o ∷ os) = greatest o.left

  abbrev rightmost : List Contour → ℕ
  rightmost [] = 0
  rightmost (o ∷ os) = greatest o.right + spans os

  step_left : (o : Contour) (os : List Contour) → leftmost os ≤ stride al o os
  unfolding stride
  step_left o [] = omega arith
  step_left o (p ∷ ps) = omega (arith, (separation_apart al o p).starts)

  step_right : (o : Contour) (os : List Contour) → stride al o os + rightmost os ≤ greatest o.right + spans os
  unfolding stride spans
  step_right o [] = omega arith
  step_right o (p ∷ ps) = omega (arith, separation-most o p)

  offset-most : (os : List Contour) (m X : ℕ) → offset al X os m ≤ X + rightmost os
  unfolding offset
  offset-most [] m X = omega arith
  offset-most (o ∷ os) zero X = omega arith
  offset-most (o ∷ os) (suc m) X = omega (arith, step_right o os, offset-most os m (X + stride al o os))

  lefts-most : (os : List Contour) (P X j v : ℕ) → At (lefts al P X os) j v → v ≤ (P + leftmost os) - X
  unfolding lefts
  lefts-most [] P X j v h = absurd h
  lefts-most (o ∷ os) P X j v h =
      elim (cover_cases _ o.left _ j v h) [
        | inl q ↦ omega (arith, q.2, greatest_le o.left j q.0 q.1)
        | inr q ↦ omega (arith, step_left o os, lefts-most os P (X + stride al o os) j v q)
      ]

  rights-most : (os : List Contour) (P X j v : ℕ) → At (rights al P X os) j v → v ≤ (X + rightmost os) - P
  unfolding rights
  rights-most [] P X j v h = absurd h
  rights-most (o ∷ os) P X j v h =
      elim (cover_cases _ o.right _ j v h) [
        | inl q ↦ omega (arith, q.2, greatest_le o.right j q.0 q.1)
        | inr q ↦ omega (arith, step_right o os, rights-most os P (X + stride al o os) j v q)
      ]

  both_ways : (os : List Contour) → leftmost os + rightmost os ≤ spans os
  unfolding spans
  both_ways [] = omega arith
  both_ways (o ∷ os) = omega arith

  -- a box with its children takes no more room than they and W + 1
  pub span : (W D m : ℕ) (os : List Contour) → greatest (contour al W D (offset al 0 os m) os).left + greatest (contour al W D (offset al 0 os m) os).right + 1 ≤ W + 1 + spans os
  unfolding contour
  span W D m os =
      let P = offset al 0 os m in
      let l = greatest-most (contour al W D P os).left (P + leftmost os)
      (λ j v a. elim (at_boxes (D + 1) 0 _ j v a) [ inl p ↦ omega arith | inr p ↦ omega (arith, lefts-most os P 0 _ v p.1) ]) in
      let r = greatest-most (contour al W D P os).right (W + (rightmost os - P))
      (λ j v a. elim (at_boxes (D + 1) W _ j v a) [ inl p ↦ omega arith | inr p ↦ omega (arith, rights-most os P 0 _ v p.1) ]) in
      omega (arith, offset-most os m 0, both_ways os)

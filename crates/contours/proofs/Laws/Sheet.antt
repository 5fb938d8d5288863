-- Our sheet child by child. Assumes nothing.
use Prim.Native.Nat.{ℕ, zero, suc, ◌+◌, ◌≤◌}
use Rattle.std.specs.Prelude.{List, [], ◌∷◌, map, ◌≡◌, length, ◌+ℤ◌, ◌-ℤ◌}
use Rattle.std.proofs.Math.Path.{refl, ap}
use Rattle.std.proofs.Common.{◌∙◌, arith}
use Rattle.std.proofs.Math.IntN.{pos}
use Rattle.plan.specs.Lists.{At, index}
use Rattle.plan.specs.Plan.{Table, Is, Sound, box_depth, parent, children, row, Child}
use Rattle.plan.proofs.Laws.Plan.{child-read, child-index, child-place}
use Rattle.plan.proofs.Laws.Paths.{path_zero, path_suc, row_suc, child_less}
use Rattle.rules.specs.Placement.{base}
use Rattle.rules.specs.Rules.{S1}
use Rattle.contours.specs.Contour.{Contour, offset}
use Rattle.contours.specs.Sheet.{middle, around, trace, contours, whole_contour, shift, along, column, sheet}

module _ (t : Table) (sound : Sound t) (al : ℕ) where
  pub column_zero : column t al 0 ≡ pos 0
  unfolding column along shift
  column_zero = ap (along (shift t al)) (path_zero t sound)

  column_suc : (m : ℕ) → column t al (suc m) ≡ shift t al (suc m) +ℤ column t al (parent t (suc m))
  unfolding column along
  column_suc m = ap (along (shift t al)) (path_suc t sound m)

  -- a child stands at its offset, as its parent stands at its middle
  pub column-child : (f i s : ℕ) → At (children t f) i s
      → column t al s ≡ (pos (offset al 0 (contours t al f) i) -ℤ pos (middle t al f (contours t al f))) +ℤ column t al f
  unfolding shift
  column-child f i zero h = absurd (omega (arith, (child-read t f i 0 h).low))
  column-child f i (suc m) h =
      let c : Child t f (suc m) = child-read t f i (suc m) h in
      let e : index (suc m) (children t f) ≡ i = child-place t f _ i (suc m) (child-index t f (suc m) c) h in
      column_suc m ∙ rw (c.of, e)

  pub sheet_s1 : S1 t (sheet t al)
  unfolding sheet base row
  sheet_s1 = record { root_x = column_zero; root_y = refl; drop = down }
    where
      down : (s : ℕ) → Is t s → 1 ≤ s → pos (row t s) ≡ pos (row t (parent t s)) +ℤ pos (box_depth t (parent t s)) +ℤ pos 1
      down zero i h = absurd (omega arith)
      down (suc m) i h = ap pos (omega (arith, row_suc t sound m))

  -- ---- contours from the bottom up, as a program makes them: a contour is made of those of the children
  map_on : (f g : ℕ → Contour) (cs : List ℕ) → ((i s : ℕ) → At cs i s → f s ≡ g s) → map f cs ≡ map g cs
  map_on f g [] h = refl
  map_on f g (c ∷ cs) h = cc (h 0 c refl, map_on f g cs (λ i. h (suc i)))

  -- more levels than are below give the same
  trace-enough : (d e c : ℕ) → Is t c → length t ≤ c + d → length t ≤ c + e → trace t al d c ≡ trace t al e c
  unfolding trace
  trace-enough zero zero c i h g = refl
  trace-enough zero (suc e) c i h g = absurd (omega arith)
  trace-enough (suc d) zero c i h g = absurd (omega arith)
  trace-enough (suc d) (suc e) c i h g =
      ap (around t al c) (map_on (trace t al d) (trace t al e) (children t c) (λ j s a.
      let (l, k) = child_less t sound c j s a in trace-enough d e s k (omega arith) (omega arith)))

  pub contours_are : (c : ℕ) → contours t al c ≡ map (whole_contour t al) (children t c)
  unfolding contours
  contours_are c =
      map_on (trace t al (length t)) (whole_contour t al) (children t c) (λ i s a.
      trace-enough (length t) (suc (length t)) s (child_less t sound c i s a).1 (omega arith) (omega arith) ∙ (unfold trace contours in refl))

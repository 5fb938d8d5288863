-- Subtrees of equal shape, kinds, widths and depths, in one table or in two, and their places on our sheets. Assumes nothing.
use Prim.Native.Nat.{ℕ, zero, suc, ◌+◌, ◌≤◌}
use Rattle.std.specs.Prelude.{List, [], ◌∷◌, map, ◌≡◌, length, pos, ◌+ℤ◌, ◌-ℤ◌}
use Rattle.std.proofs.Math.Path.{refl}
use Rattle.std.proofs.Common.{ap, arith, add-zero}
use Rattle.std.proofs.Math.Nat.{zero-add}
use Rattle.whole.proofs.Laws.Whole.{whole, sum, diff}
use Rattle.plan.specs.Lists.{At}
use Rattle.plan.specs.Plan.{Table, Is, Sound, children, row}
use Rattle.plan.proofs.Laws.Paths.{child_less, row-child}
use Rattle.contours.specs.Contour.{Contour, offset}
use Rattle.contours.specs.Sheet.{middle, around, trace, contours, whole_contour, column, sheet}
use Rattle.contours.proofs.Laws.Sheet.{column-child}
use Rattle.least.specs.Alike.{Same, Alike, Twins}

module _ (t u : Table) (al : ℕ) where
  -- a kind and a number of children appoint one child
  middle_alike : (a b : ℕ) (os ps : List Contour) → Same t u a b → os ≡ ps → middle t al a os ≡ middle u al b ps
  unfolding middle
  middle_alike a b os ps s e = rw (s.kinds, e)

  around_alike : (a b : ℕ) (os ps : List Contour) → Same t u a b → os ≡ ps → around t al a os ≡ around u al b ps
  unfolding around
  around_alike a b os ps s e = cc (middle_alike a b os ps s e, s.widths, s.depths)

  module _ (st : Sound t) (su : Sound u) where
    traces_alike : (d e : ℕ) {cs ds : List ℕ} → Alike t u cs ds → ((i s : ℕ) → At cs i s → Is t s × (length t ≤ s + d)) → ((i s : ℕ) → At ds i s → Is u s × (length u ≤ s + e))
        → map (trace t al d) cs ≡ map (trace u al e) ds
    unfolding trace
    traces_alike d e Alike.nil h k = refl
    traces_alike zero zero (Alike.cons {a = a} {b = b} m c r) h k = absurd (omega (arith, h 0 a refl))
    traces_alike zero (suc e) (Alike.cons {a = a} {b = b} m c r) h k = absurd (omega (arith, h 0 a refl))
    traces_alike (suc d) zero (Alike.cons {a = a} {b = b} m c r) h k = absurd (omega (arith, k 0 b refl))
    traces_alike (suc d) (suc e) (Alike.cons {a = a} {b = b} m c r) h k =
        cc (
          around_alike a b _ _ m (traces_alike d e c (λ i s z. ((child_less t st a i s z).1, omega (arith, child_less t st a i s z, h 0 a refl))) (λ i s z. ((child_less u su b i s z).1, omega (arith, child_less u su b i s z, k 0 b refl)))),
          traces_alike (suc d) (suc e) r (λ i. h (suc i)) (λ i. k (suc i)),
        )

    contours_alike : (a b : ℕ) → Alike t u (children t a) (children u b) → contours t al a ≡ contours u al b
    unfolding contours
    contours_alike a b h = traces_alike (length t) (length u) h (λ i s z. ((child_less t st a i s z).1, omega arith)) (λ i s z. ((child_less u su b i s z).1, omega arith))

    -- alike subtrees have one contour
    pub contour_alike : (a b : ℕ) → Alike t u (a ∷ []) (b ∷ []) → whole_contour t al a ≡ whole_contour u al b
    contour_alike a b (Alike.cons m l r) = around_alike a b _ _ m (contours_alike a b l)

    -- children a and b of f and g, in the same place
    top : (f g o a b : ℕ) → At (children t f) o a → At (children u g) o b → contours t al f ≡ contours u al g → Same t u f g
        → (column t al a +ℤ column u al g ≡ column u al b +ℤ column t al f) × (row t a + row u g ≡ row u b + row t f)
    top f g o a b p q e k =
        let x = column-child t st al f o a p in
        let y = column-child u su al g o b q in
        let z = middle_alike f g (contours t al f) (contours u al g) k e in
        let n = ap (λ os. offset al 0 os o) e in (
          omega (
            whole,
            diff (pos (offset al 0 (contours t al f) o)) (pos (middle t al f (contours t al f))),
            diff (pos (offset al 0 (contours u al g) o)) (pos (middle u al g (contours u al g))),
            sum (pos (offset al 0 (contours t al f) o) -ℤ pos (middle t al f (contours t al f))) (column t al f),
            sum (pos (offset al 0 (contours u al g) o) -ℤ pos (middle u al g (contours u al g))) (column u al g),
            sum (column t al a) (column u al g),
            sum (column u al b) (column t al f),
          ),
          omega (arith, row-child t st f o a p, row-child u su g o b q, k.depths),
        )

    -- cs and ds are the children of f and g, from place o on
    from : {c d : ℕ} {cs ds : List ℕ} (f g o : ℕ) → Twins t u cs ds c d → Alike t u cs ds → contours t al f ≡ contours u al g → Same t u f g
        → ((i s : ℕ) → At cs i s → At (children t f) (o + i) s) → ((i s : ℕ) → At ds i s → At (children u g) (o + i) s)
        → (column t al c +ℤ column u al g ≡ column u al d +ℤ column t al f) × (row t c + row u g ≡ row u d + row t f)
    from f g o (Twins.here {a = a} {b = b}) (Alike.cons m l r) e k h j = top f g o a b (rw add-zero at (h 0 a refl)) (rw add-zero at (j 0 b refl)) e k
    from f g o (Twins.under {a = a} {b = b} {c = c} {d = d} v) (Alike.cons m l r) e k h j =
        let (x, y) = from a b 0 v l (contours_alike a b l) m (λ i s z. rw zero-add z) (λ i s z. rw zero-add z) in
        let (p, q) = top f g o a b (rw add-zero at (h 0 a refl)) (rw add-zero at (j 0 b refl)) e k in (
          omega (
            whole,
            sum (column t al c) (column u al b),
            sum (column u al d) (column t al a),
            sum (column t al a) (column u al g),
            sum (column u al b) (column t al f),
            sum (column t al c) (column u al g),
            sum (column u al d) (column t al f),
          ),
          omega arith,
        )
    from f g o (Twins.later v) (Alike.cons m l r) e k h j =
        from f g (suc o) v r e k (λ i s z. let n : o + suc i ≡ suc o + i = omega arith in rw n at (h (suc i) s z)) (λ i s z. let n : o + suc i ≡ suc o + i = omega arith in rw n at (j (suc i) s z))

    -- the shift from a's subtree to b's
    pub shifted : (a b c d : ℕ) → Alike t u (a ∷ []) (b ∷ []) → Twins t u (a ∷ []) (b ∷ []) c d
        → ((sheet t al).x c -ℤ (sheet t al).x a ≡ (sheet u al).x d -ℤ (sheet u al).x b) × ((sheet t al).y c -ℤ (sheet t al).y a ≡ (sheet u al).y d -ℤ (sheet u al).y b)
    unfolding sheet
    shifted a b c d (Alike.cons m l r) Twins.here =
        (omega (whole, diff (column t al a) (column t al a), diff (column u al b) (column u al b)), omega (whole, diff (pos (row t a)) (pos (row t a)), diff (pos (row u b)) (pos (row u b))))
    shifted a b c d (Alike.cons m l r) (Twins.under v) =
        let (x, y) = from a b 0 v l (contours_alike a b l) m (λ i s z. rw zero-add z) (λ i s z. rw zero-add z) in (
          omega (whole, sum (column t al c) (column u al b), sum (column u al d) (column t al a), diff (column t al c) (column t al a), diff (column u al d) (column u al b)),
          omega (whole, diff (pos (row t c)) (pos (row t a)), diff (pos (row u d)) (pos (row u b))),
        )
    shifted a b c d (Alike.cons m l r) (Twins.later v) = elim v [ ]

-- Extents, distances and width over whole numbers: ours are at most those of the contours, and those of all that keep the rules at least. Assumes nothing.
use Rattle.std.specs.Prelude.{ℕ, ◌+◌, ◌≡◌, length, T, ◌+ℤ◌, ◌-ℤ◌, ◌≤ℤ◌}
use Rattle.std.proofs.Common.{arith}
use Rattle.std.proofs.Math.IntN.{pos}
use Rattle.whole.proofs.Laws.Whole.{whole, sum, diff}
use Rattle.whole.proofs.Laws.Bias.{bound}
use Rattle.plan.specs.Plan as plan
use Rattle.plan.specs.Plan.{Table, Is, Sound, box_width, next}
use Rattle.plan.proofs.Laws.Paths.{Below, below-within, within-below, below_root, below-is, child_less}
use Rattle.plan.proofs.Laws.Siblings.{Neighbours, says_next, next-is}
use Rattle.rules.specs.Placement.{Placement, right, left_extent, right_extent, width, rows}
use Rattle.rules.specs.Rules.{Keeps}
use Rattle.rules.proofs.Laws.Extents.{left_extent_le, left_extent_ge, right_extent_le, right_extent_ge, width_le, width_ge, rows-plan}
use Rattle.contours.specs.Contour.{greatest, offset}
use Rattle.contours.specs.Sheet.{middle, contours, whole_contour, column, sheet}
use Rattle.contours.proofs.Laws.Sheet.{column-child, sheet_s1}
use Rattle.least.proofs.Laws.Natural.{Natural, Set}
use Rattle.least.proofs.Laws.Rim.{raised, raised-fits, keeps_natural, natural_keeps}
use Rattle.least.proofs.Laws.Grown.{ours_rules}
use Rattle.least.proofs.Laws.Demand.{extends_left, extends_right, stays_left, stays_right, no_nearer}

module _ (t : Table) (sound : Sound t) (al : ℕ) where
  sheet-set : Set t al (raised t (sheet t al))
  unfolding sheet
  sheet-set f i s h =
      let P = middle t al f (contours t al f) in
      let O = offset al 0 (contours t al f) i in
      let (l, is) = child_less t sound f i s h in
      omega (
        whole,
        column-child t sound al f i s h,
        diff (pos O) (pos P),
        sum (pos O -ℤ pos P) (column t al f),
        raised-fits t (sheet t al) s is,
        raised-fits t (sheet t al) f (omega arith),
      )

  pub sheet_keeps : Keeps t (sheet t al) al
  sheet_keeps =
      natural_keeps t sound (sheet t al) (bound (sheet t al).x (length t)) al (raised-fits t (sheet t al)) (sheet_s1 t sound al)
      (ours_rules t sound al (raised t (sheet t al)) sheet-set)

  -- its extents are at most those of its contours
  pub left-edge : (c a : ℕ) → Is t c → Is t a → Below t a c → (sheet t al).x c ≤ℤ ((sheet t al).x a +ℤ pos (greatest (whole_contour t al c).left))
  left-edge c a i j w =
      omega (
        whole,
        stays_left t sound al (raised t (sheet t al)) sheet-set c a w,
        sum ((sheet t al).x a) (pos (greatest (whole_contour t al c).left)),
        raised-fits t (sheet t al) c i,
        raised-fits t (sheet t al) a j,
      )

  pub right-edge : (c a : ℕ) → Is t c → Is t a → Below t a c → right t (sheet t al) a ≤ℤ ((sheet t al).x c +ℤ pos (greatest (whole_contour t al c).right))
  unfolding right
  right-edge c a i j w =
      omega (
        whole,
        stays_right t sound al (raised t (sheet t al)) sheet-set c a w,
        sum ((sheet t al).x c) (pos (greatest (whole_contour t al c).right)),
        sum ((sheet t al).x a) (pos (box_width t a)),
        raised-fits t (sheet t al) c i,
        raised-fits t (sheet t al) a j,
      )

  our_left : (c : ℕ) → Is t c → left_extent t (sheet t al) c ≤ℤ pos (greatest (whole_contour t al c).left)
  our_left c i = left_extent_le t (sheet t al) c (greatest (whole_contour t al c).left) (λ a j w. left-edge c a i j (within-below t sound c a j w))

  our_right : (c : ℕ) → Is t c → right_extent t (sheet t al) c ≤ℤ pos (greatest (whole_contour t al c).right)
  our_right c i = right_extent_le t (sheet t al) c (greatest (whole_contour t al c).right) sound i (λ a j w. right-edge c a i j (within-below t sound c a j w))

  our_width : Is t 0 → width t (sheet t al) ≤ℤ pos (greatest (whole_contour t al 0).left + greatest (whole_contour t al 0).right)
  our_width o = width_le t (sheet t al) _ o (λ a b i j.
      omega (
        whole,
        right-edge 0 a o i (below_root t sound a i),
        left-edge 0 b o j (below_root t sound b j),
        sum ((sheet t al).x b) (pos (greatest (whole_contour t al 0).left)),
        sum ((sheet t al).x 0) (pos (greatest (whole_contour t al 0).right)),
        sum ((sheet t al).x b) (pos (greatest (whole_contour t al 0).left + greatest (whole_contour t al 0).right)),
      ))

  module _ (p : Placement) (keeps : Keeps t p al) where
    natural : Natural t al (raised t p)
    natural = keeps_natural t sound p (bound p.x (length t)) al (raised-fits t p) keeps

    -- some cell of the subtree of c extends as far
    left-most : (c : ℕ) → Is t c → (a : ℕ) × Is t a × Below t a c × ((p.x a +ℤ pos (greatest (whole_contour t al c).left)) ≤ℤ p.x c)
    left-most c i =
        let (a, w, f) = extends_left t sound al (raised t p) natural c in
        let j = below-is t sound i w in
        (a, j, w, omega (whole, sum (p.x a) (pos (greatest (whole_contour t al c).left)), raised-fits t p c i, raised-fits t p a j))

    right-most : (c : ℕ) → Is t c → (a : ℕ) × Is t a × Below t a c × ((p.x c +ℤ pos (greatest (whole_contour t al c).right)) ≤ℤ right t p a)
    unfolding right
    right-most c i =
        let (a, w, f) = extends_right t sound al (raised t p) natural c in
        let j = below-is t sound i w in
        (a, j, w, omega (whole, sum (p.x c) (pos (greatest (whole_contour t al c).right)), sum (p.x a) (pos (box_width t a)), raised-fits t p c i, raised-fits t p a j))

    pub any_left : (c : ℕ) → Is t c → pos (greatest (whole_contour t al c).left) ≤ℤ left_extent t p c
    any_left c i = let (a, j, w, f) = left-most c i in left_extent_ge t p c _ a j (below-within t sound w) f

    pub any_right : (c : ℕ) → Is t c → pos (greatest (whole_contour t al c).right) ≤ℤ right_extent t p c
    any_right c i = let (a, j, w, f) = right-most c i in right_extent_ge t p c _ a j (below-within t sound w) f

    pub any_width : Is t 0 → pos (greatest (whole_contour t al 0).left + greatest (whole_contour t al 0).right) ≤ℤ width t p
    any_width o =
        let (a, i, v, f) = right-most 0 o in
        let (b, j, w, g) = left-most 0 o in
        width_ge t p _ a b i j (omega (
          whole,
          sum (p.x 0) (pos (greatest (whole_contour t al 0).right)),
          sum (p.x b) (pos (greatest (whole_contour t al 0).left)),
          sum (p.x b) (pos (greatest (whole_contour t al 0).left + greatest (whole_contour t al 0).right)),
        ))

    pub any_apart : (u v : ℕ) → T (next t u v) → ((sheet t al).x v -ℤ (sheet t al).x u) ≤ℤ (p.x v -ℤ p.x u)
    any_apart u v h =
        let e : Neighbours t u v = (says_next t u v).read h in
        let (i, j) = next-is t u v h in
        omega (
          whole,
          no_nearer t sound al (raised t p) (raised t (sheet t al)) natural sheet-set e.c e.order.i u v e.order.first e.order.second,
          diff ((sheet t al).x v) ((sheet t al).x u),
          diff (p.x v) (p.x u),
          raised-fits t p u i,
          raised-fits t p v j,
          raised-fits t (sheet t al) u i,
          raised-fits t (sheet t al) v j,
        )

  -- so our sheet measures what its contours do, and its rows are the plan's
  pub sheet-left : (c : ℕ) → Is t c → left_extent t (sheet t al) c ≡ pos (greatest (whole_contour t al c).left)
  sheet-left c i = omega (whole, our_left c i, any_left (sheet t al) sheet_keeps c i)

  pub sheet-right : (c : ℕ) → Is t c → right_extent t (sheet t al) c ≡ pos (greatest (whole_contour t al c).right)
  sheet-right c i = omega (whole, our_right c i, any_right (sheet t al) sheet_keeps c i)

  pub sheet-width : Is t 0 → width t (sheet t al) ≡ pos (greatest (whole_contour t al 0).left + greatest (whole_contour t al 0).right)
  sheet-width o = omega (whole, our_width o, any_width (sheet t al) sheet_keeps o)

  pub sheet_rows : Is t 0 → rows t (sheet t al) ≡ pos (plan.dictated_bottom t 0 + 1)
  sheet_rows = rows-plan t (sheet t al) sound (sheet_s1 t sound al)

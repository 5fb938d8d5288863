-- Demand 3 over natural numbers: a placement that keeps the rules extends, and parts neighbours, at least as far as ours. Assumes nothing.
use Rattle.std.specs.Prelude.{ℕ, suc, ◌+◌, ◌≤◌, length}
use Rattle.std.proofs.Common.{arith}
use Rattle.plan.specs.Lists.{At}
use Rattle.plan.specs.Plan.{Table, Sound, box_width, children}
use Rattle.plan.proofs.Laws.Paths.{Below}
use Rattle.contours.specs.Contour.{greatest}
use Rattle.contours.specs.Sheet.{around, whole_contour}
use Rattle.least.proofs.Laws.Natural.{Natural, Set}
use Rattle.contours.proofs.Laws.Forest.{none, tree, traces, forest, grown, traces_are}
use Rattle.least.proofs.Laws.ForestRules.{Keeps}
use Rattle.least.proofs.Laws.Forest.{keeps_within, ours-within}
use Rattle.least.proofs.Laws.Reached.{Shown, least, far-left, far-right, apart}
use Rattle.least.proofs.Laws.Kept.{Bound, bound, within-left, within-right, separated}
use Rattle.least.proofs.Laws.Grown.{under_one, one-under, tree_keeps, ours-tree, pair_in}

module _ (t : Table) (sound : Sound t) (al : ℕ) where
  -- any placement that keeps the rules
  module _ (x : ℕ → ℕ) (rules : Natural t al x) where
    kept-tree : (c : ℕ) → Keeps t al x (tree c (forest t (length t) c) none)
    kept-tree c = tree_keeps t sound al x rules c (forest t (length t) c) (grown t sound c)

    shown : (c : ℕ) → Shown t al x (tree c (forest t (length t) c) none)
    shown c = least t al x (tree c (forest t (length t) c) none) (kept-tree c)

    pub extends_left : (c : ℕ) → (a : ℕ) × Below t a c × (x a + greatest (whole_contour t al c).left ≤ x c)
    extends_left c =
        let F = forest t (length t) c in
        let (a, i, f) = far-left t al x c F (around t al c (traces t al F)).left (shown c).left in
        (a, under_one t sound (grown t sound c) i, rw (← traces_are t sound al c (grown t sound c)) f)

    pub extends_right : (c : ℕ) → (a : ℕ) × Below t a c × (x c + greatest (whole_contour t al c).right ≤ x a + box_width t a)
    extends_right c =
        let F = forest t (length t) c in
        let (a, i, f) = far-right t al x c F (around t al c (traces t al F)).right (shown c).right in
        (a, under_one t sound (grown t sound c) i, rw (← traces_are t sound al c (grown t sound c)) f)

  -- ours
  module _ (z : ℕ → ℕ) (set : Set t al z) where
    own : (c : ℕ) → Bound t al z (tree c (forest t (length t) c) none)
    own c = bound t al z (tree c (forest t (length t) c) none) (ours-tree t sound al z set c (forest t (length t) c) (grown t sound c))

    pub stays_left : (c a : ℕ) → Below t a c → z c ≤ z a + greatest (whole_contour t al c).left
    stays_left c a w =
        rw (← traces_are t sound al c (grown t sound c)) (within-left t al z c (forest t (length t) c) none a (own c) (one-under t sound (grown t sound c) w))

    pub stays_right : (c a : ℕ) → Below t a c → z a + box_width t a ≤ z c + greatest (whole_contour t al c).right
    stays_right c a w =
        rw (← traces_are t sound al c (grown t sound c)) (within-right t al z c (forest t (length t) c) none a (own c) (one-under t sound (grown t sound c) w))

  -- neighbouring siblings stand nowhere nearer than in ours
  pub no_nearer : (x z : ℕ → ℕ) → Natural t al x → Set t al z → (f i p q : ℕ) → At (children t f) i p → At (children t f) (suc i) q → z q + x p ≤ x q + z p
  no_nearer x z rules set f i p q h k =
      let F = forest t (length t) f in
      let g = grown t sound f in
      let (G, H, r, w) = pair_in t sound i p q g h k in
      let o = ours-tree t sound al z set f F g in
      let (b, P, X, s, o2) = ours-within t al z w (_, _, _, o.spread, o.children) in
      let e = keeps_within t al x w (kept-tree x rules f).children in
      omega (arith, separated t al z p q G H r b P X s, apart t al x p q G H r e (least t al x (tree p G (tree q H r)) e))

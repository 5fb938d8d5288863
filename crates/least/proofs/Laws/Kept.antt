-- Our sheet keeps the rules, and extends no farther than its contours. Assumes nothing.
use Prim.Native.Nat.{ℕ, zero, suc, ◌+◌, ◌-◌, ◌≤◌, ◌<◌}
use Rattle.std.specs.Prelude.{◌≡◌}
use Rattle.std.proofs.Math.Logic.{inl, inr}
use Rattle.std.proofs.Common.{arith}
use Rattle.plan.specs.Lists.{At}
use Rattle.plan.specs.Plan.{Table, box_width, box_depth, place}
use Rattle.plan.proofs.Laws.Plan.{place-below}
use Rattle.contours.specs.Contour.{greatest, separation, stride, offset, lefts, rights, contour}
use Rattle.contours.specs.Sheet.{middle, around}
use Rattle.contours.proofs.Laws.Contour.{boxes_at, past_boxes, cover_either, greatest_le, clash-at}
use Rattle.contours.proofs.Laws.Forest.{Forest, none, tree, count, traces}
use Rattle.least.proofs.Laws.ForestRules.{In, Fills, nth, S3, S4, S5, Keeps, Spread, Ours}
use Rattle.least.proofs.Laws.Forest.{not_in_none, not_fills_none, split_in, split_fills, fills_in, fills_wide, in_fills, filled}
use Rattle.least.proofs.Laws.Reached.{middle-is}

module _ (t : Table) (al : ℕ) (x : ℕ → ℕ) where
  -- whatever fills a row of a sibling's subtree stays inside its contour
  abbrev pub Bound : Forest → Type 0
  Bound none = Unit {0}
  Bound (tree c ss r) =
      record {
        left : (j a e : ℕ) → Fills t (tree c ss none) j a e → (v : ℕ) × At (around t al c (traces t al ss)).left j v × (x c ≤ x a + v);
        right : (j a e : ℕ) → Fills t (tree c ss none) j a e → (v : ℕ) × At (around t al c (traces t al ss)).right j v × (x a + e ≤ x c + v);
        rest : Bound r;
      }

  lefts-bound : (F : Forest) (b P X j a e : ℕ) → Spread t al x b P X F → Bound F → Fills t F j a e
      → (v : ℕ) × At (lefts al P X (traces t al F)) j v × (b ≤ x a + v)
  unfolding lefts traces
  lefts-bound none b P X j a e s h f = absurd (not_fills_none f)
  lefts-bound (tree c ss r) b P X j a e s h f =
      cover_either (λ v. (P + v) - X) (around t al c (traces t al ss)).left _ j (λ v. x c ≤ x a + v) (λ v. b ≤ x a + v) (λ v g. omega (arith, s.here)) (λ v u l g. omega arith)
      (elim (split_fills f) [ inl q ↦ inl (h.left j a e q) | inr q ↦ inr (lefts-bound r b P _ j a e s.next h.rest q) ])

  rights-bound : (F : Forest) (b P X j a e : ℕ) → Spread t al x b P X F → Bound F → Fills t F j a e
      → (v : ℕ) × At (rights al P X (traces t al F)) j v × (x a + e ≤ b + v)
  unfolding rights traces
  rights-bound none b P X j a e s h f = absurd (not_fills_none f)
  rights-bound (tree c ss r) b P X j a e s h f =
      cover_either (λ v. (X + v) - P) (around t al c (traces t al ss)).right _ j (λ v. x a + e ≤ x c + v) (λ v. x a + e ≤ b + v) (λ v g. omega (arith, s.here)) (λ v u l g. omega arith)
      (elim (split_fills f) [ inl q ↦ inl (h.right j a e q) | inr q ↦ inr (rights-bound r b P _ j a e s.next h.rest q) ])

  tree-left : (c : ℕ) (ss : Forest) (j a e : ℕ) → Spread t al x (x c) (middle t al c (traces t al ss)) 0 ss → Bound ss → Fills t (tree c ss none) j a e
      → (v : ℕ) × At (around t al c (traces t al ss)).left j v × (x c ≤ x a + v)
  unfolding around contour
  tree-left c ss j a e s h (Fills.box p) = (0, boxes_at (box_depth t c + 1) 0 _ j (omega arith), omega arith)
  tree-left c ss j a e s h (Fills.stem p q) =
      let (b, f, g) = filled t ss (j - (box_depth t c + 1)) (omega arith) in
      let (v, hit, l) = lefts-bound ss (x c) _ 0 _ b f s h g in
      (v, past_boxes (box_depth t c + 1) 0 _ j v (omega arith) hit, omega arith)
  tree-left c ss j a e s h (Fills.under p g) =
      let (v, hit, l) = lefts-bound ss (x c) _ 0 _ a e s h g in
      (v, past_boxes (box_depth t c + 1) 0 _ j v (omega arith) hit, l)
  tree-left c ss j a e s h (Fills.beside p) = absurd (not_fills_none p)

  tree-right : (c : ℕ) (ss : Forest) (j a e : ℕ) → Spread t al x (x c) (middle t al c (traces t al ss)) 0 ss → Bound ss → Fills t (tree c ss none) j a e
      → (v : ℕ) × At (around t al c (traces t al ss)).right j v × (x a + e ≤ x c + v)
  unfolding around contour
  tree-right c ss j a e s h (Fills.box p) = (box_width t c, boxes_at (box_depth t c + 1) (box_width t c) _ j (omega arith), omega arith)
  tree-right c ss j a e s h (Fills.stem p q) =
      let (b, f, g) = filled t ss (j - (box_depth t c + 1)) (omega arith) in
      let (v, hit, l) = rights-bound ss (x c) _ 0 _ b f s h g in
      (v, past_boxes (box_depth t c + 1) (box_width t c) _ j v (omega arith) hit, omega arith)
  tree-right c ss j a e s h (Fills.under p g) =
      let (v, hit, l) = rights-bound ss (x c) _ 0 _ a e s h g in
      (v, past_boxes (box_depth t c + 1) (box_width t c) _ j v (omega arith) hit, l)
  tree-right c ss j a e s h (Fills.beside p) = absurd (not_fills_none p)

  pub bound : (F : Forest) → Ours t al x F → Bound F
  bound none o = tt
  bound (tree c ss r) o =
      record {
        left = λ j a e f. tree-left c ss j a e o.spread (bound ss o.children) f;
        right = λ j a e f. tree-right c ss j a e o.spread (bound ss o.children) f;
        rest = bound r o.rest;
      }

  -- so no cell extends farther than the contour's greatest
  pub within-left : (c : ℕ) (ss r : Forest) (a : ℕ) → Bound (tree c ss r) → In (tree c ss none) a
      → x c ≤ x a + greatest (around t al c (traces t al ss)).left
  within-left c ss r a h i =
      let (j, f) = in_fills t i in
      let (v, hit, l) = h.left j a (box_width t a) f in
      omega (arith, greatest_le (around t al c (traces t al ss)).left j v hit)

  pub within-right : (c : ℕ) (ss r : Forest) (a : ℕ) → Bound (tree c ss r) → In (tree c ss none) a
      → x a + box_width t a ≤ x c + greatest (around t al c (traces t al ss)).right
  within-right c ss r a h i =
      let (j, f) = in_fills t i in
      let (v, hit, l) = h.right j a (box_width t a) f in
      omega (arith, greatest_le (around t al c (traces t al ss)).right j v hit)

  -- sibling number m stands at its offset
  nth-at : (F : Forest) (m b P X : ℕ) → m < count F → Spread t al x b P X F → x (nth F m) + P ≡ b + offset al X (traces t al F) m
  unfolding nth traces offset count
  nth-at none m b P X l s = absurd (omega arith)
  nth-at (tree c ss r) zero b P X l s = s.here
  nth-at (tree c ss r) (suc m) b P X l s = nth-at r m b P _ (omega arith) s.next

  -- neighbours are the separation apart
  pub separated : (c d : ℕ) (ss ts r : Forest) (b P X : ℕ) → Spread t al x b P X (tree c ss (tree d ts r))
      → x d ≡ x c + separation al (around t al c (traces t al ss)) (around t al d (traces t al ts))
  unfolding stride traces
  separated c d ss ts r b P X s = omega (arith, s.here, s.next.here)

  s3_kept : (c : ℕ) (ss r : Forest) (b P X : ℕ) → Spread t al x b P X (tree c ss r) → Bound (tree c ss r) → S3 t al x c ss r
  unfolding separation
  s3_kept c ss none b P X s h = tt
  s3_kept c ss (tree d ts r) b P X s h =
      record {
        ends = λ a i. omega (arith, within-right c ss (tree d ts r) a h i, separated c d ss ts r b P X s);
        starts = λ a i. omega (arith, within-left d ts r a h.rest i, separated c d ss ts r b P X s);
      }

  -- every cell at or below a later sibling starts past the first
  later : (c : ℕ) (ss r : Forest) (b P X a : ℕ) → Spread t al x b P X (tree c ss r) → Bound (tree c ss r) → In r a → x c < x a
  later c ss none b P X a s h i = absurd (not_in_none i)
  later c ss (tree d ts r) b P X a s h i =
      elim (split_in i) [
        | inl p ↦ (s3_kept c ss (tree d ts r) b P X s h).starts a p
        | inr p ↦ omega (arith, (s3_kept c ss (tree d ts r) b P X s h).starts d In.top, later d ts r b P _ a s.next h.rest p)
      ]

  s4_kept : (c : ℕ) (ss r : Forest) (b P X : ℕ) → Spread t al x b P X (tree c ss r) → Bound (tree c ss r) → S4 t al x c ss r
  unfolding separation
  s4_kept c ss none b P X s h j a e i f p q = absurd (not_fills_none q)
  s4_kept c ss (tree d ts r) b P X s h j a e i f p q =
      elim (split_fills q) [
        | inl hit ↦
            let (u, y, g) = h.right j a e p in
            let (v, z, l) = h.rest.left j i f hit in
            omega (arith, clash-at (around t al c (traces t al ss)).right (around t al d (traces t al ts)).left j u v y z, separated c d ss ts r b P X s)
        | inr hit ↦
            omega (arith, fills_wide p, (s3_kept c ss (tree d ts r) b P X s h).ends a (fills_in p), later d ts r b P _ i s.next h.rest (fills_in hit))
      ]

  s5_kept : (c : ℕ) (ss r : Forest) (b P X : ℕ) → Spread t al x b P X (tree c ss r) → Bound (tree c ss r) → S5 t al x c ss r
  unfolding separation
  s5_kept c ss none b P X s h a i p q = absurd (not_in_none q)
  s5_kept c ss (tree d ts r) b P X s h a i p q =
      elim (split_in q) [
        | inl hit ↦ omega (arith, within-right c ss (tree d ts r) a h p, within-left d ts r i h.rest hit, separated c d ss ts r b P X s)
        | inr hit ↦ omega (arith, (s3_kept c ss (tree d ts r) b P X s h).ends a p, later d ts r b P _ i s.next h.rest hit)
      ]

  pub kept : (F : Forest) (b P X : ℕ) → Spread t al x b P X F → Ours t al x F → Keeps t al x F
  kept none b P X s o = tt
  kept (tree c ss r) b P X s o =
      let h = bound (tree c ss r) o in
      record {
        s2 = λ l. omega (arith, nth-at ss (place t c (count ss)) (x c) _ 0 (place-below t c _ l) o.spread, middle-is t al c ss);
        s3 = s3_kept c ss r b P X s h;
        s4 = s4_kept c ss r b P X s h;
        s5 = s5_kept c ss r b P X s h;
        children = kept ss (x c) _ 0 o.spread o.children;
        rest = kept r b P _ s.next o.rest;
      }

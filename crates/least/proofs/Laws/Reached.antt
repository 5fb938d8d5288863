-- A placement that keeps the rules extends, in every row of every subtree, at least as far as the contour. Assumes nothing.
use Prim.Native.Nat.{ℕ, zero, suc, ◌+◌, ◌-◌, ◌≤◌, ◌<◌}
use Rattle.std.specs.Prelude.{List, ◌≡◌, ◌⊎◌}
use Rattle.std.proofs.Math.Path.{ap}
use Rattle.std.proofs.Common.{subst}
use Rattle.std.proofs.Math.Logic.{inl, inr}
use native.Mathlib.Omega.{arith}
use Rattle.plan.specs.Lists.{At}
use Rattle.plan.specs.Plan.{Table, box_width, box_depth, place}
use Rattle.plan.proofs.Laws.Plan.{place-below}
use Rattle.contours.specs.Contour.{greatest, separation, stride, offset, lefts, rights, contour}
use Rattle.contours.specs.Sheet.{middle, around}
use Rattle.contours.proofs.Laws.Contour.{at_boxes, cover_cases, greatest-at, greatest_le, clash_le, offset-from, lefts-next}
use Rattle.contours.proofs.Laws.Forest.{Forest, none, tree, count, traces}
use Rattle.least.proofs.Laws.ForestRules.{In, Fills, height, nth, S2, Keeps}
use Rattle.least.proofs.Laws.Forest.{fills_in, fills_wide, fills_row, lone_in, lone_fills, traces-count}

-- some cell of the forest fills row j there v or more to the left of column b
pub record ToLeft (t : Table) (x : ℕ → ℕ) (F : Forest) (j v b : ℕ) : Type 0 where
  pub who : ℕ
  pub ext : ℕ
  pub fills : Fills t F j who ext
  pub far : x who + v ≤ b

pub record ToRight (t : Table) (x : ℕ → ℕ) (F : Forest) (j v b : ℕ) : Type 0 where
  pub who : ℕ
  pub ext : ℕ
  pub fills : Fills t F j who ext
  pub far : b + v ≤ x who + ext

not_empty : (c : ℕ) (ss r : Forest) → 0 < count (tree c ss r)
unfolding count
not_empty c ss r = omega arith

module _ (t : Table) (al : ℕ) where
  pub middle-is : (c : ℕ) (ss : Forest) → middle t al c (traces t al ss) ≡ offset al 0 (traces t al ss) (place t c (count ss))
  unfolding middle
  middle-is c ss = ap (λ n. offset al 0 (traces t al ss) (place t c n)) (traces-count t al ss)

module _ (t : Table) (al : ℕ) (x : ℕ → ℕ) where
  -- each row of the contour of each sibling is reached
  abbrev pub Shown : Forest → Type 0
  Shown none = Unit {0}
  Shown (tree c ss r) =
      record {
        left : (j v : ℕ) → At (around t al c (traces t al ss)).left j v → ToLeft t x (tree c ss none) j v (x c);
        right : (j v : ℕ) → At (around t al c (traces t al ss)).right j v → ToRight t x (tree c ss none) j v (x c);
        rest : Shown r;
      }

  -- the extents of a subtree are at least its contour's
  pub far-left : (c : ℕ) (ss : Forest) (ls : List ℕ) → ((j v : ℕ) → At ls j v → ToLeft t x (tree c ss none) j v (x c))
      → (a : ℕ) × In (tree c ss none) a × (x a + greatest ls ≤ x c)
  far-left c ss ls h =
      elim (greatest-at ls) [
        | inl p ↦ (c, In.top, omega arith)
        | inr p ↦ let w = h p.0 (greatest ls) p.1 in (w.who, fills_in w.fills, w.far)
      ]

  pub far-right : (c : ℕ) (ss : Forest) (rs : List ℕ) → ((j v : ℕ) → At rs j v → ToRight t x (tree c ss none) j v (x c))
      → (a : ℕ) × In (tree c ss none) a × (x c + greatest rs ≤ x a + box_width t a)
  far-right c ss rs h =
      elim (greatest-at rs) [
        | inl p ↦ (c, In.top, omega arith)
        | inr p ↦ let w = h p.0 (greatest rs) p.1 in (w.who, fills_in w.fills, omega (arith, w.far, fills_wide w.fills))
      ]

  -- neighbouring siblings are at least the separation apart
  pub apart : (c d : ℕ) (ss ts r : Forest) → Keeps t al x (tree c ss (tree d ts r)) → Shown (tree c ss (tree d ts r))
      → x c + separation al (around t al c (traces t al ss)) (around t al d (traces t al ts)) ≤ x d
  unfolding separation
  apart c d ss ts r h s =
      let (a, ia, fa) = far-right c ss (around t al c (traces t al ss)).right s.right in
      let (b, ib, fb) = far-left d ts (around t al d (traces t al ts)).left s.rest.left in
      omega (
        arith,
        h.s3.ends a ia,
        h.s3.starts b ib,
        h.s5 a b ia (lone_in r ib),
        clash_le (around t al c (traces t al ss)).right (around t al d (traces t al ts)).left (x d - x c)
            (λ j u v p q.
            let e = s.right j u p in
            let f = s.rest.left j v q in
            omega (arith, e.far, f.far, h.s4 j e.who e.ext f.who f.ext e.fills (lone_fills r f.fills))),
      )

  -- sibling number m is at least its offset away from the first
  dist : (c : ℕ) (ss r : Forest) (m X : ℕ) → m < count (tree c ss r) → Keeps t al x (tree c ss r) → Shown (tree c ss r)
      → x c + offset al X (traces t al (tree c ss r)) m ≤ x (nth (tree c ss r) m) + X
  unfolding offset traces nth count stride
  dist c ss r zero X l h s = omega arith
  dist c ss none (suc m) X l h s = absurd (omega arith)
  dist c ss (tree d ts r) (suc m) X l h s =
      omega (
        arith,
        apart c d ss ts r h s,
        dist d ts r m (X + separation al (around t al c (traces t al ss)) (around t al d (traces t al ts))) (omega arith) h.rest s.rest,
      )

  lefts-row : (F : Forest) (P X j v : ℕ) → Shown F → At (lefts al P X (traces t al F)) j v → j < height t F
  unfolding lefts traces height
  lefts-row none P X j v s h = absurd h
  lefts-row (tree c ss r) P X j v s h =
      elim (cover_cases _ (around t al c (traces t al ss)).left _ j v h) [
        | inl p ↦ let (u, a, e) = p in fills_row (lone_fills r (s.left j u a).fills)
        | inr p ↦ omega (arith, lefts-row r P _ j v s.rest p)
      ]

  rights-row : (F : Forest) (P X j v : ℕ) → Shown F → At (rights al P X (traces t al F)) j v → j < height t F
  unfolding rights traces height
  rights-row none P X j v s h = absurd h
  rights-row (tree c ss r) P X j v s h =
      elim (cover_cases _ (around t al c (traces t al ss)).right _ j v h) [
        | inl p ↦ let (u, a, e) = p in fills_row (lone_fills r (s.right j u a).fills)
        | inr p ↦ omega (arith, rights-row r P _ j v s.rest p)
      ]

  lefts-far : (c : ℕ) (ss r : Forest) (m X j v : ℕ) → m < count (tree c ss r) → Keeps t al x (tree c ss r) → Shown (tree c ss r)
      → At (lefts al (offset al X (traces t al (tree c ss r)) m) X (traces t al (tree c ss r))) j v
      → (v ≡ 0) ⊎ ToLeft t x (tree c ss r) j v (x (nth (tree c ss r) m))
  unfolding lefts traces offset nth count
  lefts-far c ss r zero X j v l h s a =
      elim (cover_cases _ (around t al c (traces t al ss)).left _ j v a) [
        | inl p ↦
            let (u, q, e) = p in
            let w = s.left j u q in
            inr (record { who = w.who; ext = w.ext; fills = lone_fills r w.fills; far = omega (arith, w.far) })
        | inr p ↦ inl (lefts-next al (around t al c (traces t al ss)) (traces t al r) X X j v (omega arith) p)
      ]
  lefts-far c ss none (suc m) X j v l h s a = absurd (omega arith)
  lefts-far c ss (tree d ts r) (suc m) X j v l h s a =
      elim (cover_cases _ (around t al c (traces t al ss)).left _ j v a) [
        | inl p ↦
            let (u, q, e) = p in
            let w = s.left j u q in
            inr (record {
              who = w.who;
              ext = w.ext;
              fills = lone_fills (tree d ts r) w.fills;
              far = omega (arith, w.far, dist c ss (tree d ts r) (suc m) X l h s, offset-from al (traces t al (tree c ss (tree d ts r))) (suc m) X);
            })
        | inr p ↦
            elim (lefts-far d ts r m _ j v (omega arith) h.rest s.rest p) [
              | inl z ↦ inl z
              | inr w ↦ inr (record { who = w.who; ext = w.ext; fills = Fills.beside w.fills; far = w.far })
            ]
      ]

  -- the siblings from place P on, where the first of them stands no nearer to column b than it should
  rights-next : (c : ℕ) (ss r : Forest) (b P X j v : ℕ) → b + X ≤ x c + P → P ≤ X → Keeps t al x (tree c ss r) → Shown (tree c ss r)
      → At (rights al P X (traces t al (tree c ss r))) j v → ToRight t x (tree c ss r) j v b
  unfolding rights traces stride
  rights-next c ss none b P X j v g i h s a =
      elim (cover_cases _ (around t al c (traces t al ss)).right _ j v a) [
        | inl p ↦
            let (u, q, e) = p in
            let w = s.right j u q in
            record { who = w.who; ext = w.ext; fills = w.fills; far = omega (arith, w.far) }
        | inr p ↦ absurd p
      ]
  rights-next c ss (tree d ts r) b P X j v g i h s a =
      elim (cover_cases _ (around t al c (traces t al ss)).right _ j v a) [
        | inl p ↦
            let (u, q, e) = p in
            let w = s.right j u q in
            record { who = w.who; ext = w.ext; fills = lone_fills (tree d ts r) w.fills; far = omega (arith, w.far) }
        | inr p ↦
            let w = rights-next d ts r b P _ j v (omega (arith, apart c d ss ts r h s)) (omega arith) h.rest s.rest p in
            record { who = w.who; ext = w.ext; fills = Fills.beside w.fills; far = w.far }
      ]

  rights-far : (c : ℕ) (ss r : Forest) (m X j v : ℕ) → m < count (tree c ss r) → Keeps t al x (tree c ss r) → Shown (tree c ss r)
      → At (rights al (offset al X (traces t al (tree c ss r)) m) X (traces t al (tree c ss r))) j v
      → (v ≡ 0) ⊎ ToRight t x (tree c ss r) j v (x (nth (tree c ss r) m))
  unfolding traces offset nth rights stride separation count
  rights-far c ss r zero X j v l h s a = inr (rights-next c ss r (x c) X X j v (omega arith) (omega arith) h s a)
  rights-far c ss none (suc m) X j v l h s a = absurd (omega arith)
  rights-far c ss (tree d ts r) (suc m) X j v l h s a =
      elim (cover_cases _ (around t al c (traces t al ss)).right _ j v a) [
        | inl p ↦
            let (u, q, e) = p in
            inl (omega (
              arith,
              greatest_le (around t al c (traces t al ss)).right j u q,
              offset-from al (traces t al (tree d ts r)) m (X + separation al (around t al c (traces t al ss)) (around t al d (traces t al ts))),
            ))
        | inr p ↦
            elim (rights-far d ts r m _ j v (omega arith) h.rest s.rest p) [
              | inl z ↦ inl z
              | inr w ↦ inr (record { who = w.who; ext = w.ext; fills = Fills.beside w.fills; far = w.far })
            ]
      ]

  -- the rows below a box: the parent's stem where the contour says 0, else a cell of a child's
  under_left : (c : ℕ) (ss : Forest) (j v : ℕ) → S2 t al x c ss → Keeps t al x ss → Shown ss → box_depth t c < j
      → At (lefts al (middle t al c (traces t al ss)) 0 (traces t al ss)) (j - (box_depth t c + 1)) v → ToLeft t x (tree c ss none) j v (x c)
  under_left c none j v f h s g a = absurd (unfold lefts traces in a)
  under_left c (tree d ts r) j v f h s g a =
      elim (lefts-far d ts r (place t c (count (tree d ts r))) 0 (j - (box_depth t c + 1)) v (place-below t c _ (not_empty d ts r)) h s (subst (λ P. At (lefts al P 0 (traces t al (tree d ts r))) (j - (box_depth t c + 1)) v) (middle-is t al c (tree d ts r)) a)) [
        | inl z ↦ record { who = c; ext = 0; fills = Fills.stem {c = c} {j = j} {ss = tree d ts r} g (omega (arith, lefts-row (tree d ts r) _ 0 (j - (box_depth t c + 1)) v s a)); far = omega arith }
        | inr w ↦ record { who = w.who; ext = w.ext; fills = Fills.under g w.fills; far = omega (arith, w.far, f (not_empty d ts r)) }
      ]

  under-right : (c : ℕ) (ss : Forest) (j v : ℕ) → S2 t al x c ss → Keeps t al x ss → Shown ss → box_depth t c < j
      → At (rights al (middle t al c (traces t al ss)) 0 (traces t al ss)) (j - (box_depth t c + 1)) v → ToRight t x (tree c ss none) j v (x c)
  under-right c none j v f h s g a = absurd (unfold rights traces in a)
  under-right c (tree d ts r) j v f h s g a =
      elim (rights-far d ts r (place t c (count (tree d ts r))) 0 (j - (box_depth t c + 1)) v (place-below t c _ (not_empty d ts r)) h s (subst (λ P. At (rights al P 0 (traces t al (tree d ts r))) (j - (box_depth t c + 1)) v) (middle-is t al c (tree d ts r)) a)) [
        | inl z ↦ record { who = c; ext = 0; fills = Fills.stem {c = c} {j = j} {ss = tree d ts r} g (omega (arith, rights-row (tree d ts r) _ 0 (j - (box_depth t c + 1)) v s a)); far = omega arith }
        | inr w ↦ record { who = w.who; ext = w.ext; fills = Fills.under g w.fills; far = omega (arith, w.far, f (not_empty d ts r)) }
      ]

  pub least : (F : Forest) → Keeps t al x F → Shown F
  unfolding around contour
  least none h = tt
  least (tree c ss r) h =
      record {
        left = λ j v a. elim (at_boxes (box_depth t c + 1) 0 _ j v a) [
          | inl p ↦ record { who = c; ext = box_width t c; fills = Fills.box {c = c} {j = j} (omega arith); far = omega arith }
          | inr p ↦ under_left c ss j v h.s2 h.children (least ss h.children) (omega arith) p.1
        ];
        right = λ j v a. elim (at_boxes (box_depth t c + 1) (box_width t c) _ j v a) [
          | inl p ↦ record { who = c; ext = box_width t c; fills = Fills.box {c = c} {j = j} (omega arith); far = omega arith }
          | inr p ↦ under-right c ss j v h.s2 h.children (least ss h.children) (omega arith) p.1
        ];
        rest = least r h.rest;
      }

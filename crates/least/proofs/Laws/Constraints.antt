-- 000's Bd2, Bd3, Bd4 and Bd6 from S1 to S5: the proofs behind proofs/Constraints.antt. Nothing that a reader must believe stands here. Assumes nothing.
use Rattle.std.specs.Prelude.{ℕ, suc, ◌+◌, ◌≤◌, ◌<◌, ◌≡◌, refl, ◌⊎◌, length, T, pos, ◌≤ℤ◌, ◌<ℤ◌}
use Rattle.std.proofs.Common.{sym, ap, inl, inr, arith}
use Rattle.std.proofs.Math.Decide.{dec_lt}
use Rattle.whole.proofs.Laws.Whole.{whole, sum, lt_or_le}
use Rattle.plan.specs.Lists.{At}
use Rattle.plan.proofs.Laws.Lists.{at_same}
use Rattle.plan.specs.Plan.{Table, Is, Sound, box_width, box_depth, parent, kind, children, child, appointed, next, earlier, row}
use Rattle.plan.proofs.Laws.Plan.{child-read, child_show}
use Rattle.plan.proofs.Laws.Paths.{Below, from_parents, lower, within-self, within-below, below-within, below_root, below_split, below-child, row-child}
use Rattle.plan.proofs.Laws.Siblings.{Earlier, says_earlier}
use Rattle.rules.specs.Placement.{Placement, right, base}
use Rattle.rules.specs.Rules.{Keeps}
use Rattle.rules.proofs.Laws.Extents.{y-row, base-row}
use Rattle.least.specs.Vertical.{vertical_place, Apart, under}

-- ---- two cells of a plan: one is at or below the other, or they are under two siblings
pub data Stand (t : Table) (a b : ℕ) : Type 0 where
  above : Below t b a → Stand t a b
  beneath : Below t a b → Stand t a b
  before : T (earlier t a b) → Stand t a b
  after : T (earlier t b a) → Stand t a b

module _ (t : Table) (sound : Sound t) where
  -- under children p and q of one cell, p first
  parted : (f i j p q a b : ℕ) → At (children t f) i p → At (children t f) j q → i < j → Below t a p → Below t b q → T (earlier t a b)
  parted f i j p q a b h k l u v =
      (says_earlier t a b).show (record {
        p = p;
        q = q;
        elder = record { c = f; order = record { i = i; j = j; less = l; first = h; second = k } };
        a_under = below-within t sound u;
        b_under = below-within t sound v;
      })

  -- what is said of a and f holds of a and a child of f
  earlier-child : (a f i s : ℕ) → At (children t f) i s → T (earlier t a f) → Is t f → T (earlier t a s)
  earlier-child a f i s h e is =
      let k : Earlier t a f = (says_earlier t a f).read e in
      (says_earlier t a s).show (record { p = k.p; q = k.q; elder = k.elder; a_under = k.a_under; b_under = below-within t sound (below-child i s h (within-below t sound k.q f is k.b_under)) })

  earlier-of-child : (f i s b : ℕ) → At (children t f) i s → T (earlier t f b) → Is t f → T (earlier t s b)
  earlier-of-child f i s b h e is =
      let k : Earlier t f b = (says_earlier t f b).read e in
      (says_earlier t s b).show (record { p = k.p; q = k.q; elder = k.elder; a_under = below-within t sound (below-child i s h (within-below t sound k.p f is k.a_under)); b_under = k.b_under })

  -- under one cell f: b its child, a at or below f
  beside : (a f j b : ℕ) → At (children t f) j b → Below t a f → Stand t a b
  beside a f j b k u = go (below_split u)
    where
      three : (i s : ℕ) → At (children t f) i s → Below t a s → Dec (i < j) → Dec (j < i) → Stand t a b
      three i s h w (yes l) _ = Stand.before (parted f i j s b a b h k l w Below.here)
      three i s h w (no _) (yes l) = Stand.after (parted f j i b s b a k h l Below.here w)
      three i s h w (no m) (no n) =
          let e : i ≡ j = omega arith in
          let same : s ≡ b = at_same (children t f) j s b (rw e at h) k in
          let v : Below t a b = rw same at w in
          Stand.beneath v

      go : (a ≡ f) ⊎ ((i : ℕ) × (s : ℕ) × At (children t f) i s × Below t a s) → Stand t a b
      go (inl e) = let h : At (children t a) j b = rw e k in Stand.above (Below.down j b h Below.here)
      go (inr (i, s, h, w)) = three i s h w (dec_lt i j) (dec_lt j i)

  pub stand : (a b : ℕ) → Is t a → Is t b → Stand t a b
  stand a b i = from_parents t sound (λ b. Is t b → Stand t a b) (λ _. Stand.beneath (below_root t sound a i)) step b
    where
      next_one : (m : ℕ) → Is t (suc m) → Is t (parent t (suc m)) → (j : ℕ) → At (children t (parent t (suc m))) j (suc m) → Stand t a (parent t (suc m)) → Stand t a (suc m)
      next_one m is up j h (Stand.above w) = Stand.above (below-child j (suc m) h w)
      next_one m is up j h (Stand.beneath w) = beside a (parent t (suc m)) j (suc m) h w
      next_one m is up j h (Stand.before e) = Stand.before (earlier-child a (parent t (suc m)) j (suc m) h e up)
      next_one m is up j h (Stand.after e) = Stand.after (earlier-of-child (parent t (suc m)) j (suc m) a h e up)

      step : (m : ℕ) → (Is t (parent t (suc m)) → Stand t a (parent t (suc m))) → Is t (suc m) → Stand t a (suc m)
      step m g is =
          let up : Is t (parent t (suc m)) = omega (arith, lower t sound m) in
          let (j, h) = child_show t (parent t (suc m)) (suc m) (record { low = omega arith; is = is; of = refl }) in
          next_one m is up j h (g up)

  -- what is below a cell, and is not the cell, lies below its box
  below_row : {a c : ℕ} → Below t a c → (a ≡ c) ⊎ (row t c + box_depth t c < row t a)
  below_row Below.here = inl refl
  below_row (Below.down {a = a} {c = c} i s h w) = inr (go (below_row w))
    where
      go : (a ≡ s) ⊎ (row t s + box_depth t s < row t a) → row t c + box_depth t c < row t a
      go (inl e) = omega (arith, row-child t sound c i s h, ap (row t) e)
      go (inr l) = omega (arith, row-child t sound c i s h)

-- ---- a placement that keeps S1 to S5
module _ (t : Table) (sound : Sound t) (p : Placement) (al : ℕ) (k : Keeps t p al) where
  -- Bd2. "If a cell p has k sons q₁ .. q_k, then x(p) = x(q of number (k+1)/2, rounded up)": S2 itself, so of a choice the first (document 02, E6)
  pub bd2 : (c : ℕ) → Is t c → 1 ≤ length (children t c) → p.x c ≡ p.x (child t c (appointed (kind t c) (length (children t c))))
  bd2 = k.s2.flush

  -- Bd3. "x(q_i) + W(q_i) < x(q_{i+1})" for neighbouring sons
  pub bd3 : (u v : ℕ) → Is t u → T (next t u v) → right t p u <ℤ p.x v
  bd3 u v i n = k.s3.ends u v n u i (within-self t sound u)

  -- boxes of two cells under two siblings that share a row
  boxes : (a b : ℕ) → Is t a → Is t b → T (earlier t a b) → p.y a ≤ℤ base t p b → p.y b ≤ℤ base t p a → right t p a <ℤ p.x b
  unfolding base
  boxes a b i j e u v = go (lt_or_le (p.y a) (p.y b))
    where
      tall : (c : ℕ) → p.y c ≤ℤ base t p c
      tall c = omega (whole, sum (p.y c) (pos (box_depth t c)))

      go : (p.y a <ℤ p.y b) ⊎ (p.y b ≤ℤ p.y a) → right t p a <ℤ p.x b
      go (inl l) = k.s4.box a b i j e (p.y b) (record { top = omega whole; low = v }) (inl (record { top = omega whole; low = tall b }))
      go (inr l) = k.s4.box a b i j e (p.y a) (record { top = omega whole; low = tall a }) (inl (record { top = l; low = u }))

  -- VP is the last row of the box
  pub vertical_position : (a : ℕ) → Is t a → base t p a ≡ pos (vertical_place t a)
  vertical_position = base-row t p sound k.s1

  -- Bd4. "If VP(p) = VP(q) and x(p) < x(q), then max {x(s) + W(s) | s is a son of p} < min {x(s) | s is a son of q}."
  pub bd4 : (a b : ℕ) → Is t a → Is t b → vertical_place t a ≡ vertical_place t b → p.x a <ℤ p.x b
      → (i j s q : ℕ) → At (children t a) i s → At (children t b) j q → right t p s <ℤ p.x q
  unfolding right
  bd4 a b ia ib e l i j s q h g = go (stand t sound a b ia ib)
    where
      is_s : Is t s
      is_s = (child-read t a i s h).is

      is-q : Is t q
      is-q = (child-read t b j q g).is

      not_same : ¬ (a ≡ b)
      not_same z = let f = ap p.x z in absurd (omega whole)

      deep : (c : ℕ) → Is t c → p.y c ≡ pos (row t c)
      deep = y-row t p sound k.s1

      base-is : (c : ℕ) → Is t c → base t p c ≡ pos (row t c + box_depth t c)
      base-is = vertical_position

      first : T (earlier t a b) → right t p s <ℤ p.x q
      first w =
          boxes s q is_s is-q (earlier-child t sound s b j q g (earlier-of-child t sound a i s b h w ia) ib)
          (omega (whole, deep s is_s, base-is q is-q, row-child t sound a i s h, row-child t sound b j q g))
          (omega (whole, deep q is-q, base-is s is_s, row-child t sound a i s h, row-child t sound b j q g))

      wrong : T (earlier t b a) → ⊥
      wrong w =
          let r = boxes b a ib ia w (omega (whole, deep b ib, base-is a ia)) (omega (whole, deep a ia, base-is b ib)) in
          omega (whole, sum (p.x b) (pos (box_width t b)))

      under : {c d : ℕ} → Below t d c → row t c + box_depth t c ≡ row t d + box_depth t d → ¬ (d ≡ c) → ⊥
      under {c} {d} w m n = elim (below_row t sound w) [ inl z ↦ n z | inr z ↦ omega arith ]

      go : Stand t a b → right t p s <ℤ p.x q
      go (Stand.above w) = absurd (under w e (λ z. not_same (sym z)))
      go (Stand.beneath w) = absurd (under w (sym e) not_same)
      go (Stand.before w) = first w
      go (Stand.after w) = absurd (wrong w)

  -- Bd6. "If p and q are different cells, then d(Area(p), Area(q)) ≥ 1."
  pub bd6 : (a b : ℕ) → Is t a → Is t b → ¬ (a ≡ b) → Apart t p a b
  bd6 a b ia ib n = go (stand t sound a b ia ib)
    where
      deep : (c : ℕ) → Is t c → p.y c ≡ pos (row t c)
      deep = y-row t p sound k.s1

      base-is : (c : ℕ) → Is t c → base t p c ≡ pos (row t c + box_depth t c)
      base-is = vertical_position

      rows : (base t p a <ℤ p.y b) ⊎ (p.y b ≤ℤ base t p a) → (base t p b <ℤ p.y a) ⊎ (p.y a ≤ℤ base t p b) → T (earlier t a b) ⊎ T (earlier t b a) → Apart t p a b
      rows (inl l) _ _ = Apart.over l
      rows (inr l) (inl m) _ = Apart.under m
      rows (inr l) (inr m) (inl e) = Apart.left_of (boxes a b ia ib e m l)
      rows (inr l) (inr m) (inr e) = Apart.right_of (boxes b a ib ia e l m)

      beside-one : T (earlier t a b) ⊎ T (earlier t b a) → Apart t p a b
      beside-one e = rows (lt_or_le (base t p a) (p.y b)) (lt_or_le (base t p b) (p.y a)) e

      go : Stand t a b → Apart t p a b
      go (Stand.above w) = elim (below_row t sound w) [ inl z ↦ absurd (n (sym z)) | inr z ↦ Apart.over (omega (whole, deep b ib, base-is a ia)) ]
      go (Stand.beneath w) = elim (below_row t sound w) [ inl z ↦ absurd (n z) | inr z ↦ Apart.under (omega (whole, deep a ia, base-is b ib)) ]
      go (Stand.before e) = beside-one (inl e)
      go (Stand.after e) = beside-one (inr e)

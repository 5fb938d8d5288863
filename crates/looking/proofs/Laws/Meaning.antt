-- The rules as the code tests them are the rules: so what the search finds is the verdict. Assumes nothing.
use Rattle.std.specs.Prelude.{◌≡◌, Bool, ◌&&◌, ◌⊎◌, length, T, leb, ltb, ℤ, ◌+ℤ◌, ◌-ℤ◌, ◌≤ℤ◌, ◌<ℤ◌}
use Rattle.std.proofs.Math.Path.{refl}
use Rattle.std.proofs.Common.{inl, inr, arith}
use Prim.Native.Nat.{ℕ, zero, suc, ◌+◌, ◌≤◌}
use Rattle.std.proofs.Math.Decide.{dec_le}
use Rattle.std.proofs.Math.Dec.{eqb}
use Rattle.std.proofs.Math.IntN.{pos}
use Rattle.std.specs.Int.Signed.{le_z, lt_z}
use Rattle.whole.proofs.Laws.Whole.{whole, sum, diff, lt_or_le}
use Rattle.whole.specs.Says.{Says, only, eq_z}
use Rattle.whole.proofs.Laws.Says.{that_is, both, either, whenever, says_le, says_eq, says_le_z, says_lt_z, says_eq_z, same_test, says_lt}
use Rattle.plan.specs.Limits.{farthest}
use Rattle.plan.proofs.Laws.Lists.{at_less}
use Rattle.plan.specs.Plan.{Table, Is, Sound, parent, children, box_width, box_depth, within, subtree}
use Rattle.plan.proofs.Laws.Plan.{subtree-read, subtree_show}
use Rattle.plan.proofs.Laws.Paths.{below_split, within-below, within-self}
use Rattle.rules.specs.Placement.{Placement, right, base, bottom}
use Rattle.rules.proofs.Laws.Extremes.{most-all, most-one}
use Rattle.rules.specs.Search.{lowest}
use Rattle.rules.proofs.Laws.Search.{lowest-same}
use Rattle.rules.specs.Tests.{share, flush, kept1, meets, box4, stem4, test}
use Rattle.rules.specs.Verdict.{verdict}
use Rattle.spans.proofs.Laws.Counted.{flush-is}
use Rattle.spans.proofs.Laws.Spans.{earlier-is, after_one-is, before_one-is}
use Rattle.looking_sights.specs.Sees.{Lifts, Sees, Looked}
use Rattle.looking_sights.specs.Sights.{Sights}
use Rattle.looking.specs.Passes.{pass1, pass2, pass3, pass3_ends, pass3_starts, pass4, pass4_box, pass4_stem, pass5, passes, pair, row_found, rule_found, all_found}

-- ---- tests put together
only_same : {p q p' q' : Bool} → p ≡ p' → q ≡ q' → only p q ≡ only p' q'
only_same e f = rw (e, f)

and_same : {p q p' q' : Bool} → p ≡ p' → q ≡ q' → p && q ≡ p' && q'
and_same e f = rw (e, f)

module _ (z w : ℤ) (m n : ℕ) (h : Lifts z m) (k : Lifts w n) where
  eq_lift : eqb m n ≡ eq_z z w
  eq_lift = same_test (that_is (says_eq m n) (λ e. omega whole) (λ e. omega whole)) (says_eq_z z w)

  lt_lift : ltb m n ≡ lt_z z w
  lt_lift = same_test (that_is (says_lt m n) (λ e. omega whole) (λ e. omega whole)) (says_lt_z z w)

module _ (t : Table) (p : Placement) (s : Sights) (sound : Sound t) (g : Sees t p s) where
  pub right_lift : (c : ℕ) → Is t c → Lifts (right t p c) (s c).right
  unfolding right
  right_lift c i = omega (whole, sum (p.x c) (pos (box_width t c)), g.xs c i, g.rights c i)

  base_lift : (c : ℕ) → Is t c → Lifts (base t p c) (s c).base
  unfolding base
  base_lift c i = omega (whole, sum (p.y c) (pos (box_depth t c)), g.ys c i, g.bases c i)

  -- ---- bottoms
  bottom-up : (c a : ℕ) → Is t a → T (within t c a) → base t p a ≤ℤ bottom t p c
  unfolding bottom
  bottom-up c a i w = most-all (base t p) (base t p c) (subtree t c) a (subtree_show t c a i w)

  bottom-most : (c : ℕ) (z : ℤ) → Is t c → ((a : ℕ) → Is t a → T (within t c a) → base t p a ≤ℤ z) → bottom t p c ≤ℤ z
  unfolding bottom
  bottom-most c z i h =
      most-one (base t p) (base t p c) (subtree t c) (λ y. y ≤ℤ z) (h c i (within-self t sound c))
      (λ a m. h a (subtree-read t c a m).0 (subtree-read t c a m).1)

  pub bottom_lift : (c : ℕ) → Is t c → Lifts (bottom t p c) (s c).bottom
  bottom_lift c i =
      let r = g.bottoms.one c i in
      let low : bottom t p c ≤ℤ base t p r.cell =
      bottom-most c (base t p r.cell) i (λ a j w. omega (whole, base_lift a j, base_lift r.cell r.is, r.so, g.bottoms.all c a j w)) in
      omega (whole, low, bottom-up c r.cell r.is r.under, base_lift r.cell r.is, r.so)

  -- a bottom below the base is that of a cell with children
  bears : (c : ℕ) → Is t c → base t p c <ℤ bottom t p c → 1 ≤ length (children t c)
  bears c i h = go (dec_le 1 (length (children t c)))
    where
      alone : ¬ (1 ≤ length (children t c)) → (a : ℕ) → Is t a → T (within t c a) → base t p a ≤ℤ base t p c
      alone n a j w = elim (below_split (within-below t sound c a j w)) [
        | inl e ↦ rw e (omega whole)
        | inr (k, q, m, _) ↦ absurd (n (omega (arith, at_less (children t c) k q m)))
      ]

      go : Dec (1 ≤ length (children t c)) → 1 ≤ length (children t c)
      go (yes d) = d
      go (no d) = let l = bottom-most c (base t p c) i (alone d) in absurd (let z : base t p c <ℤ base t p c = omega whole in omega whole)

  base-down : (c : ℕ) → p.y c ≤ℤ base t p c
  unfolding base
  base-down c = omega (whole, sum (p.y c) (pos (box_depth t c)))

  -- rows y to e meet b's box or stem: they meet the rows from its y to its bottom
  says_rows : (y e : ℤ) (b : ℕ) → Is t b → Says (meets t p y e b) ((y ≤ℤ e) × (y ≤ℤ bottom t p b) × (p.y b ≤ℤ e))
  unfolding meets share
  says_rows y e b i =
      that_is
      (either (both (both (says_le_z y e) (says_le_z (p.y b) (base t p b))) (both (says_le_z y (base t p b)) (says_le_z (p.y b) e)))
      (both (says_le 1 (length (children t b))) (both (both (says_le_z y e) (says_le_z (base t p b +ℤ pos 1) (bottom t p b))) (both (says_le_z y (bottom t p b)) (says_le_z (base t p b +ℤ pos 1) e)))))
      there (λ h. back h.0 h.1 h.2 (lt_or_le (base t p b) y))
    where
      down : base t p b ≤ℤ bottom t p b
      down = bottom-up b b i (within-self t sound b)

      there : (((y ≤ℤ e) × (p.y b ≤ℤ base t p b)) × ((y ≤ℤ base t p b) × (p.y b ≤ℤ e)))
          ⊎ ((1 ≤ length (children t b)) × (((y ≤ℤ e) × ((base t p b +ℤ pos 1) ≤ℤ bottom t p b)) × ((y ≤ℤ bottom t p b) × ((base t p b +ℤ pos 1) ≤ℤ e))))
          → (y ≤ℤ e) × (y ≤ℤ bottom t p b) × (p.y b ≤ℤ e)
      there (inl h) = (h.0.0, omega (whole, down, h.1.0), h.1.1)
      there (inr h) = (h.1.0.0, h.1.1.0, omega (whole, base-down b, h.1.1.1, sum (base t p b) (pos 1)))

      back : y ≤ℤ e → y ≤ℤ bottom t p b → p.y b ≤ℤ e → (base t p b <ℤ y) ⊎ (y ≤ℤ base t p b)
          → (((y ≤ℤ e) × (p.y b ≤ℤ base t p b)) × ((y ≤ℤ base t p b) × (p.y b ≤ℤ e)))
          ⊎ ((1 ≤ length (children t b)) × (((y ≤ℤ e) × ((base t p b +ℤ pos 1) ≤ℤ bottom t p b)) × ((y ≤ℤ bottom t p b) × ((base t p b +ℤ pos 1) ≤ℤ e))))
      back u v w (inl h) = inr (bears b i (omega whole), ((u, omega (whole, sum (base t p b) (pos 1))), (v, omega (whole, sum (base t p b) (pos 1)))))
      back u v w (inr h) = inl ((u, base-down b), (h, w))

  module _ (al a b : ℕ) (i : Is t a) (j : Is t b) where
    -- ---- S1
    due_lift : (m : ℕ) → Is t (suc m) → (s (suc m)).due ≡ (s (parent t (suc m))).base + 1
    due_lift m i = g.dues.each (suc m) (parent t (suc m)) (record { low = omega arith; is = i; of = refl })

    one : (c : ℕ) → Is t c → (eqb (s c).y (s c).due && only (eqb c 0) (eqb (s c).x farthest)) ≡ kept1 t p c
    unfolding kept1
    one zero i =
        same_test
        (that_is (both (says_eq (s 0).y (s 0).due) (whenever (says_eq 0 0) (says_eq (s 0).x farthest)))
        (λ h. (let e = h.1 refl in omega (whole, g.xs 0 i), omega (whole, g.ys 0 i, g.dues.root, h.0)))
        (λ h. (omega (whole, g.ys 0 i, g.dues.root, h.1), λ e. omega (whole, g.xs 0 i, h.0))))
        (both (says_eq_z (p.x 0) (pos 0)) (says_eq_z (p.y 0) (pos 0)))
    one (suc m) i =
        let f : Is t (parent t (suc m)) = omega (arith, sound (suc m) (omega arith) i) in
        same_test
        (that_is (both (says_eq (s (suc m)).y (s (suc m)).due) (whenever (says_eq (suc m) 0) (says_eq (s (suc m)).x farthest)))
        (λ h. omega (whole, g.ys (suc m) i, due_lift m i, h.0, base_lift (parent t (suc m)) f, sum (base t p (parent t (suc m))) (pos 1)))
        (λ h. (omega (whole, g.ys (suc m) i, due_lift m i, h, base_lift (parent t (suc m)) f, sum (base t p (parent t (suc m))) (pos 1)), λ e. absurd (omega arith))))
        (says_eq_z _ _)

    -- ---- S2
    two : (eqb (s b).parent a && eqb (s b).nth (s a).middle) ≡ flush t a b
    two = rw (g.parents b j, g.middles a i) (flush-is t g.counted a b i j)

    -- ---- S4
    box : (leb (s a).y (s b).bottom && leb (s b).y (s a).base) ≡ meets t p (p.y a) (base t p a) b
    box =
        same_test
        (that_is (both (says_le (s a).y (s b).bottom) (says_le (s b).y (s a).base))
        (λ h. (base-down a, omega (whole, g.ys a i, bottom_lift b j, h.0), omega (whole, g.ys b j, base_lift a i, h.1)))
        (λ h. (omega (whole, g.ys a i, bottom_lift b j, h.1), omega (whole, g.ys b j, base_lift a i, h.2))))
        (says_rows (p.y a) (base t p a) b j)

    stem : (ltb (s a).base (s a).bottom && (ltb (s a).base (s b).bottom && leb (s b).y (s a).bottom))
        ≡ (leb 1 (length (children t a)) && meets t p (base t p a +ℤ pos 1) (bottom t p a) b)
    stem =
        same_test
        (that_is (both (says_lt (s a).base (s a).bottom) (both (says_lt (s a).base (s b).bottom) (says_le (s b).y (s a).bottom)))
        (λ h.
        let k : base t p a <ℤ bottom t p a = omega (whole, base_lift a i, bottom_lift a i, h.0) in
        (bears a i k, (omega (whole, k, sum (base t p a) (pos 1)), omega (whole, base_lift a i, bottom_lift b j, h.1.0, sum (base t p a) (pos 1)), omega (whole, g.ys b j, bottom_lift a i, h.1.1))))
        (λ h. (
          omega (whole, base_lift a i, bottom_lift a i, h.1.0, sum (base t p a) (pos 1)),
          (omega (whole, base_lift a i, bottom_lift b j, h.1.1, sum (base t p a) (pos 1)), omega (whole, g.ys b j, bottom_lift a i, h.1.2)),
        )))
        (both (says_le 1 (length (children t a))) (says_rows (base t p a +ℤ pos 1) (bottom t p a) b j))

    -- ---- S5
    five : leb ((s a).right + 1) ((s b).x + al) ≡ le_z (right t p a -ℤ p.x b +ℤ pos 1) (pos al)
    five =
        same_test
        (that_is (says_le ((s a).right + 1) ((s b).x + al))
        (λ h. omega (whole, right_lift a i, g.xs b j, diff (right t p a) (p.x b), sum (right t p a -ℤ p.x b) (pos 1)))
        (λ h. omega (whole, right_lift a i, g.xs b j, diff (right t p a) (p.x b), sum (right t p a -ℤ p.x b) (pos 1))))
        (says_le_z (right t p a -ℤ p.x b +ℤ pos 1) (pos al))

    left_of : ltb (s a).x (s b).x ≡ lt_z (p.x a) (p.x b)
    left_of = lt_lift (p.x a) (p.x b) _ _ (g.xs a i) (g.xs b j)

    ends-before : ltb (s a).right (s b).x ≡ lt_z (right t p a) (p.x b)
    ends-before = lt_lift (right t p a) (p.x b) _ _ (right_lift a i) (g.xs b j)

    pub passes-test : (r : ℕ) → passes al r a b (s a) (s b) ≡ test t p al r a b
    unfolding passes test pass1 pass2 pass3 pass3_ends pass3_starts pass4 pass4_box pass4_stem pass5 box4 stem4
    passes-test zero = refl
    passes-test (suc zero) = only_same {p = eqb a b} refl (one a i)
    passes-test (suc (suc zero)) = only_same two (eq_lift (p.x a) (p.x b) _ _ (g.xs a i) (g.xs b j))
    passes-test (suc (suc (suc zero))) =
        and_same (only_same (after_one-is t sound g.spans a b i j) ends-before) (only_same (before_one-is t sound g.spans a b i j) left_of)
    passes-test (suc (suc (suc (suc zero)))) =
        only_same (earlier-is t sound g.spans a b i j) (and_same (only_same box ends-before) (only_same stem left_of))
    passes-test (suc (suc (suc (suc (suc zero))))) = only_same (earlier-is t sound g.spans a b i j) five
    passes-test (suc (suc (suc (suc (suc (suc r)))))) = refl

-- what the search finds is the verdict
pub found-verdict : (t : Table) (p : Placement) (s : Sights) → Sound t → Looked t p s → (al : ℕ) → all_found s al (length t) ≡ verdict t p al
unfolding all_found rule_found row_found pair verdict lowest
found-verdict t p s sound l al =
    lowest-same (λ r a b. passes al r a b (s a) (s b)) (test t p al) (length t)
    (λ r a b i j. rw (l.agree.same a i, l.agree.same b j) (passes-test t p l.seen sound l.sees al a b i j r))

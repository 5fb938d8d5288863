-- Laws of the definitions in specs/Spans.antt. Assumes nothing.
use Rattle.std.specs.Prelude.{◌≡◌, refl, ◌⊎◌, ◌&&◌, ℕ, zero, suc, ◌≤◌, ◌<◌, length, get_or, leb, ltb}
use Rattle.std.proofs.Common.{sym, subst, inl, inr}
use native.Mathlib.Omega.{arith}
use Rattle.std.proofs.Math.Decide.{dec_lt}
use Rattle.std.proofs.Math.Dec.{T}
use Rattle.whole.specs.Says.{Says}
use Rattle.whole.proofs.Laws.Says.{that_is, both, says_le, same_test, says_lt}
use Rattle.plan.specs.Lists.{At}
use Rattle.plan.proofs.Laws.Lists.{at_less, at_get_or, Some, says_some}
use Rattle.plan.specs.Plan.{Table, Is, Sound, parent, children, path, within, next, earlier}
use Rattle.plan.proofs.Laws.Plan.{child-read, child_show}
use Rattle.plan.proofs.Laws.Paths.{Below, within-below}
use Rattle.plan.proofs.Laws.Siblings.{Earlier, says_earlier, Neighbours, says_next}
use Rattle.rules.specs.Tests.{after_one, before_one}
use Rattle.spans.proofs.Laws.Kin.{Kin, kin}
use Rattle.spans.specs.Spans.{Spans}

module _ (t : Table) (sound : Sound t) {first end from to : ℕ → ℕ} (sp : Spans t first end from to) where
  apart : (c i j p q : ℕ) → i < j → At (children t c) i p → At (children t c) j q → end p ≤ first q
  apart c i zero p q l h k = absurd (omega arith)
  apart c i (suc j) p q l h k = go (dec_lt i j) (apart c i j p (get_or (children t c) j 0))
    where
      m : At (children t c) j (get_or (children t c) j 0)
      m = at_get_or (children t c) j 0 (omega (arith, at_less (children t c) (suc j) q k))

      go : Dec (i < j) → (i < j → At (children t c) i p → At (children t c) j (get_or (children t c) j 0) → end p ≤ first (get_or (children t c) j 0)) → end p ≤ first q
      go (yes d) g = omega (arith, g d h m, sp.beside c j _ q m k, sp.some _ (child-read t c j _ m).is)
      go (no d) g = let e : i ≡ j = omega arith in omega (arith, sp.beside c i p q h (rw e k))

  record Inside (c a : ℕ) : Type 0 where
    low : first c ≤ first a
    high : end a ≤ end c
    strict : (a ≡ c) ⊎ (first c < first a)

  below-inside : {a c : ℕ} → Below t a c → Inside c a
  below-inside Below.here = record { low = omega arith; high = omega arith; strict = inl refl }
  below-inside (Below.down {a = a} {c = c} i s h w) =
      let k : Inside s a = below-inside w in
      let u = sp.under c i s h in
      record { low = omega arith; high = omega arith; strict = inr (omega arith) }

  inside : (c a : ℕ) → Is t a → T (within t c a) → Inside c a
  inside c a i h = below-inside (within-below t sound c a i h)

  earlier_apart : (a b : ℕ) → Is t a → Is t b → Earlier t a b → end a ≤ first b
  earlier_apart a b i j e =
      let o = e.elder.order in
      omega (arith, (inside e.p a i e.a_under).high, (inside e.q b j e.b_under).low, apart e.elder.c o.i o.j e.p e.q o.less o.first o.second)

  -- ---- at or below
  pub says_within : (c a : ℕ) → Is t c → Is t a → Says (leb (first c) (first a) && ltb (first a) (end c)) (T (within t c a))
  says_within c a i j = that_is (both (says_le (first c) (first a)) (says_lt (first a) (end c))) (λ h. go h.0 h.1 (kin t sound c a i j)) back
    where
      go : first c ≤ first a → first a < end c → Kin t c a → T (within t c a)
      go l h (Kin.above k) = k
      go l h (Kin.under k) = elim (inside a c i k).strict [
        | inl e ↦ subst (λ (z : ℕ). T (within t c z)) e (subst (λ (z : ℕ). T (within t z c)) (sym e) k)
        | inr m ↦ absurd (omega arith)
      ]
      go l h (Kin.before k) = absurd (omega (arith, earlier_apart c a i j k))
      go l h (Kin.after k) = absurd (omega (arith, earlier_apart a c j i k, sp.some a j))

      back : T (within t c a) → (first c ≤ first a) × (first a < end c)
      back k = let n = inside c a j k in (n.low, omega (arith, n.high, sp.some a j))

  -- no two cells begin at one number
  pub first-once : (a b : ℕ) → Is t a → Is t b → first a ≡ first b → a ≡ b
  first-once a b i j e =
      let w : T (within t a b) = (says_within a b i j).read ((both (says_le (first a) (first b)) (says_lt (first b) (end a))).show (omega arith, omega (arith, sp.some a i))) in
      elim (inside a b j w).strict [ inl q ↦ sym q | inr m ↦ absurd (omega arith) ]

  -- ---- earlier
  pub earlier-is : (a b : ℕ) → Is t a → Is t b → leb (end a) (first b) ≡ earlier t a b
  earlier-is a b i j = same_test (that_is (says_le (end a) (first b)) (λ h. go h (kin t sound a b i j)) (earlier_apart a b i j)) (says_earlier t a b)
    where
      go : end a ≤ first b → Kin t a b → Earlier t a b
      go h (Kin.above k) = absurd (omega (arith, (inside a b j k).high, sp.some b j))
      go h (Kin.under k) = absurd (omega (arith, (inside b a i k).low, sp.some a i))
      go h (Kin.before k) = k
      go h (Kin.after k) = absurd (omega (arith, earlier_apart b a j i k, sp.some a i, sp.some b j))

  -- ---- b is right after one that a is at or below
  pub after_one-is : (a b : ℕ) → Is t a → Is t b → (leb (from b) (first a) && ltb (first a) (first b)) ≡ after_one t a b
  unfolding after_one within
  after_one-is a b i j =
      same_test (that_is (both (says_le (from b) (first a)) (says_lt (first a) (first b))) (λ h. there b j h.0 h.1) (λ s. back s.at s.there ((says_next t s.at b).read s.passes)))
      (says_some (λ u. next t u b) (path t a))
    where
      found : (c k u b : ℕ) → At (children t c) k u → At (children t c) (suc k) b → from b ≤ first a → first a < first b → Some (λ u. next t u b) (path t a)
      found c k u b h g l m =
          let e = sp.elder c k u b h g in
          let f = sp.beside c k u b h g in
          let w : T (within t u a) = (says_within u a (child-read t c k u h).is i).read ((both (says_le (first u) (first a)) (says_lt (first a) (end u))).show (omega arith, omega arith)) in
          record { at = u; there = w; passes = (says_next t u b).show (record { c = c; order = record { i = k; first = h; second = g } }) }

      placed : (c k b : ℕ) → At (children t c) k b → from b ≤ first a → first a < first b → Some (λ u. next t u b) (path t a)
      placed c zero b h l m = absurd (omega (arith, sp.eldest c b h))
      placed c (suc k) b h l m = found c k (get_or (children t c) k 0) b (at_get_or (children t c) k 0 (omega (arith, at_less (children t c) (suc k) b h))) h l m

      there : (b : ℕ) → Is t b → from b ≤ first a → first a < first b → Some (λ u. next t u b) (path t a)
      there zero j l m = absurd (omega (arith, sp.root_from))
      there (suc b) j l m =
          let (k, h) = child_show t (parent t (suc b)) (suc b) (record { low = omega arith; is = j; of = refl }) in
          placed (parent t (suc b)) k (suc b) h l m

      back : (u : ℕ) → T (within t u a) → Neighbours t u b → (from b ≤ first a) × (first a < first b)
      back u w n =
          let k = inside u a i w in
          let o = n.order in
          let e = sp.elder n.c o.i u b o.first o.second in
          let f = sp.beside n.c o.i u b o.first o.second in
          (omega arith, omega (arith, sp.some a i))

  -- ---- a is right before one that b is at or below
  pub before_one-is : (a b : ℕ) → Is t a → Is t b → (leb (end a) (first b) && ltb (first b) (to a)) ≡ before_one t a b
  unfolding before_one within
  before_one-is a b i j =
      same_test (that_is (both (says_le (end a) (first b)) (says_lt (first b) (to a))) (λ h. there a i h.0 h.1) (λ s. back s.at s.there ((says_next t a s.at).read s.passes)))
      (says_some (λ v. next t a v) (path t b))
    where
      found : (c k a v : ℕ) → At (children t c) k a → At (children t c) (suc k) v → end a ≤ first b → first b < to a → Some (λ v. next t a v) (path t b)
      found c k a v h g l m =
          let e = sp.younger c k a v h g in
          let f = sp.beside c k a v h g in
          let w : T (within t v b) = (says_within v b (child-read t c (suc k) v g).is j).read ((both (says_le (first v) (first b)) (says_lt (first b) (end v))).show (omega arith, omega arith)) in
          record { at = v; there = w; passes = (says_next t a v).show (record { c = c; order = record { i = k; first = h; second = g } }) }

      placed : (c k a : ℕ) → At (children t c) k a → Dec (suc k < length (children t c)) → end a ≤ first b → first b < to a → Some (λ v. next t a v) (path t b)
      placed c k a h (yes d) l m = found c k a (get_or (children t c) (suc k) 0) h (at_get_or (children t c) (suc k) 0 d) l m
      placed c k a h (no d) l m = absurd (omega (arith, sp.youngest c k a h (omega (arith, at_less (children t c) k a h))))

      there : (a : ℕ) → Is t a → end a ≤ first b → first b < to a → Some (λ v. next t a v) (path t b)
      there zero i l m = absurd (omega (arith, sp.root_to))
      there (suc a) i l m =
          let (k, h) = child_show t (parent t (suc a)) (suc a) (record { low = omega arith; is = i; of = refl }) in
          placed (parent t (suc a)) k (suc a) h (dec_lt _ _) l m

      back : (v : ℕ) → T (within t v b) → Neighbours t a v → (end a ≤ first b) × (first b < to a)
      back v w n =
          let k = inside v b j w in
          let o = n.order in
          let e = sp.younger n.c o.i a v o.first o.second in
          let f = sp.beside n.c o.i a v o.first o.second in
          (omega arith, omega (arith, sp.some b j))

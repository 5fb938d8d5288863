-- Of two subtrees that are alike, every cell of the one has exactly one twin in the other, both ways. Assumes nothing.
use Rattle.std.specs.Prelude.{ℕ, zero, suc, ◌≤◌, List, [], ◌∷◌, ◌⊎◌, ◌≡◌, refl, T}
use Rattle.std.proofs.Common.{inl, inr, sym, arith}
use Rattle.plan.specs.Lists.{At}
use Rattle.plan.specs.Plan.{Table, Is, Sound, children, within}
use Rattle.plan.proofs.Laws.Plan.{child-read, child-place}
use Rattle.plan.proofs.Laws.Paths.{Below, below_split, below-within, within-below, below-is, child_less}
use Rattle.plan.proofs.Laws.Sums.{disjoint}
use Rattle.least.specs.Alike.{Alike, Twins, Twin}

-- ---- the other way round
pub alike_turned : {t u : Table} {cs ds : List ℕ} → Alike t u cs ds → Alike u t ds cs
alike_turned Alike.nil = Alike.nil
alike_turned (Alike.cons m l r) = Alike.cons (record { kinds = sym m.kinds; widths = sym m.widths; depths = sym m.depths }) (alike_turned l) (alike_turned r)

pub twins_turned : {t u : Table} {cs ds : List ℕ} {c d : ℕ} → Twins t u cs ds c d → Twins u t ds cs d c
twins_turned Twins.here = Twins.here
twins_turned (Twins.under v) = Twins.under (twins_turned v)
twins_turned (Twins.later v) = Twins.later (twins_turned v)

-- ---- a twin is at or below one of the siblings
twins_under : {t u : Table} {cs ds : List ℕ} {c d : ℕ} → Twins t u cs ds c d → (i : ℕ) × (s : ℕ) × At cs i s × Below t c s
twins_under (Twins.here {a = a}) = (0, a, refl, Below.here)
twins_under (Twins.under {a = a} v) = let (i, s, h, w) = twins_under v in (0, a, refl, Below.down i s h w)
twins_under (Twins.later v) = let (i, s, h, w) = twins_under v in (suc i, s, h, w)

module _ (t u : Table) where
  -- ---- there is one
  has : {cs ds : List ℕ} {c : ℕ} → Alike t u cs ds → (i s : ℕ) → At cs i s → Below t c s → (d : ℕ) × Twins t u cs ds c d
  has Alike.nil i s h w = absurd h
  has (Alike.cons {a = a} {b = b} m l r) (suc i) s h w = let (d, v) = has r i s h w in (d, Twins.later v)
  has {c = c} (Alike.cons {a = a} {b = b} {cs = cs} {ds = ds} m l r) zero s h w = go (below_split w) (λ i s h w. has l i s h w)
    where
      go : (c ≡ s) ⊎ ((i : ℕ) × (q : ℕ) × At (children t s) i q × Below t c q) → ((i q : ℕ) → At (children t a) i q → Below t c q → (d : ℕ) × Twins t u (children t a) (children u b) c d)
          → (d : ℕ) × Twins t u (a ∷ cs) (b ∷ ds) c d
      go (inl e) more = (b, rw (e, h) Twins.here)
      go (inr (i, q, k, x)) more = let (d, v) = more i q (rw h at k) x in (d, Twins.under v)

  module _ (st : Sound t) where
    below-least : {a c : ℕ} → Below t a c → c ≤ a
    below-least Below.here = omega arith
    below-least (Below.down {c = c} i s h w) = omega (arith, child_less t st c i s h, below-least w)

    -- ---- and no other: c is at or below one of the siblings at the most
    abbrev Parted : List ℕ → ℕ → Type 0
    Parted cs c = (i j x y : ℕ) → At cs i x → At cs j y → Below t c x → Below t c y → i ≡ j

    parted-children : (a c : ℕ) → Parted (children t a) c
    parted-children a c i j x y h k v w =
        let e : x ≡ y = disjoint t st a x y c (child-read t a i x h) (child-read t a j y k) (below-within t st v) (below-within t st w) in
        child-place t a i j y (rw e at h) k

    only : {cs ds : List ℕ} {c d f e : ℕ} → Twins t u cs ds c d → Twins t u cs ds f e → c ≡ f → Parted cs c → d ≡ e
    only Twins.here Twins.here z p = refl
    only (Twins.here {a = a}) (Twins.under v) z p = let (i, s, h, w) = twins_under v in absurd (omega (arith, child_less t st a i s h, below-least w))
    only (Twins.here {a = a}) (Twins.later v) z p =
        let (i, s, h, w) = twins_under v in
        absurd (omega (arith, p 0 (suc i) a s refl h Below.here (rw z w)))
    only (Twins.under {a = a} v) Twins.here z p = let (i, s, h, w) = twins_under v in absurd (omega (arith, child_less t st a i s h, below-least w))
    only (Twins.under {a = a} {c = c} v) (Twins.under x) z p = only v x z (parted-children a c)
    only (Twins.under {a = a} v) (Twins.later x) z p =
        let (i, s, h, w) = twins_under v in
        let (j, q, k, y) = twins_under x in
        absurd (omega (arith, p 0 (suc j) a q refl k (Below.down i s h w) (rw z y)))
    only (Twins.later v) (Twins.here {a = a}) z p =
        let (i, s, h, w) = twins_under v in
        absurd (omega (arith, p 0 (suc i) a s refl h (rw z Below.here) w))
    only (Twins.later v) (Twins.under {a = a} x) z p =
        let (i, s, h, w) = twins_under v in
        let (j, q, k, y) = twins_under x in
        absurd (omega (arith, p 0 (suc i) a s refl h (rw z (Below.down j q k y)) w))
    only (Twins.later v) (Twins.later x) z p = only v x z (λ i j a b h k w y. let e = p (suc i) (suc j) a b h k w y in omega arith)

    alone : (a c : ℕ) → Parted (a ∷ []) c
    alone a c zero zero x y h k v w = refl
    alone a c zero (suc j) x y h k v w = absurd k
    alone a c (suc i) zero x y h k v w = absurd h
    alone a c (suc i) (suc j) x y h k v w = absurd h

  module _ (st : Sound t) (su : Sound u) (a b : ℕ) (ia : Is t a) (ib : Is u b) (e : Alike t u (a ∷ []) (b ∷ [])) where
    under_top : (d : ℕ) → (i : ℕ) × (s : ℕ) × At (b ∷ []) i s × Below u d s → Below u d b
    under_top d (zero, s, h, w) = rw h at w
    under_top d (suc i, s, h, w) = absurd h

    pub twin : (c : ℕ) → Is t c → T (within t a c) → Twin t u a b c
    twin c ic w =
        let (d, v) = has e 0 a refl (within-below t st a c ic w) in
        let k = under_top d (twins_under (twins_turned v)) in
        record { cell = d; is = below-is u su ib k; under = below-within u su k; twins = v; alone = λ x y. only st y v refl (alone st a c) }

pub whole : (t u : Table) → Sound t → Sound u → (a b : ℕ) → Is t a → Is u b → Alike t u (a ∷ []) (b ∷ [])
    → ((c : ℕ) → Is t c → T (within t a c) → Twin t u a b c) × ((d : ℕ) → Is u d → T (within u b d) → Twin u t b a d)
whole t u st su a b ia ib e = (twin t u st su a b ia ib e, twin u t su st b a ib ia (alike_turned e))

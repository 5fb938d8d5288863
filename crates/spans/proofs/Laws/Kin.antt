-- Of two cells one is at or below the other, or one stands earlier than the other. Assumes nothing.
use Rattle.std.specs.Prelude.{◌≡◌, refl, ◌⊎◌, ℕ, suc, ◌<◌, T}
use Rattle.std.proofs.Common.{inl, inr, arith}
use Rattle.std.proofs.Math.Decide.{dec_lt}
use Rattle.plan.specs.Lists.{At}
use Rattle.plan.proofs.Laws.Lists.{at_same}
use Rattle.plan.specs.Plan.{Table, Is, Sound, parent, children, within}
use Rattle.plan.proofs.Laws.Plan.{child-read, child_show}
use Rattle.plan.proofs.Laws.Paths.{Below, lower, from_parents, below_split, below-within, within-below, below_root, within-self, within-child}
use Rattle.plan.proofs.Laws.Siblings.{Earlier}

pub data Kin (t : Table) (a b : ℕ) : Type 0 where
  above : T (within t a b) → Kin t a b
  under : T (within t b a) → Kin t a b
  before : Earlier t a b → Kin t a b
  after : Earlier t b a → Kin t a b

below_trans : {t : Table} {a b c : ℕ} → Below t a b → Below t b c → Below t a c
below_trans w Below.here = w
below_trans w (Below.down i s h v) = Below.down i s h (below_trans w v)

module _ (t : Table) (sound : Sound t) where
  -- what is within a cell is within what the cell is within
  pub within_trans : (c b a : ℕ) → Is t b → Is t a → T (within t c b) → T (within t b a) → T (within t c a)
  within_trans c b a i j h k = below-within t sound (below_trans (within-below t sound b a j k) (within-below t sound c b i h))

  -- the child b of f, and a
  module _ (f j b a : ℕ) (at : At (children t f) j b) (fi : Is t f) (ai : Is t a) where
    b_in : T (within t f b)
    b_in = within-child t sound f b b (child-read t f j b at) (within-self t sound b)

    bi : Is t b
    bi = (child-read t f j b at).is

    sibling : (i s : ℕ) → At (children t f) i s → T (within t s a) → Kin t a b
    sibling i s h w = go (dec_lt i j) (dec_lt j i)
      where
        go : Dec (i < j) → Dec (j < i) → Kin t a b
        go (yes l) d = Kin.before (record { p = s; q = b; elder = record { c = f; order = record { i = i; j = j; less = l; first = h; second = at } }; a_under = w; b_under = within-self t sound b })
        go (no l) (yes d) = Kin.after (record { p = b; q = s; elder = record { c = f; order = record { i = j; j = i; less = d; first = at; second = h } }; a_under = within-self t sound b; b_under = w })
        go (no l) (no d) =
            let e : i ≡ j = omega arith in
            let same : s ≡ b = at_same (children t f) j s b (rw (← e) h) at in
            Kin.under (rw same at w)

    from-parent : Kin t a f → Kin t a b
    from-parent (Kin.above h) = Kin.above (within_trans a f b fi bi h b_in)
    from-parent (Kin.under h) = go (below_split (within-below t sound f a ai h))
      where
        go : (a ≡ f) ⊎ ((i : ℕ) × (s : ℕ) × At (children t f) i s × Below t a s) → Kin t a b
        go (inl e) = Kin.above (rw e b_in)
        go (inr (i, s, h, w)) = sibling i s h (below-within t sound w)
    from-parent (Kin.before e) = Kin.before (record { p = e.p; q = e.q; elder = e.elder; a_under = e.a_under; b_under = within_trans e.q f b fi bi e.b_under b_in })
    from-parent (Kin.after e) = Kin.after (record { p = e.p; q = e.q; elder = e.elder; a_under = within_trans e.p f b fi bi e.a_under b_in; b_under = e.b_under })

  pub kin : (a b : ℕ) → Is t a → Is t b → Kin t a b
  kin a b ai = from_parents t sound (λ b. Is t b → Kin t a b) (λ i. Kin.under (below-within t sound (below_root t sound a ai))) step b
    where
      step : (m : ℕ) → (Is t (parent t (suc m)) → Kin t a (parent t (suc m))) → Is t (suc m) → Kin t a (suc m)
      step m g i =
          let fi : Is t (parent t (suc m)) = omega (arith, lower t sound m) in
          let (j, h) = child_show t (parent t (suc m)) (suc m) (record { low = omega arith; is = i; of = refl }) in
          from-parent (parent t (suc m)) j (suc m) a h fi ai (g fi)

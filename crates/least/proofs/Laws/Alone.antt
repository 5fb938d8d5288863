-- Two placements that keep S1 and S2, with the same distances between neighbouring siblings, have the same x's. Assumes nothing.
use Rattle.std.specs.Prelude.{ℕ, zero, suc, ◌≡◌, refl, length, get_or, T, ◌-ℤ◌}
use Rattle.std.proofs.Common.{sym, ◌∙◌, arith}
use Rattle.whole.proofs.Laws.Whole.{whole, diff}
use Rattle.plan.specs.Lists.{At}
use Rattle.plan.proofs.Laws.Lists.{at_less, at_get_or, at_same}
use Rattle.plan.specs.Plan.{Table, Is, Sound, parent, kind, children, child, appointed, place, next}
use Rattle.plan.proofs.Laws.Plan.{child_show, appointed-at}
use Rattle.plan.proofs.Laws.Paths.{lower, from_parents}
use Rattle.plan.proofs.Laws.Siblings.{says_next}
use Rattle.rules.specs.Placement.{Placement}
use Rattle.rules.specs.Rules.{S1, S2}

module _ (t : Table) (sound : Sound t) (p q : Placement) (p1 : S1 t p) (q1 : S1 t q) (p2 : S2 t p) (q2 : S2 t q)
    (same : (u v : ℕ) → T (next t u v) → p.x v -ℤ p.x u ≡ q.x v -ℤ q.x u) where
  -- from the first child of f to child number j
  from_first : (f j u v : ℕ) → At (children t f) 0 u → At (children t f) j v → p.x v -ℤ p.x u ≡ q.x v -ℤ q.x u
  from_first f zero u v h g = rw (at_same (children t f) 0 v u g h) (omega (whole, diff (p.x u) (p.x u), diff (q.x u) (q.x u)))
  from_first f (suc j) u v h g =
      let l = at_less (children t f) (suc j) v g in
      let w = get_or (children t f) j 0 in
      let k = at_get_or (children t f) j 0 (omega arith) in
      omega (
        whole,
        from_first f j u w h k,
        same w v ((says_next t w v).show (record { c = f; order = record { i = j; first = k; second = g } })),
        diff (p.x w) (p.x u),
        diff (q.x w) (q.x u),
        diff (p.x v) (p.x w),
        diff (q.x v) (q.x w),
        diff (p.x v) (p.x u),
        diff (q.x v) (q.x u),
      )

  step : (m : ℕ) → Is t (suc m) → p.x (parent t (suc m)) ≡ q.x (parent t (suc m)) → p.x (suc m) ≡ q.x (suc m)
  step m i e =
      let f = parent t (suc m) in
      let (j, h) = child_show t f (suc m) (record { low = omega arith; is = i; of = refl }) in
      let l = at_less (children t f) j (suc m) h in
      let s = child t f (appointed (kind t f) (length (children t f))) in
      let u = get_or (children t f) 0 0 in
      let k = at_get_or (children t f) 0 0 (omega arith) in
      omega (
        whole,
        from_first f j u (suc m) k h,
        from_first f (place t f (length (children t f))) u s k (appointed-at t f (omega arith)),
        p2.flush f (omega (arith, lower t sound m)) (omega arith),
        q2.flush f (omega (arith, lower t sound m)) (omega arith),
        diff (p.x (suc m)) (p.x u),
        diff (q.x (suc m)) (q.x u),
        diff (p.x s) (p.x u),
        diff (q.x s) (q.x u),
      )

  pub same-columns : (c : ℕ) → Is t c → p.x c ≡ q.x c
  same-columns = from_parents t sound (λ c. Is t c → p.x c ≡ q.x c) (λ i. p1.root_x ∙ sym q1.root_x) (λ m g i. step m i (g (omega (arith, lower t sound m))))

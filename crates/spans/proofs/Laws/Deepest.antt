-- The greatest number in each subtree, taken together from the last cell to the first. Assumes nothing.
use Rattle.std.specs.Prelude.{◌≡◌, refl, ℕ, suc, ◌≤◌, ◌<◌, max, length}
use Rattle.std.proofs.Common.{sym, ◌∙◌, ap}
use native.Mathlib.Omega.{arith, max_cases}
use Rattle.std.proofs.Math.Decide.{ℕ_discrete}
use Rattle.plan.specs.Plan.{Table, Is, Sound, parent, Child}
use Rattle.plan.proofs.Laws.Plan.{child-read}
use Rattle.plan.proofs.Laws.Paths.{Below, within-below, within-self, within-child}
use Rattle.spans.proofs.Laws.Columns.{Put}
use Rattle.spans.specs.Spans.{Reaches, Deepest}

module _ (t : Table) (base : ℕ → ℕ) where
  -- once the cells from k on are taken in
  pub record Sunk (k : ℕ) (bottom : ℕ → ℕ) : Type 0 where
    pub own : (c : ℕ) → Is t c → base c ≤ bottom c
    pub passed : (c s : ℕ) → Child t c s → k ≤ s → bottom s ≤ bottom c
    pub one : (c : ℕ) → Is t c → Reaches t base c (bottom c)

  pub sunk_start : Sound t → Sunk (length t) base
  sunk_start sound = record {
    own = λ c i. omega arith;
    passed = λ c s o h. absurd (omega (arith, o.is));
    one = λ c i. record { cell = c; is = i; under = within-self t sound c; so = refl };
  }

  pub deepest : Sound t → {bottom : ℕ → ℕ} → Sunk 1 bottom → Deepest t base bottom
  deepest sound {bottom} h = record { all = λ c a i w. go i (within-below t sound c a i w); one = h.one }
    where
      go : {a c : ℕ} → Is t a → Below t a c → base a ≤ bottom c
      go i (Below.here {c = c}) = h.own c i
      go i (Below.down {a = a} {c = c} k s at w) = let o = child-read t c k s at in omega (arith, h.passed c s o o.low, go i w)

  module _ (sound : Sound t) (f j : ℕ) (own : Child t f j) (lower : f < j) {bottom bottom' : ℕ → ℕ} (h : Sunk (suc j) bottom) (p : Put bottom bottom' f (max (bottom f) (bottom j))) where
    grows : (c : ℕ) → bottom c ≤ bottom' c
    grows c = go (ℕ_discrete c f)
      where
        go : Dec (c ≡ f) → bottom c ≤ bottom' c
        go (yes e) = rw e (omega (arith, p.here))
        go (no e) = omega (arith, p.off c e)

    passed-next : (c s : ℕ) → Child t c s → j ≤ s → bottom' s ≤ bottom' c
    passed-next c s o l = go (ℕ_discrete s j)
      where
        go : Dec (s ≡ j) → bottom' s ≤ bottom' c
        go (yes e) =
            let ef : c ≡ f = sym o.of ∙ ap (parent t) e ∙ own.of in
            rw (e, ef) (omega (arith, p.here, p.off j (omega arith)))
        go (no e) = omega (arith, p.off s (omega arith), grows c, h.passed c s o (omega arith))

    one-next : (c : ℕ) → Is t c → Reaches t base c (bottom' c)
    one-next c i = go (ℕ_discrete c f)
      where
        lift : Reaches t base j (bottom j) → Reaches t base f (bottom j)
        lift r = record { cell = r.cell; is = r.is; under = within-child t sound f j r.cell own r.under; so = r.so }

        go : Dec (c ≡ f) → Reaches t base c (bottom' c)
        go (yes e) =
            rw (e, p.here)
            (max_cases (bottom f) (bottom j) (Reaches t base f (max (bottom f) (bottom j)))
            (λ l q. rw q (lift (h.one j own.is))) (λ l q. rw q (h.one f (omega (arith, own.is)))))
        go (no e) = rw (p.off c e) (h.one c i)

    pub sunk_next : Sunk j bottom'
    sunk_next = record { own = λ c i. omega (arith, h.own c i, grows c); passed = passed-next; one = one-next }

-- The lowest rule broken, then the lowest a, then the lowest b: what the search finds, over any test. Assumes nothing.
use Rattle.std.specs.Prelude.{◌≡◌, refl, Bool, true, false, ℕ, zero, suc, ◌+◌, ◌≤◌, ◌<◌, T}
use Rattle.std.proofs.Common.{sym, ◌∙◌, ap, subst, add-zero, arith}
use Rattle.std.proofs.Math.Path.{subst₃}
use Rattle.std.proofs.Math.Decide.{ℕ_discrete}
use Rattle.rules.specs.Search.{Verdict, kept, broken, scan, judge, lowest}

-- ---- what a scan finds
go_on : (f : ℕ → Verdict) (k d : ℕ) → f k ≡ kept → scan f k (suc d) ≡ scan f (suc k) d
unfolding scan
go_on f k d e = rw (e, scan)

stop : (f : ℕ → Verdict) (k d : ℕ) {r a b : ℕ} → f k ≡ broken r a b → scan f k (suc d) ≡ broken r a b
unfolding scan
stop f k d e = rw (e, scan)

pub scan-kept : (f : ℕ → Verdict) (k d : ℕ) → ((j : ℕ) → k ≤ j → j < k + d → f j ≡ kept) → scan f k d ≡ kept
unfolding scan
scan-kept f k zero h = refl
scan-kept f k (suc d) h = go_on f k d (h k (omega arith) (omega arith)) ∙ scan-kept f (suc k) d (λ j p q. h j (omega arith) (omega arith))

pub record Found (f : ℕ → Verdict) (k d : ℕ) (v : Verdict) : Type 0 where
  pub at : ℕ
  pub low : k ≤ at
  pub high : at < k + d
  pub here : f at ≡ v
  pub before : (i : ℕ) → k ≤ i → i < at → f i ≡ kept

no-broken {ℓ} : {r a b : ℕ} {X : Type ℓ} → kept ≡ broken r a b → X
no-broken {r} {a} {b} e = absurd (let z : ◌≡◌ {A = ℕ} 0 1 = cc in omega arith)

-- at k, or later
split : (f : ℕ → Verdict) (k j : ℕ) → k ≤ j → f k ≡ kept → ((i : ℕ) → suc k ≤ i → i ≤ j → f i ≡ kept) → f j ≡ kept
split f k j p h g = go (ℕ_discrete k j)
  where
    go : Dec (k ≡ j) → f j ≡ kept
    go (yes e) = rw e at h
    go (no ne) = g j (omega arith) (omega arith)

all-kept : (f : ℕ → Verdict) (k d : ℕ) → scan f k d ≡ kept → (j : ℕ) → k ≤ j → j < k + d → f j ≡ kept
all-kept f k zero e j p q = absurd (omega arith)
all-kept f k (suc d) e j p q = go (f k) refl (all-kept f (suc k) d)
  where
    go : (v : Verdict) → f k ≡ v → (scan f (suc k) d ≡ kept → (j : ℕ) → suc k ≤ j → j < suc k + d → f j ≡ kept) → f j ≡ kept
    go kept h g = split f k j p h (λ i a b. g (sym (go_on f k d h) ∙ e) i a (omega arith))
    go (broken r a b) h g = no-broken (sym e ∙ stop f k d h)

scan-broken : (f : ℕ → Verdict) (k d r a b : ℕ) → scan f k d ≡ broken r a b → Found f k d (broken r a b)
unfolding scan
scan-broken f k zero r a b e = no-broken e
scan-broken f k (suc d) r a b e = go (f k) refl (scan-broken f (suc k) d r a b)
  where
    more : f k ≡ kept → Found f (suc k) d (broken r a b) → Found f k (suc d) (broken r a b)
    more h g = record { at = g.at; low = omega arith; high = omega arith; here = g.here; before = λ i p q. split f k i p h (λ j u v. g.before j u (omega arith)) }

    go : (v : Verdict) → f k ≡ v → (scan f (suc k) d ≡ broken r a b → Found f (suc k) d (broken r a b)) → Found f k (suc d) (broken r a b)
    go kept h g = more h (g (sym (go_on f k d h) ∙ e))
    go (broken r' a' b') h g = record { at = k; low = omega arith; high = omega arith; here = h ∙ sym (stop f k d h) ∙ e; before = λ i p q. absurd (omega arith) }

-- for a loop: what was passed is kept, and the next is not; or the next is kept too
pub scan-found : (f : ℕ → Verdict) (k d n : ℕ) {r a b : ℕ} → scan f k d ≡ kept → f (k + d) ≡ broken r a b → d < n → scan f k n ≡ broken r a b
scan-found f k d zero e h l = absurd (omega arith)
scan-found f k zero (suc n) e h l = stop f k n (rw add-zero at h)
scan-found f k (suc d) (suc n) {r} {a} {b} e h l =
    let g : f k ≡ kept = all-kept f k (suc d) e k (omega arith) (omega arith) in
    let s : f (suc k + d) ≡ broken r a b = subst (λ (i : ℕ). f i ≡ broken r a b) (omega arith) h in
    go_on f k n g ∙ scan-found f (suc k) d n (sym (go_on f k d g) ∙ e) s (omega arith)

pub scan-next : (f : ℕ → Verdict) (k d : ℕ) → scan f k d ≡ kept → f (k + d) ≡ kept → scan f k (suc d) ≡ kept
scan-next f k d e h = scan-kept f k (suc d) (λ j p q. go j p q (ℕ_discrete j (k + d)))
  where
    go : (j : ℕ) → k ≤ j → j < k + suc d → Dec (j ≡ k + d) → f j ≡ kept
    go j p q (yes m) = rw m h
    go j p q (no m) = all-kept f k d e j p (omega arith)

-- ---- the verdict over any test
judged : (t : Bool) (r a b : ℕ) → judge t r a b ≡ kept → T t
unfolding judge
judged true r a b e = tt
judged false r a b e = no-broken (sym e)

judge-kept : (t : Bool) (r a b : ℕ) → T t → judge t r a b ≡ kept
unfolding judge
judge-kept true r a b h = refl
judge-kept false r a b h = absurd h

record Same (t : Bool) (r a b r' a' b' : ℕ) : Type 0 where
  fails : ¬ T t
  rule : r ≡ r'
  first : a ≡ a'
  second : b ≡ b'

judge-broken : (t : Bool) (r a b r' a' b' : ℕ) → judge t r a b ≡ broken r' a' b' → Same t r a b r' a' b'
unfolding judge
judge-broken true r a b r' a' b' e = no-broken e
judge-broken false r a b r' a' b' e = record { fails = λ h. h; rule = cc; first = cc; second = cc }

module _ (test : ℕ → ℕ → ℕ → Bool) (n : ℕ) where
  -- the test passes at every rule and pair
  abbrev pub Passes : Type 0
  Passes = (r a b : ℕ) → 1 ≤ r → r ≤ 5 → a < n → b < n → T (test r a b)

  pub lowest-kept : Passes → lowest test n ≡ kept
  unfolding lowest
  lowest-kept h =
      scan-kept _ 1 5 λ r p q.
      scan-kept _ 0 n λ a p' q'.
      scan-kept _ 0 n λ b p'' q''. judge-kept (test r a b) r a b (h r a b p (omega arith) (omega arith) (omega arith))

  pub kept-lowest : lowest test n ≡ kept → Passes
  unfolding lowest
  kept-lowest e r a b p q u v =
      judged (test r a b) r a b
      (all-kept _ 0 n (all-kept _ 0 n (all-kept _ 1 5 e r p (omega arith)) a (omega arith) (omega arith)) b (omega arith) (omega arith))

  -- rule r fails at a and b, and no lower rule, and for r no lower a, and for r and a no lower b
  pub record Lowest (r a b : ℕ) : Type 0 where
    pub rule_low : 1 ≤ r
    pub rule_high : r ≤ 5
    pub a_is : a < n
    pub b_is : b < n
    pub fails : ¬ T (test r a b)
    pub lower_rule : (r' a' b' : ℕ) → 1 ≤ r' → r' < r → a' < n → b' < n → T (test r' a' b')
    pub lower_a : (a' b' : ℕ) → a' < a → b' < n → T (test r a' b')
    pub lower_b : (b' : ℕ) → b' < b → T (test r a b')

  at_b : ℕ → ℕ → ℕ → Verdict
  at_b r a b = judge (test r a b) r a b

  at_a : ℕ → ℕ → Verdict
  at_a r a = scan (at_b r a) 0 n

  at_rule : ℕ → Verdict
  at_rule r = scan (at_a r) 0 n

  row_kept : (r a : ℕ) → at_a r a ≡ kept → (b : ℕ) → b < n → T (test r a b)
  unfolding at_a at_b
  row_kept r a e b q = judged (test r a b) r a b (all-kept (at_b r a) 0 n e b (omega arith) (omega arith))

  found : (r a b : ℕ) (f : Found at_rule 1 5 (broken r a b)) (g : Found (at_a f.at) 0 n (broken r a b)) → Found (at_b f.at g.at) 0 n (broken r a b) → Lowest r a b
  unfolding at_rule at_a at_b
  found r a b f g h =
      let s : Same (test f.at g.at h.at) f.at g.at h.at r a b = judge-broken _ f.at g.at h.at r a b h.here in
      subst₃ Lowest s.rule s.first s.second
      record {
        rule_low = f.low;
        rule_high = omega arith;
        a_is = omega arith;
        b_is = omega arith;
        fails = s.fails;
        lower_rule = λ r' a' b' p q u v. row_kept r' a' (all-kept (at_a r') 0 n (f.before r' p q) a' (omega arith) (omega arith)) b' v;
        lower_a = λ a' b' u v. row_kept f.at a' (g.before a' (omega arith) u) b' v;
        lower_b = λ b' u. judged _ f.at g.at b' (h.before b' (omega arith) u);
      }

  pub lowest-broken : (r a b : ℕ) → lowest test n ≡ broken r a b → Lowest r a b
  unfolding lowest at_rule at_a at_b
  lowest-broken r a b e =
      let f : Found at_rule 1 5 (broken r a b) = scan-broken at_rule 1 5 r a b e in
      let g : Found (at_a f.at) 0 n (broken r a b) = scan-broken (at_a f.at) 0 n r a b f.here in
      found r a b f g (scan-broken (at_b f.at g.at) 0 n r a b g.here)

-- tests that agree on the n cells find the same
scan-same : (f g : ℕ → Verdict) (k d : ℕ) → ((j : ℕ) → k ≤ j → j < k + d → f j ≡ g j) → scan f k d ≡ scan g k d
unfolding scan
scan-same f g k zero h = refl
scan-same f g k (suc d) h = go (g k) refl (h k (omega arith) (omega arith)) (scan-same f g (suc k) d (λ j p q. h j (omega arith) (omega arith)))
  where
    go : (v : Verdict) → g k ≡ v → f k ≡ g k → scan f (suc k) d ≡ scan g (suc k) d → scan f k (suc d) ≡ scan g k (suc d)
    go kept e s r = go_on f k d (s ∙ e) ∙ r ∙ sym (go_on g k d e)
    go (broken r a b) e s _ = stop f k d (s ∙ e) ∙ sym (stop g k d e)

pub lowest-same : (test test' : ℕ → ℕ → ℕ → Bool) (n : ℕ) → ((r a b : ℕ) → a < n → b < n → test r a b ≡ test' r a b) → lowest test n ≡ lowest test' n
unfolding lowest
lowest-same test test' n h =
    scan-same _ _ 1 5 λ r p q.
    scan-same _ _ 0 n λ a p' q'.
    scan-same _ _ 0 n λ b p'' q''. ap (λ t. judge t r a b) (h r a b (omega arith) (omega arith))

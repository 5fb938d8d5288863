-- The sequence, step by step: for the code that puts it. Assumes nothing.
use Rattle.std.specs.Prelude.{◌≡◌, Bool, true, false, ◌&&◌, T, ltb}
use Rattle.std.proofs.Math.Path.{refl, ap}
use Rattle.std.proofs.Common.{sym, ◌∙◌, eq-eqb, ne_eqb}
use Prim.Native.Nat.{ℕ, zero, suc, ◌+◌, ◌-◌, ◌≤◌, ◌<◌}
use native.Mathlib.Omega.{arith}
use Rattle.std.proofs.Math.Decide.{ℕ_discrete}
use Rattle.plan.specs.declared.Refusal.{Refusal}
use Rattle.plan.specs.Questions.{none, lower, asked, or_else, at_each}

pub lower_suc : (c p : ℕ) → ¬ (c ≡ 0) → ltb p c ≡ lower c p
unfolding lower
lower_suc zero p h = absurd (h refl)
lower_suc (suc m) p h = refl

-- ---- two tests, the second put only where the first passes
pub and_no : (a b : Bool) → a ≡ false → a && b ≡ false
and_no a b e = rw e

pub and_yes : (a b : Bool) → a ≡ true → a && b ≡ b
and_yes a b e = rw e

-- ---- the first of two
pub first-none : (a b : Refusal) → a.number ≡ 0 → or_else a b ≡ b
unfolding or_else
first-none a b h = rw (eq-eqb a.number 0 h)

pub first_some : (a b : Refusal) → ¬ (a.number ≡ 0) → or_else a b ≡ a
unfolding or_else
first_some a b h = rw (ne_eqb a.number 0 h)

-- code that has the answer r to the first of two: it stops, or goes on to the second
pub stops : (r a b : Refusal) → r ≡ a → ¬ (r.number ≡ 0) → r ≡ or_else a b
stops r a b e h = e ∙ sym (first_some a b (λ z. h (ap (λ (x : Refusal). x.number) e ∙ z)))

pub goes_on : (r a b x : Refusal) → r ≡ a → r.number ≡ 0 → x ≡ b → x ≡ or_else a b
goes_on r a b x e h q = q ∙ sym (first-none a b (ap (λ (x : Refusal). x.number) (sym e) ∙ h))

-- ---- a question put to each of the cells from k on
module _ (f : ℕ → Refusal) where
  each_more : (k d : ℕ) → 0 < d → at_each f k d ≡ or_else (f k) (at_each f (k + 1) (d - 1))
  unfolding at_each
  each_more k zero h = absurd (omega arith)
  each_more k (suc d) h = let e : k + 1 ≡ suc k = omega arith in let g : suc d - 1 ≡ d = omega arith in rw (e, g)

  pub each-stops : (c n : ℕ) → c < n → ¬ ((f c).number ≡ 0) → at_each f c (n - c) ≡ f c
  each-stops c n h g = each_more c (n - c) (omega arith) ∙ first_some (f c) _ g

  pub each-goes_on : (c n : ℕ) → c < n → (f c).number ≡ 0 → at_each f c (n - c) ≡ at_each f (c + 1) (n - (c + 1))
  each-goes_on c n h g = each_more c (n - c) (omega arith) ∙ first-none (f c) _ g ∙ (let e : n - c - 1 ≡ n - (c + 1) = omega arith in rw e)

  pub each-ends : (c n : ℕ) → n ≤ c → at_each f c (n - c) ≡ none
  unfolding at_each
  each-ends c n h = let e : n - c ≡ 0 = omega arith in rw e

  -- a loop over n cells that has passed c of them, and whose next answer is r
  module _ (c n : ℕ) (passed : at_each f 0 n ≡ at_each f c (n - c)) (h : c < n) (r : Refusal) (e : r ≡ f c) where
    pub loop_stops : ¬ (r.number ≡ 0) → r ≡ at_each f 0 n
    loop_stops g = e ∙ sym (passed ∙ each-stops c n h (λ z. g (ap (λ (x : Refusal). x.number) e ∙ z)))

    pub loop_goes_on : r.number ≡ 0 → at_each f 0 n ≡ at_each f (c + 1) (n - (c + 1))
    loop_goes_on g = passed ∙ each-goes_on c n h (ap (λ (x : Refusal). x.number) (sym e) ∙ g)

  pub loop_ends : (c n : ℕ) → at_each f 0 n ≡ at_each f c (n - c) → n ≤ c → none ≡ at_each f 0 n
  loop_ends c n passed h = sym (passed ∙ each-ends c n h)

each-same-from : (f g : ℕ → Refusal) (k d : ℕ) → ((c : ℕ) → k ≤ c → c < k + d → f c ≡ g c) → at_each f k d ≡ at_each g k d
unfolding at_each
each-same-from f g k zero h = refl
each-same-from f g k (suc d) h = cc (h k (omega arith) (omega arith), each-same-from f g (suc k) d (λ c p q. h c (omega arith) (omega arith)))

pub each_same : (f g : ℕ → Refusal) (n : ℕ) → ((c : ℕ) → c < n → f c ≡ g c) → at_each f 0 n ≡ at_each g 0 n
each_same f g n h = each-same-from f g 0 n (λ c p q. h c (omega arith))

pub loop_starts : (f : ℕ → Refusal) (n : ℕ) → at_each f 0 n ≡ at_each f 0 (n - 0)
loop_starts f n = let e : n - 0 ≡ n = omega arith in rw e

-- ---- no refusal: every answer is yes
pub asked_yes : (k : ℕ) (b : Bool) (c : ℕ) → (asked (suc k) b c).number ≡ 0 → T b
unfolding asked
asked_yes k true c e = tt
asked_yes k false c e = absurd (omega arith)

pub both-none : (a b : Refusal) → (or_else a b).number ≡ 0 → (a.number ≡ 0) × (b.number ≡ 0)
both-none a b e = go (ℕ_discrete a.number 0)
  where
    go : Dec (a.number ≡ 0) → (a.number ≡ 0) × (b.number ≡ 0)
    go (yes z) = (z, ap (λ (r : Refusal). r.number) (sym (first-none a b z)) ∙ e)
    go (no z) = absurd (z (ap (λ (r : Refusal). r.number) (sym (first_some a b z)) ∙ e))

each-none-from : (f : ℕ → Refusal) (k d : ℕ) → (at_each f k d).number ≡ 0 → (c : ℕ) → k ≤ c → c < k + d → (f c).number ≡ 0
unfolding at_each
each-none-from f k zero e c p q = absurd (omega arith)
each-none-from f k (suc d) e c p q = go (both-none (f k) (at_each f (suc k) d) e) (ℕ_discrete c k) (λ z. each-none-from f (suc k) d z c)
  where
    go : ((f k).number ≡ 0) × ((at_each f (suc k) d).number ≡ 0) → Dec (c ≡ k) → ((at_each f (suc k) d).number ≡ 0 → suc k ≤ c → c < suc k + d → (f c).number ≡ 0) → (f c).number ≡ 0
    go (a, b) (yes z) g = rw z a
    go (a, b) (no z) g = g b (omega arith) (omega arith)

pub each_none : (f : ℕ → Refusal) (n : ℕ) → (at_each f 0 n).number ≡ 0 → (c : ℕ) → c < n → (f c).number ≡ 0
each_none f n e c h = each-none-from f 0 n e c (omega arith) (omega arith)

-- ---- a question that only the cell x can answer no
module _ (f : ℕ → Refusal) (x : ℕ) (others : (c : ℕ) → ¬ (c ≡ x) → f c ≡ none) (last : or_else (f x) none ≡ f x) where
  each_past : (k d : ℕ) → x < k → at_each f k d ≡ none
  unfolding at_each
  each_past k zero l = refl
  each_past k (suc d) l = rw (others k (λ e. omega (arith, e)), each_past (suc k) d (omega arith)) (first-none none none refl)

  each_from : (k d : ℕ) → k ≤ x → x < k + d → at_each f k d ≡ f x
  unfolding at_each
  each_from k zero p q = absurd (omega arith)
  each_from k (suc d) p q = go (ℕ_discrete k x) (each_past (suc k) d) (each_from (suc k) d)
    where
      go : Dec (k ≡ x) → (x < suc k → at_each f (suc k) d ≡ none) → (suc k ≤ x → x < suc k + d → at_each f (suc k) d ≡ f x) → or_else (f k) (at_each f (suc k) d) ≡ f x
      go (yes e) g h = ap (or_else (f k)) (g (omega arith)) ∙ ap (λ (c : ℕ). or_else (f c) none) e ∙ last
      go (no ne) g h = ap (λ (r : Refusal). or_else r (at_each f (suc k) d)) (others k ne) ∙ first-none none _ refl ∙ h (omega arith) (omega arith)

  pub each-one : (n : ℕ) → x < n → at_each f 0 n ≡ f x
  each-one n l = each_from 0 n (omega arith) (omega arith)

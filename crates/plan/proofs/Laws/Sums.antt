-- Sums over a subtree: its cell and the subtrees of its children have no cell in common. Assumes nothing.
use Rattle.std.specs.Prelude.{◌≡◌, refl, ◌⊎◌, Bool, true, false, cond, ℕ, zero, suc, ◌+◌, ◌*◌, ◌≤◌, ◌<◌, length, T, eqb}
use Rattle.std.proofs.Common.{sym, ◌∙◌, ap, subst, inl, inr}
use mathlib.Core.List.{List, [], ◌∷◌}
use native.Mathlib.Omega.{arith}
use Rattle.std.proofs.Math.Decide.{ℕ_discrete}
use Rattle.whole.proofs.Laws.Says.{itself, says_eq, is_true, is_false}
use Rattle.plan.specs.Lists.{At, from, keep, mem, total}
use Rattle.plan.proofs.Laws.Lists.{mem-here, mem_there, mem_cases, mem-none}
use Rattle.plan.specs.Plan.{Table, Is, Sound, parent, children, cells, within, subtree, Child}
use Rattle.plan.proofs.Laws.Plan.{child-read, child-place, cells-read, cells_show}
use Rattle.plan.proofs.Laws.Paths.{lower, from_parents, within_zero, within_suc, within-self, within-child}

-- ---- two children of one cell
module _ (t : Table) (sound : Sound t) where
  within_low : (c a : ℕ) → T (within t c a) → c ≤ a
  within_low c = from_parents t sound (λ a. T (within t c a) → c ≤ a) (λ h. omega (arith, within_zero t sound c h)) step
    where
      step : (m : ℕ) → (T (within t c (parent t (suc m))) → c ≤ parent t (suc m)) → T (within t c (suc m)) → c ≤ suc m
      step m g h = elim (within_suc t sound c m h) [ inl e ↦ omega arith | inr k ↦ omega (arith, g k, lower t sound m) ]

  not_above : (c s : ℕ) → Child t c s → T (within t s c) → ⊥
  not_above c s o h = omega (arith, within_low s c h, sound s o.low o.is, o.of)

  pub disjoint : (c s r a : ℕ) → Child t c s → Child t c r → T (within t s a) → T (within t r a) → s ≡ r
  disjoint c s r a os or = from_parents t sound (λ a. T (within t s a) → T (within t r a) → s ≡ r) root step a
    where
      root : T (within t s 0) → T (within t r 0) → s ≡ r
      root h k = within_zero t sound s h ∙ sym (within_zero t sound r k)

      off : (s r m : ℕ) → Child t c s → Child t c r → s ≡ suc m → T (within t r (parent t (suc m))) → ⊥
      off s r m p q e h = not_above c r q (subst (λ (z : ℕ). T (within t r z)) (ap (parent t) (sym e) ∙ p.of) h)

      step : (m : ℕ) → (T (within t s (parent t (suc m))) → T (within t r (parent t (suc m))) → s ≡ r) → T (within t s (suc m)) → T (within t r (suc m)) → s ≡ r
      step m g h k = go (within_suc t sound s m h) (within_suc t sound r m k)
        where
          go : (s ≡ suc m) ⊎ T (within t s (parent t (suc m))) → (r ≡ suc m) ⊎ T (within t r (parent t (suc m))) → s ≡ r
          go (inl e) (inl f) = e ∙ sym f
          go (inl e) (inr f) = absurd (off s r m os or e f)
          go (inr e) (inl f) = absurd (off r s m or os f e)
          go (inr e) (inr f) = g e f

-- ---- sums
total-keep : (f : ℕ → ℕ) (P : ℕ → Bool) (a : ℕ) (l : List ℕ) → total f (keep P (a ∷ l)) ≡ cond (P a) (f a) 0 + total f (keep P l)
unfolding total keep
total-keep f P a l = go (P a)
  where
    go : (b : Bool) → total f (cond b (a ∷ keep P l) (keep P l)) ≡ cond b (f a) 0 + total f (keep P l)
    go true = refl
    go false = omega arith

total-plus : (g h k : ℕ → ℕ) → ((s : ℕ) → g s ≡ h s + k s) → (l : List ℕ) → total g l ≡ total h l + total k l
unfolding total
total-plus g h k e [] = refl
total-plus g h k e (s ∷ l) = omega (arith, e s, total-plus g h k e l)

total-none : (Q : ℕ → Bool) (k : ℕ) (l : List ℕ) → ((i s : ℕ) → At l i s → ¬ T (Q s)) → total (λ s. cond (Q s) k 0) l ≡ 0
unfolding total
total-none Q k [] h = refl
total-none Q k (s ∷ l) h = rw (is_false (itself (Q s)) (h 0 s refl)) (omega (arith, total-none Q k l (λ i. h (suc i))))

total-one : (Q : ℕ → Bool) (k : ℕ) (l : List ℕ) → ((i j s r : ℕ) → At l i s → At l j r → T (Q s) → T (Q r) → i ≡ j) → total (λ s. cond (Q s) k 0) l ≤ k
unfolding total
total-one Q k [] h = omega arith
total-one Q k (s ∷ l) h = go (Q s) refl (total-one Q k l (λ i j a b p q u v. let e = h (suc i) (suc j) a b p q u v in omega arith))
  where
    go : (b : Bool) → Q s ≡ b → total (λ s. cond (Q s) k 0) l ≤ k → cond b k 0 + total (λ s. cond (Q s) k 0) l ≤ k
    go true e g = omega (arith, total-none Q k l (λ i r p u. let z = h 0 (suc i) s r refl p (rw e tt) u in omega arith))
    go false e g = omega arith

total_keep_le : (f : ℕ → ℕ) (P : ℕ → Bool) (l : List ℕ) → total f (keep P l) ≤ total f l
unfolding total keep
total_keep_le f P [] = omega arith
total_keep_le f P (a ∷ l) = go (P a) (total_keep_le f P l)
  where
    go : (b : Bool) → total f (keep P l) ≤ total f l → total f (cond b (a ∷ keep P l) (keep P l)) ≤ f a + total f l
    go true h = omega arith
    go false h = omega arith

total-from : (f : ℕ → ℕ) (k d m : ℕ) → ((a : ℕ) → k ≤ a → a < k + d → f a ≤ m) → total f (from k d) ≤ d * m
unfolding total from
total-from f k zero m h = omega arith
total-from f k (suc d) m h = let e : suc d * m ≡ m + d * m = omega arith in rw e (omega (arith, h k (omega arith) (omega arith), total-from f (suc k) d m (λ a p q. h a (omega arith) (omega arith))))

-- each cell at most m: the subtree at most n times m
pub total-subtree : (t : Table) (f : ℕ → ℕ) (c m : ℕ) → ((a : ℕ) → Is t a → f a ≤ m) → total f (subtree t c) ≤ length t * m
unfolding subtree cells
total-subtree t f c m h = omega (arith, total_keep_le f (λ a. within t c a) (from 0 (length t)), total-from f 0 (length t) m (λ a p q. h a (omega arith)))

module _ (t : Table) (sound : Sound t) (f : ℕ → ℕ) (c : ℕ) where
  -- cell a is c itself, or in the subtree of one child, or outside
  at_one : (a : ℕ) → Is t a → cond (eqb c a) (f a) 0 + total (λ s. cond (within t s a) (f a) 0) (children t c) ≤ cond (within t c a) (f a) 0
  at_one a i = go (ℕ_discrete c a) (within t c a) refl
    where
      few : total (λ s. cond (within t s a) (f a) 0) (children t c) ≤ f a
      few = total-one (λ s. within t s a) (f a) (children t c) (λ i j s r p q u v.
          child-place t c i j s p (rw (disjoint t sound c s r a (child-read t c i s p) (child-read t c j r q) u v) q))

      go : Dec (c ≡ a) → (b : Bool) → within t c a ≡ b → cond (eqb c a) (f a) 0 + total (λ s. cond (within t s a) (f a) 0) (children t c) ≤ cond b (f a) 0
      go (yes e) true w =
          rw (is_true (says_eq c a) e) (omega (arith, total-none (λ s. within t s a) (f a) (children t c) (λ i s p u. not_above t sound c s (child-read t c i s p) (rw e u))))
      go (yes e) false w = absurd (rw w at (subst (λ z. T (within t c z)) e (within-self t sound c)))
      go (no e) true w = rw (is_false (says_eq c a) e) (omega (arith, few))
      go (no e) false w =
          rw (is_false (says_eq c a) e) (omega (arith, total-none (λ s. within t s a) (f a) (children t c) (λ i s p u. rw w at (within-child t sound c s a (child-read t c i s p) u))))

  nothing : (cs : List ℕ) → total f (keep (λ a. eqb c a) []) + total (λ s. total f (keep (λ a. within t s a) [])) cs ≤ total f (keep (λ a. within t c a) [])
  unfolding total keep
  nothing [] = omega arith
  nothing (s ∷ cs) = omega (arith, nothing cs)

  parts : (l : List ℕ) → ((a : ℕ) → T (mem a l) → Is t a)
      → total f (keep (λ a. eqb c a) l) + total (λ s. total f (keep (λ a. within t s a) l)) (children t c) ≤ total f (keep (λ a. within t c a) l)
  parts [] h = nothing (children t c)
  parts (a ∷ l) h =
      omega (
        arith,
        parts l (λ b m. h b (mem_there b a l m)),
        at_one a (h a (mem-here a a l refl)),
        total-keep f (λ a. eqb c a) a l,
        total-keep f (λ a. within t c a) a l,
        total-plus (λ s. total f (keep (λ a. within t s a) (a ∷ l))) (λ s. cond (within t s a) (f a) 0) (λ s. total f (keep (λ a. within t s a) l)) (λ s. total-keep f (λ a. within t s a) a l) (children t c),
      )

  itself_once : (l : List ℕ) → T (mem c l) → f c ≤ total f (keep (λ a. eqb c a) l)
  itself_once [] h = absurd (mem-none c h)
  itself_once (a ∷ l) h =
      elim (mem_cases c a l h) [
        | inl e ↦ let z = total-keep f (λ a. eqb c a) a l in let w = rw (is_true (says_eq c a) e) at z in omega (arith, ap f e)
        | inr k ↦ omega (arith, total-keep f (λ a. eqb c a) a l, itself_once l k)
      ]

  pub total-parts : Is t c → f c + total (λ s. total f (subtree t s)) (children t c) ≤ total f (subtree t c)
  unfolding subtree
  total-parts i = omega (arith, parts (cells t) (λ a m. cells-read t a m), itself_once (cells t) (cells_show t c i))

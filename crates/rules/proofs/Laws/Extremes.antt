-- The greatest and the least of a list by what is above and below them. Assumes nothing.
use Rattle.std.specs.Prelude.{◌≡◌, refl, ◌⊎◌, Bool, true, false, cond, ℕ, T, ℤ, ◌≤ℤ◌}
use mathlib.Core.List.{List, [], ◌∷◌}
use Rattle.std.proofs.Math.Logic.{inl, inr}
use Rattle.std.specs.Int.Signed.{le_z, ≤ℤ_refl}
use Rattle.whole.proofs.Laws.Whole.{whole, not_le}
use Rattle.whole.proofs.Laws.Says.{says_le_z, holds, fails}
use Rattle.plan.specs.Lists.{mem}
use Rattle.plan.proofs.Laws.Lists.{mem-here, mem_there, mem_cases, mem-none}
use Rattle.rules.specs.Placement.{greater, lesser, best, most, least}

-- z is m or k, and up to both
record Picks (R : ℤ → ℤ → Type 0) (m k z : ℤ) : Type 0 where
  up_m : R m z
  up_k : R k z
  one : (z ≡ m) ⊎ (z ≡ k)

-- ---- the best of a list, for an order and a pick of one of two that is up to both
module _ (R : ℤ → ℤ → Type 0) (itself : (a : ℤ) → R a a) (on : (a b c : ℤ) → R a b → R b c → R a c)
    (pick : ℤ → ℤ → ℤ) (picks : (m k : ℤ) → Picks R m k (pick m k)) (f : ℕ → ℤ) where
  best-start : (m : ℤ) (l : List ℕ) → R m (best pick f m l)
  unfolding best
  best-start m [] = itself m
  best-start m (b ∷ l) = on m (pick m (f b)) _ (picks m (f b)).up_m (best-start (pick m (f b)) l)

  best-all : (m : ℤ) (l : List ℕ) (a : ℕ) → T (mem a l) → R (f a) (best pick f m l)
  unfolding best
  best-all m [] a h = absurd (mem-none a h)
  best-all m (b ∷ l) a h = elim (mem_cases a b l h) [
    | inl e ↦ rw e (on (f b) (pick m (f b)) _ (picks m (f b)).up_k (best-start (pick m (f b)) l))
    | inr k ↦ best-all (pick m (f b)) l a k
  ]

  -- a property of m and of each f is one of the best
  best-one : (P : ℤ → Type 0) (m : ℤ) (l : List ℕ) → P m → ((a : ℕ) → T (mem a l) → P (f a)) → P (best pick f m l)
  unfolding best
  best-one P m [] h g = h
  best-one P m (b ∷ l) h g = best-one P (pick m (f b)) l
      (elim (picks m (f b)).one [ inl e ↦ rw e h | inr e ↦ rw e (g b (mem-here b b l refl)) ]) (λ a k. g a (mem_there a b l k))

by_order : (P : Bool → Type 0) (m k : ℤ) → (m ≤ℤ k → P true) → (k ≤ℤ m → P false) → P (le_z m k)
by_order P m k up down = go (le_z m k) refl
  where
    go : (b : Bool) → le_z m k ≡ b → P b
    go true e = up (holds (says_le_z m k) e)
    go false e = let h = not_le (fails (says_le_z m k) e) in down (omega whole)

pick_greater : (m k : ℤ) → Picks ◌≤ℤ◌ m k (greater m k)
pick_greater m k =
    by_order (λ b. Picks ◌≤ℤ◌ m k (cond b k m)) m k
    (λ h. record { up_m = h; up_k = ≤ℤ_refl k; one = inr refl })
    (λ h. record { up_m = ≤ℤ_refl m; up_k = h; one = inl refl })

pick_lesser : (m k : ℤ) → Picks (λ a b. b ≤ℤ a) m k (lesser m k)
pick_lesser m k =
    by_order (λ b. Picks (λ a b. b ≤ℤ a) m k (cond b m k)) m k
    (λ h. record { up_m = ≤ℤ_refl m; up_k = h; one = inl refl })
    (λ h. record { up_m = h; up_k = ≤ℤ_refl k; one = inr refl })

module _ (f : ℕ → ℤ) (m : ℤ) (l : List ℕ) where
  pub most-all : (a : ℕ) → T (mem a l) → f a ≤ℤ most f m l
  most-all = best-all ◌≤ℤ◌ ≤ℤ_refl (λ a b c h k. omega whole) greater pick_greater f m l

  pub most-one : (P : ℤ → Type 0) → P m → ((a : ℕ) → T (mem a l) → P (f a)) → P (most f m l)
  most-one P = best-one ◌≤ℤ◌ ≤ℤ_refl (λ a b c h k. omega whole) greater pick_greater f P m l

  pub least-all : (a : ℕ) → T (mem a l) → least f m l ≤ℤ f a
  least-all = best-all (λ a b. b ≤ℤ a) ≤ℤ_refl (λ a b c h k. omega whole) lesser pick_lesser f m l

  pub least-one : (P : ℤ → Type 0) → P m → ((a : ℕ) → T (mem a l) → P (f a)) → P (least f m l)
  least-one P = best-one (λ a b. b ≤ℤ a) ≤ℤ_refl (λ a b c h k. omega whole) lesser pick_lesser f P m l

-- The path from a cell to the root, in a table whose parents are lower; at or below; rows; induction from parents to children. Assumes nothing.
use Rattle.std.specs.Prelude.{◌≡◌, ◌⊎◌, length, T}
use Rattle.std.proofs.Math.Path.{refl, ap}
use mathlib.Core.List.{List, [], ◌∷◌}
use Rattle.std.proofs.Math.Logic.{inl, inr}
use Prim.Native.Nat.{ℕ, zero, suc, ◌+◌, ◌≤◌, ◌<◌}
use Rattle.std.proofs.Common.{arith}
use Rattle.std.proofs.Math.Decide.{dec_lt}
use Rattle.std.proofs.Math.ListN.{get_or-eq_default}
use Rattle.plan.specs.Lists.{At, total}
use Rattle.plan.proofs.Laws.Lists.{mem-here, mem_there, mem_cases, mem-none}
use Rattle.plan.specs.Plan.{Table, Cell, Is, Sound, box_depth, parent, blank, children, climb, path, within, row, Child}
use Rattle.plan.proofs.Laws.Plan.{child-read, child_show}

parent_out : (t : Table) (c : ℕ) → length t ≤ c → parent t c ≡ 0
unfolding parent blank
parent_out t c h = ap (λ (x : Cell). x.parent) (get_or-eq_default t blank h)

-- a is at or below c, as a chain of children
pub data Below (t : Table) : ℕ → ℕ → Type 0 where
  here : {c : ℕ} → Below t c c
  down : {a c : ℕ} (i s : ℕ) → At (children t c) i s → Below t a s → Below t a c

pub below-child : {t : Table} {f r : ℕ} (i s : ℕ) → At (children t f) i s → Below t f r → Below t s r
below-child i s a Below.here = Below.down i s a Below.here
below-child i s a (Below.down j q h w) = Below.down j q h (below-child i s a w)

pub below_split : {t : Table} {a c : ℕ} → Below t a c → (a ≡ c) ⊎ ((i : ℕ) × (s : ℕ) × At (children t c) i s × Below t a s)
below_split Below.here = inl refl
below_split (Below.down i s h w) = inr (i, s, h, w)

module _ (t : Table) (sound : Sound t) where
  pub lower : (m : ℕ) → parent t (suc m) ≤ m
  lower m = go (dec_lt (suc m) (length t))
    where
      go : Dec (suc m < length t) → parent t (suc m) ≤ m
      go (yes h) = omega (arith, sound (suc m) (omega arith) h)
      go (no h) = omega (arith, parent_out t (suc m) (omega arith))

  -- more steps than the cell's number give the same path
  climb-enough : (k j a : ℕ) → a ≤ k → a ≤ j → climb t k a ≡ climb t j a
  unfolding climb
  climb-enough zero zero a h g = refl
  climb-enough zero (suc j) zero h g = refl
  climb-enough zero (suc j) (suc a) h g = absurd (omega arith)
  climb-enough (suc k) zero zero h g = refl
  climb-enough (suc k) zero (suc a) h g = absurd (omega arith)
  climb-enough (suc k) (suc j) zero h g = refl
  climb-enough (suc k) (suc j) (suc a) h g =
      ap (λ (l : List ℕ). suc a ∷ l) (climb-enough k j (parent t (suc a)) (omega (arith, lower a)) (omega (arith, lower a)))

  pub path_zero : path t 0 ≡ 0 ∷ []
  unfolding path climb
  path_zero = refl

  pub path_suc : (m : ℕ) → path t (suc m) ≡ suc m ∷ path t (parent t (suc m))
  unfolding path climb
  path_suc m = ap (λ (l : List ℕ). suc m ∷ l) (climb-enough m (parent t (suc m)) (parent t (suc m)) (lower m) (omega arith))

  -- from parents to children
  up_to : (P : ℕ → Type 0) → P 0 → ((m : ℕ) → P (parent t (suc m)) → P (suc m)) → (k a : ℕ) → a ≤ k → P a
  up_to P z s zero zero h = z
  up_to P z s zero (suc m) h = absurd (omega arith)
  up_to P z s (suc k) zero h = z
  up_to P z s (suc k) (suc m) h = s m (up_to P z s k (parent t (suc m)) (omega (arith, lower m)))

  pub from_parents : (P : ℕ → Type 0) → P 0 → ((m : ℕ) → P (parent t (suc m)) → P (suc m)) → (a : ℕ) → P a
  from_parents P z s a = up_to P z s a a (omega arith)

  -- ---- at or below
  pub within_zero : (c : ℕ) → T (within t c 0) → c ≡ 0
  unfolding within
  within_zero c h = elim (mem_cases c 0 [] (rw path_zero at h)) [ inl e ↦ e | inr k ↦ absurd (mem-none c k) ]

  pub within_suc : (c m : ℕ) → T (within t c (suc m)) → (c ≡ suc m) ⊎ T (within t c (parent t (suc m)))
  unfolding within
  within_suc c m h = mem_cases c (suc m) (path t (parent t (suc m))) (rw (path_suc m) at h)

  within-up : (c m : ℕ) → T (within t c (parent t (suc m))) → T (within t c (suc m))
  unfolding within
  within-up c m h = rw (path_suc m) (mem_there c (suc m) (path t (parent t (suc m))) h)

  pub within-self : (a : ℕ) → T (within t a a)
  unfolding within
  within-self zero = rw path_zero (mem-here 0 0 [] refl)
  within-self (suc m) = rw (path_suc m) (mem-here (suc m) (suc m) (path t (parent t (suc m))) refl)

  pub within-child : (c s a : ℕ) → Child t c s → T (within t s a) → T (within t c a)
  within-child c s a o = from_parents (λ a. T (within t s a) → T (within t c a)) root step a
    where
      root : T (within t s 0) → T (within t c 0)
      root k = absurd (omega (arith, within_zero s k, o.low))

      on : (m : ℕ) → s ≡ suc m → T (within t c (suc m))
      on m e = within-up c m (rw (← e, o.of) (within-self c))

      step : (m : ℕ) → (T (within t s (parent t (suc m))) → T (within t c (parent t (suc m)))) → T (within t s (suc m)) → T (within t c (suc m))
      step m g k = elim (within_suc s m k) [ inl e ↦ on m e | inr n ↦ within-up c m (g n) ]

  pub below-within : {a c : ℕ} → Below t a c → T (within t c a)
  below-within (Below.here {c = c}) = within-self c
  below-within (Below.down {a = a} {c = c} i s h w) = within-child c s a (child-read t c i s h) (below-within w)

  pub within-below : (c a : ℕ) → Is t a → T (within t c a) → Below t a c
  within-below c = from_parents (λ a. Is t a → T (within t c a) → Below t a c) root step
    where
      root : Is t 0 → T (within t c 0) → Below t 0 c
      root i h = rw (within_zero c h) Below.here

      step : (m : ℕ) → (Is t (parent t (suc m)) → T (within t c (parent t (suc m))) → Below t (parent t (suc m)) c) → Is t (suc m) → T (within t c (suc m)) → Below t (suc m) c
      step m g i h =
          let (j, a) = child_show t (parent t (suc m)) (suc m) (record { low = omega arith; is = i; of = refl }) in
          elim (within_suc c m h) [ inl e ↦ rw e Below.here | inr k ↦ below-child j (suc m) a (g (omega (arith, lower m)) k) ]

  pub below_root : (a : ℕ) → Is t a → Below t a 0
  below_root = from_parents (λ a. Is t a → Below t a 0) (λ i. Below.here) (λ m g i.
      let (j, a) = child_show t (parent t (suc m)) (suc m) (record { low = omega arith; is = i; of = refl }) in
      below-child j (suc m) a (g (omega (arith, lower m))))

  pub below-is : {a c : ℕ} → Is t c → Below t a c → Is t a
  below-is i Below.here = i
  below-is i (Below.down {c = c} j s h w) = below-is (child-read t c j s h).is w

  pub child_less : (c i s : ℕ) → At (children t c) i s → (c < s) × Is t s
  child_less c i s h = let k = child-read t c i s h in (omega (arith, sound s k.low k.is, k.of), k.is)

  -- ---- rows
  total-path : (f : ℕ → ℕ) (m : ℕ) → total f (path t (suc m)) ≡ f (suc m) + total f (path t (parent t (suc m)))
  unfolding total
  total-path f m = ap (total f) (path_suc m)

  row-total : (a : ℕ) → total (λ c. box_depth t c + 1) (path t a) ≡ box_depth t a + 1 + row t a
  unfolding total row
  row-total zero = ap (total (λ c. box_depth t c + 1)) path_zero
  row-total (suc m) = total-path (λ c. box_depth t c + 1) m

  pub row_suc : (m : ℕ) → row t (suc m) ≡ box_depth t (parent t (suc m)) + 1 + row t (parent t (suc m))
  unfolding row
  row_suc m = row-total (parent t (suc m))

  pub row-child : (c i s : ℕ) → At (children t c) i s → row t s ≡ row t c + box_depth t c + 1
  row-child c i zero h = absurd (omega (arith, (child-read t c i 0 h).low))
  row-child c i (suc m) h = let e = (child-read t c i (suc m) h).of in omega (arith, row_suc m, ap (row t) e, ap (box_depth t) e)

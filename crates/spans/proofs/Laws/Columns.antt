-- Columns of numbers as functions of the cell, and what a store does to one. Assumes nothing.
use Rattle.std.specs.Prelude.{◌≡◌, ◌≢◌, List, length, set, replicate}
use Rattle.std.proofs.Math.Path.{refl}
use Prim.Native.Nat.{ℕ, zero, suc, ◌+◌, ◌≤◌, ◌<◌}
use Rattle.std.proofs.Common.{arith, get_or-set_same, get_or-set_other}
use Rattle.std.proofs.Math.Decide.{ℕ_discrete}
use Rattle.std.proofs.lemmas.List.{length-replicate, get_or-replicate}
use Rattle.plan.specs.Limits.{most_cells}
use Rattle.spans.specs.Spans.{at}

-- a column of one number
abbrev pub all : ℕ → List ℕ
all v = replicate most_cells v

pub all-long : (v : ℕ) → length (all v) ≡ most_cells
all-long v = length-replicate most_cells v

pub all-at : (v c : ℕ) → c < most_cells → at (all v) c ≡ v
all-at v c h = get_or-replicate most_cells c v 0 h

-- g with v at i
pub record Put (g g' : ℕ → ℕ) (i v : ℕ) : Type 0 where
  pub here : g' i ≡ v
  pub off : (c : ℕ) → c ≢ i → g' c ≡ g c

pub put : (xs : List ℕ) (i v : ℕ) → i < length xs → Put (at xs) (at (set xs i v)) i v
put xs i v h = record { here = get_or-set_same xs i v 0 h; off = λ c e. get_or-set_other xs i c v 0 e }

-- the sum of the first k
unfoldable pub sum_to : (ℕ → ℕ) → ℕ → ℕ
sum_to g zero = 0
sum_to g (suc k) = sum_to g k + g k

pub sum_suc : (g : ℕ → ℕ) (k : ℕ) → sum_to g (suc k) ≡ sum_to g k + g k
unfolding sum_to
sum_suc g k = refl

pub sum_ones : (g : ℕ → ℕ) (k : ℕ) → ((c : ℕ) → c < k → g c ≡ 1) → sum_to g k ≡ k
unfolding sum_to
sum_ones g zero h = refl
sum_ones g (suc k) h = omega (arith, sum_ones g k (λ c l. h c (omega arith)), h k (omega arith))

pub sum-part : (g : ℕ → ℕ) (k c : ℕ) → c < k → g c ≤ sum_to g k
unfolding sum_to
sum-part g zero c h = absurd (omega arith)
sum-part g (suc k) c h = go (ℕ_discrete c k) (sum-part g k c)
  where
    go : Dec (c ≡ k) → (c < k → g c ≤ sum_to g k) → g c ≤ sum_to g k + g k
    go (yes e) r = rw e (omega arith)
    go (no e) r = omega (arith, r (omega arith))

module _ (g g' : ℕ → ℕ) (i v : ℕ) (p : Put g g' i v) where
  sum_past : (k : ℕ) → k ≤ i → sum_to g' k ≡ sum_to g k
  unfolding sum_to
  sum_past zero h = refl
  sum_past (suc k) h = let e = p.off k (omega arith) in omega (arith, sum_past k (omega arith))

  pub sum-put : (k : ℕ) → i < k → sum_to g' k + g i ≡ sum_to g k + v
  unfolding sum_to
  sum-put zero h = absurd (omega arith)
  sum-put (suc k) h = go (ℕ_discrete i k) (sum-put k)
    where
      go : Dec (i ≡ k) → (i < k → sum_to g' k + g i ≡ sum_to g k + v) → sum_to g' k + g' k + g i ≡ sum_to g k + g k + v
      go (yes e) r = let z = p.here in rw (← e) (omega (arith, sum_past i (omega arith)))
      go (no e) r = let z = p.off k (omega arith) in omega (arith, r (omega arith))

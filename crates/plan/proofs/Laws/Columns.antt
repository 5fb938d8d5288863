-- What stands in a table that is given in columns. Assumes nothing.
use Rattle.std.specs.Prelude.{◌≡◌, refl, List, map, ℕ, zero, suc, ◌+◌, ◌<◌, length}
use Rattle.std.proofs.Math.Path.{ap}
use Rattle.std.proofs.Common.{arith}
use Rattle.std.proofs.Math.Nat.{zero-add}
use Rattle.std.proofs.Math.ListN.{get_or}
use Rattle.plan.specs.Lists.{from}
use Rattle.plan.specs.Plan.{Cell, blank, parent, kind, box_width, box_depth, rank}
use Rattle.plan.specs.Columns.{table}

-- a list made number by number
pub length_from {ℓ} : {A : Type ℓ} (f : ℕ → A) (k d : ℕ) → length (map f (from k d)) ≡ d
unfolding from
length_from f k zero = refl
length_from f k (suc d) = ap suc (length_from f (suc k) d)

pub get_or_from {ℓ} : {A : Type ℓ} (f : ℕ → A) (z : A) (k d i : ℕ) → i < d → get_or (map f (from k d)) i z ≡ f (k + i)
unfolding from
get_or_from f z k zero i h = absurd (omega arith)
get_or_from f z k (suc d) zero h = let e : k + 0 ≡ k = omega arith in rw e
get_or_from f z k (suc d) (suc i) h = let e : k + suc i ≡ suc k + i = omega arith in rw e (get_or_from f z (suc k) d i (omega arith))

module _ (ps ks ws ds qs : List ℕ) (n : ℕ) where
  pub table-length : length (table ps ks ws ds qs n) ≡ n
  unfolding table
  table-length = length_from _ 0 n

  module _ (c : ℕ) (h : c < n) where
    cell_at : get_or (table ps ks ws ds qs n) c blank ≡ record { parent = get_or ps c 0; kind = get_or ks c 0; width = get_or ws c 0; depth = get_or ds c 0; rank = get_or qs c 0 }
    unfolding table
    cell_at = rw zero-add at (get_or_from (λ c. record { parent = get_or ps c 0; kind = get_or ks c 0; width = get_or ws c 0; depth = get_or ds c 0; rank = get_or qs c 0 }) blank 0 n c h)

    pub parent-at : parent (table ps ks ws ds qs n) c ≡ get_or ps c 0
    unfolding parent
    parent-at = ap (λ (x : Cell). x.parent) cell_at

    pub kind_at : kind (table ps ks ws ds qs n) c ≡ get_or ks c 0
    unfolding kind
    kind_at = ap (λ (x : Cell). x.kind) cell_at

    pub width-at : box_width (table ps ks ws ds qs n) c ≡ get_or ws c 0
    unfolding box_width
    width-at = ap (λ (x : Cell). x.width) cell_at

    pub depth_at : box_depth (table ps ks ws ds qs n) c ≡ get_or ds c 0
    unfolding box_depth
    depth_at = ap (λ (x : Cell). x.depth) cell_at

    pub rank-at : rank (table ps ks ws ds qs n) c ≡ get_or qs c 0
    unfolding rank
    rank-at = ap (λ (x : Cell). x.rank) cell_at

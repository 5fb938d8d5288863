-- The scratch by rows and columns against lists of extents; numbers stay small. Assumes nothing.
use Rattle.std.specs.Prelude.{◌≡◌, List, ℕ, zero, suc, ◌+◌, ◌*◌, ◌/◌, ◌%◌, ◌≤◌, ◌<◌, length, get_or, set}
use Rattle.std.proofs.Common.{sym, subst, ⊎_elim, div-add-mod', eq-or-lt_of_le, le_of_suc-le-suc, arith, get_or-set_same, get_or-set_other}
use Rattle.std.proofs.Math.Decide.{ℕ_discrete, dec_lt}
use Rattle.std.proofs.Math.Seq.{set_out}
use Rattle.plan.specs.Limits.{farthest}
use Rattle.contours.specs.Contour.{greatest}
use Rattle.rows.specs.Rows.{row_size, extent, Low, box_to, max_to}
use Rattle.folding.proofs.Laws.Lists.{get_past, get_greatest, greatest-below}

-- ---- small numbers
pub low_rows : (xs : List ℕ) → ((j k : ℕ) → k < row_size → extent xs j k ≤ farthest) → Low xs
low_rows xs h i =
    let e : row_size * (i / row_size) + i % row_size ≡ i = omega (arith, div-add-mod' i row_size) in
    rw e at (h (i / row_size) (i % row_size) (omega arith))

pub set_low : (xs : List ℕ) (i v : ℕ) → Low xs → v ≤ farthest → Low (set xs i v)
set_low xs i v h l q = go (ℕ_discrete q i)
  where
    inside : Dec (i < length xs) → get_or (set xs i v) i 0 ≤ farthest
    inside (yes lt) = rw (get_or-set_same xs i v 0 lt) l
    inside (no ge) = rw (set_out xs i v (omega arith)) (h i)

    go : Dec (q ≡ i) → get_or (set xs i v) q 0 ≤ farthest
    go (yes e) = rw e (inside (dec_lt i (length xs)))
    go (no ne) = rw (get_or-set_other xs i q v 0 ne) (h q)

pub box_low : (xs : List ℕ) (k w n : ℕ) → w ≤ farthest → Low xs → Low (box_to xs k w n)
unfolding box_to
box_low xs k w zero l h = h
box_low xs k w (suc n) l h = set_low (set (box_to xs k w n) (row_size * n + k) 0) (row_size * n + k + 1) w (set_low (box_to xs k w n) (row_size * n + k) 0 (box_low xs k w n l h) (omega arith)) l

-- ---- the greatest of a column
pub max_le : (xs : List ℕ) (k b : ℕ) → ((j : ℕ) → extent xs j k ≤ b) → (n : ℕ) → max_to xs k n ≤ b
unfolding max_to
max_le xs k b h zero = omega arith
max_le xs k b h (suc n) = omega (arith, h n, max_le xs k b h n)

max_ge : (xs : List ℕ) (k n j : ℕ) → j < n → extent xs j k ≤ max_to xs k n
unfolding max_to
max_ge xs k zero j l = absurd (omega arith)
max_ge xs k (suc n) j l =
    ⊎_elim (λ e. subst (λ (i : ℕ). extent xs i k ≤ max_to xs k (suc n)) (sym e) (omega arith)) (λ g. omega (arith, max_ge xs k n j g)) (eq-or-lt_of_le (le_of_suc-le-suc l))

pub max-is : (xs : List ℕ) (k n : ℕ) (vs : List ℕ) → ((j : ℕ) → extent xs j k ≡ get_or vs j 0) → length vs ≤ n → max_to xs k n ≡ greatest vs
max-is xs k n vs h l =
    let up = max_le xs k (greatest vs) (λ j. rw (h j) (get_greatest vs j)) n in
    let down = greatest-below vs (max_to xs k n) (λ j. go j (dec_lt j n)) in
    omega arith
  where
    go : (j : ℕ) → Dec (j < n) → get_or vs j 0 ≤ max_to xs k n
    go j (yes lt) = rw (h j) at (max_ge xs k n j lt)
    go j (no ge) = rw (get_past vs j (omega arith)) (omega arith)

-- The scratch as rows of 64 numbers: for each of 32 levels a left and a right extent. Assumes nothing.
use Rattle.std.specs.Prelude.{List, Bool, cond, ℕ, zero, suc, ◌+◌, ◌-◌, ◌*◌, ◌≤◌, max, get_or, set, ltb}
use Rattle.plan.specs.Limits.{farthest}

-- numbers in a row
abbrev pub row_size : ℕ
row_size = 64

-- row j, column k
abbrev pub extent : List ℕ → ℕ → ℕ → ℕ
extent xs j k = get_or xs (row_size * j + k) 0

-- every number of a list is at most question 15's bound
abbrev pub Low : List ℕ → Type 0
Low xs = (i : ℕ) → get_or xs i 0 ≤ farthest

-- row j of the column k becomes 0, w: a row of a box
abbrev pub box_one : List ℕ → ℕ → ℕ → ℕ → List ℕ
box_one xs k w j = set (set xs (row_size * j + k) 0) (row_size * j + k + 1) w

-- so do the rows below n
unfoldable pub box_to : List ℕ → ℕ → ℕ → ℕ → List ℕ
box_to xs k w zero = xs
box_to xs k w (suc n) = box_one (box_to xs k w n) k w n

-- the greatest of the rows below n in the column k
unfoldable pub max_to : List ℕ → ℕ → ℕ → ℕ
max_to xs k zero = 0
max_to xs k (suc n) = max (max_to xs k n) (extent xs n k)

-- the most that a row below n asks between the columns k and k + 2
unfoldable pub clash_to : List ℕ → ℕ → ℕ → ℕ → ℕ
clash_to xs k x zero = 0
clash_to xs k x (suc n) = max (clash_to xs k x n) ((extent xs n (k + 1) - x) + extent xs n (k + 2) + 1)

-- a left extent, g further left where there was one, or the new child's
abbrev pub shifted_of : Bool → ℕ → ℕ → ℕ → ℕ
shifted_of there old g new = cond there (max (old + g) new) new

-- row j of the column at becomes l, r, and that of the column at + 2 is cleared
abbrev pub put_one : List ℕ → ℕ → ℕ → ℕ → ℕ → List ℕ
put_one xs at j l r =
    set (set (set (set xs (row_size * j + at) l) (row_size * j + at + 1) r) (row_size * j + at + 2) 0) (row_size * j + at + 3) 0

-- so do the rows below n, with L and R
unfoldable pub put_to : List ℕ → ℕ → (ℕ → ℕ) → (ℕ → ℕ) → ℕ → List ℕ
put_to xs at L R zero = xs
put_to xs at L R (suc n) = put_one (put_to xs at L R n) at n (L n) (R n)

-- a child up to the appointed one, g from the latest, of which h rows are there, joins
abbrev pub upto_left : List ℕ → ℕ → ℕ → ℕ → ℕ → ℕ
upto_left xs at h g j = shifted_of (ltb j h) (extent xs j at) g (extent xs j (at + 2))

abbrev pub upto_rows : List ℕ → ℕ → ℕ → ℕ → ℕ → List ℕ
upto_rows xs at h g n = put_to xs at (λ j. upto_left xs at h g j) (λ j. extent xs j (at + 3)) n

-- a child beyond it, x from it, joins
abbrev pub beyond_rows : List ℕ → ℕ → ℕ → ℕ → List ℕ
beyond_rows xs at x n = put_to xs at (λ j. extent xs j at) (λ j. x + extent xs j (at + 3)) n

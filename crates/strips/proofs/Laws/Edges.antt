-- Columns and places, and the boundary of a box over natural numbers. Assumes nothing.
use Rattle.std.specs.Prelude.{◌≡◌, refl, Bool, true, false, ◌&&◌, ◌||◌, ◌⊎◌, ℕ, zero, suc, ◌+◌, ◌-◌, ◌/◌, ◌%◌, ◌≤◌, ◌<◌, eqb, leb, ltb}
use Rattle.std.proofs.Common.{sym, inl, inr, arith}
use Rattle.std.proofs.Math.Decide.{ℕ_discrete}
use Rattle.whole.specs.Says.{Says}
use Rattle.whole.proofs.Laws.Says.{says_lt, that_is, both, either, says_le, says_eq, same_test, is_false}
use Rattle.plan.specs.Limits.{between}
use Rattle.plan.specs.Lists.{some, from}
use Rattle.strips.specs.Picture.{column, edge}

pub says_between : (a b c : ℕ) → Says (between a b c) ((a ≤ c) × (c ≤ b))
says_between a b c = both (says_le a c) (says_le c b)

-- ---- one column
pub one_place : (k i j : ℕ) → j < 8 → (eqb i (k / 8) && eqb j (k % 8)) ≡ eqb (column i j) k
one_place k i j h =
    same_test (both (says_eq i (k / 8)) (says_eq j (k % 8)))
    (that_is (says_eq (column i j) k) (λ e. (omega arith, omega arith)) (λ e. omega (arith, e.0, e.1)))

-- ---- the columns from lo to hi
abbrev Parts : (lo hi i j : ℕ) → Type 0
Parts lo hi i j = (((i ≡ lo / 8) × (lo % 8 ≤ j)) ⊎ ((lo / 8 + 1 ≤ i) × (i < hi / 8))) ⊎ ((i ≡ hi / 8) × (j ≤ hi % 8))

module _ (lo hi i j : ℕ) (h : j < 8) where
  -- within one byte
  pub run_inside : lo / 8 ≡ hi / 8 → (eqb i (lo / 8) && (leb (lo % 8) j && leb j (hi % 8))) ≡ between lo hi (column i j)
  run_inside e =
      same_test (both (says_eq i (lo / 8)) (both (says_le (lo % 8) j) (says_le j (hi % 8))))
      (that_is (says_between lo hi (column i j)) (λ q. (omega (arith, q.0, q.1), (omega (arith, q.0, q.1), omega (arith, q.0, q.1)))) (λ q. (omega (arith, q.0, q.1.0), omega (arith, q.0, q.1.1))))

  -- over more than one byte: the first, those between, and the last
  pub run-across : lo / 8 < hi / 8
      → (eqb i (lo / 8) && leb (lo % 8) j || leb (lo / 8 + 1) i && ltb i (hi / 8) || eqb i (hi / 8) && leb j (hi % 8)) ≡ between lo hi (column i j)
  run-across l =
      same_test
      (either (either (both (says_eq i (lo / 8)) (says_le (lo % 8) j)) (both (says_le (lo / 8 + 1) i) (says_lt i (hi / 8)))) (both (says_eq i (hi / 8)) (says_le j (hi % 8))))
      (that_is (says_between lo hi (column i j)) onto back)
    where
      back : Parts lo hi i j → (lo ≤ column i j) × (column i j ≤ hi)
      back (inl (inl q)) = (omega (arith, q.0, q.1), omega (arith, q.0, q.1))
      back (inl (inr q)) = (omega (arith, q.0, q.1), omega (arith, q.0, q.1))
      back (inr q) = (omega (arith, q.0, q.1), omega (arith, q.0, q.1))

      onto : (lo ≤ column i j) × (column i j ≤ hi) → Parts lo hi i j
      onto q = go (ℕ_discrete i (lo / 8)) (ℕ_discrete i (hi / 8))
        where
          go : Dec (i ≡ lo / 8) → Dec (i ≡ hi / 8) → Parts lo hi i j
          go (yes e) m = inl (inl (e, omega (arith, q.0, q.1)))
          go (no e) (yes m) = inr (m, omega (arith, q.0, q.1))
          go (no e) (no m) = inl (inr (omega (arith, q.0, q.1), omega (arith, q.0, q.1)))

-- ---- from a column of the sheet to one of the strip
module _ (first a b c : ℕ) where
  pub shift-inside : first ≤ a → first ≤ b → between (a - first) (b - first) c ≡ between a b (first + c)
  shift-inside h k =
      same_test (says_between (a - first) (b - first) c)
      (that_is (says_between a b (first + c)) (λ q. (omega (arith, q.0, q.1), omega (arith, q.0, q.1))) (λ q. (omega (arith, q.0, q.1), omega (arith, q.0, q.1))))

  pub shift_cut : a < first → first ≤ b → between 0 (b - first) c ≡ between a b (first + c)
  shift_cut h k =
      same_test (says_between 0 (b - first) c)
      (that_is (says_between a b (first + c)) (λ q. (omega (arith, q.0, q.1), omega (arith, q.0, q.1))) (λ q. (omega (arith, q.0, q.1), omega (arith, q.0, q.1))))

  pub shift_out : b < first → false ≡ between a b (first + c)
  shift_out h = sym (is_false (says_between a b (first + c)) (λ q. omega (arith, q.0, q.1)))

pub one_shift : (first a c : ℕ) → first ≤ a → eqb c (a - first) ≡ eqb (first + c) a
one_shift first a c h = same_test (says_eq c (a - first)) (that_is (says_eq (first + c) a) (λ e. omega arith) (λ e. omega arith))

pub one_out : (first a c : ℕ) → a < first → false ≡ eqb (first + c) a
one_out first a c h = sym (is_false (says_eq (first + c) a) (λ e. omega arith))

-- ---- the boundary of a box at x, y
abbrev pub Edge : (x y w d c r : ℕ) → Type 0
Edge x y w d c r =
    (((c ≡ x) ⊎ (c ≡ x + w)) × ((y ≤ r) × (r ≤ y + d)))
    ⊎ (((r ≡ y) ⊎ (r ≡ y + d)) × ((x ≤ c) × (c ≤ x + w)))

module _ (x y w d c r : ℕ) where
  pub says_edge : Says (edge x y w d c r) (Edge x y w d c r)
  unfolding edge
  says_edge =
      either (both (either (says_eq c x) (says_eq c (x + w))) (both (says_le y r) (says_le r (y + d))))
      (both (either (says_eq r y) (says_eq r (y + d))) (both (says_le x c) (says_le c (x + w))))

  rows_of : Edge x y w d c r → (y ≤ r) × (r ≤ y + d)
  rows_of (inl q) = q.1
  rows_of (inr (inl e, q)) = (omega arith, omega arith)
  rows_of (inr (inr e, q)) = (omega arith, omega arith)

  columns_of : Edge x y w d c r → (x ≤ c) × (c ≤ x + w)
  columns_of (inr q) = q.1
  columns_of (inl (inl e, q)) = (omega arith, omega arith)
  columns_of (inl (inr e, q)) = (omega arith, omega arith)

  pub edge-above : r < y → false ≡ edge x y w d c r
  edge-above h = sym (is_false says_edge (λ q. omega (arith, (rows_of q).0)))

  pub edge-below : y + d < r → false ≡ edge x y w d c r
  edge-below h = sym (is_false says_edge (λ q. omega (arith, (rows_of q).1)))

  pub edge-top : r ≡ y → between x (x + w) c ≡ edge x y w d c r
  edge-top h = same_test (says_between x (x + w) c) (that_is says_edge columns_of (λ q. inr (inl h, q)))

  pub edge-base : r ≡ y + d → between x (x + w) c ≡ edge x y w d c r
  edge-base h = same_test (says_between x (x + w) c) (that_is says_edge columns_of (λ q. inr (inr h, q)))

  pub edge_sides : y ≤ r → r ≤ y + d → ¬ (r ≡ y) → ¬ (r ≡ y + d) → (eqb c x || eqb c (x + w)) ≡ edge x y w d c r
  edge_sides h k m n = same_test (either (says_eq c x) (says_eq c (x + w))) (that_is says_edge onto (λ q. inl (q, (h, k))))
    where
      onto : Edge x y w d c r → (c ≡ x) ⊎ (c ≡ x + w)
      onto (inl q) = q.0
      onto (inr (inl e, q)) = absurd (m e)
      onto (inr (inr e, q)) = absurd (n e)

-- ---- one box more
pub some_more : (f : ℕ → Bool) (k d : ℕ) → (some f (from k d) || f (k + d)) ≡ some f (from k (suc d))
unfolding some from
some_more f k zero = let e : k + 0 ≡ k = omega arith in rw e (flip (f k))
  where
    flip : (b : Bool) → false || b ≡ b || false
    flip true = refl
    flip false = refl
some_more f k (suc d) =
    let e : k + suc d ≡ suc k + d = omega arith in
    rw (e, ← some_more f (suc k) d) (regroup (f k) (some f (from (suc k) d)) (f (suc k + d)))
  where
    regroup : (a b c : Bool) → a || b || c ≡ a || (b || c)
    regroup true b c = refl
    regroup false b c = refl

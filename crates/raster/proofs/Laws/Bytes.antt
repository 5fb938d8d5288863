-- Laws of the definitions in specs/Strip.antt: a strip by its bytes, a byte by its bits, and a strip cut in two. Assumes nothing.
use Rattle.std.specs.Prelude.{◌≡◌, refl, ◌++◌, Bool, true, false, ℕ, zero, suc, ◌+◌, ◌*◌, ◌-◌, ◌/◌, ◌%◌, ◌^◌, ◌<◌, length, get_or}
use Rattle.std.proofs.Common.{◌∙◌, arith, div-one, shr-shr}
use Rattle.std.proofs.Math.Path.{ap}
use Rattle.plan.specs.Plan.{Table}
use Rattle.rules.specs.Placement.{Placement}
use Rattle.raster.specs.Points.{dot}
use Rattle.raster.specs.Strip.{digit, pack, byte, bytes, strip_of}

-- ---- the last digit, and the rest
pub last_half : (q : ℕ) (b : Bool) → (q * 2 + digit b) / 2 ≡ q
last_half q true = omega arith
last_half q false = omega arith

pub last_odd : (q : ℕ) (b : Bool) → (q * 2 + digit b) % 2 ≡ digit b
last_odd q true = omega arith
last_odd q false = omega arith

pub pack-same : (f g : ℕ → Bool) (k : ℕ) → ((j : ℕ) → j < k → f j ≡ g j) → pack f k ≡ pack g k
unfolding pack
pack-same f g zero h = refl
pack-same f g (suc k) h = rw (pack-same f g k (λ j l. h j (omega arith)), h k (omega arith))

-- digit k of k + 1 + d is the one that has d behind it
pack_bit : (f : ℕ → Bool) (k d : ℕ) → pack f (suc k + d) / 2 ^ d % 2 ≡ digit (f k)
unfolding pack
pack_bit f k zero =
    let e : suc k + 0 ≡ suc k = omega arith in
    rw (e, div-one) (last_odd (pack f k) (f k))
pack_bit f k (suc d) =
    let e : suc k + suc d ≡ suc (suc k + d) = omega arith in
    let g : suc d ≡ 1 + d = omega arith in
    rw (e, g, ← shr-shr (pack f (suc k + d) * 2 + digit (f (suc k + d))) 1 d, last_half (pack f (suc k + d)) (f (suc k + d))) (pack_bit f k d)

-- "the leftmost in the highest bit": bit 7 − j of a byte is its column j
pub byte_bit : (f : ℕ → Bool) (j : ℕ) → j < 8 → byte f / 2 ^ (7 - j) % 2 ≡ digit (f j)
byte_bit f j h = let e : 8 ≡ suc j + (7 - j) = omega arith in ap (λ (k : ℕ). pack f k / 2 ^ (7 - j) % 2) e ∙ pack_bit f j (7 - j)

pub bytes-length : (f : ℕ → Bool) (first k : ℕ) → length (bytes f first k) ≡ k
unfolding bytes
bytes-length f first zero = refl
bytes-length f first (suc k) = ap suc (bytes-length f (first + 8) k)

-- byte i holds the columns from first + 8i on
pub bytes-at : (f : ℕ → Bool) (first k i : ℕ) → i < k → get_or (bytes f first k) i 0 ≡ byte (λ j. f (first + (8 * i + j)))
unfolding bytes
bytes-at f first zero i h = absurd (omega arith)
bytes-at f first (suc k) zero h = pack-same _ _ 8 (λ j l. let e : 8 * 0 + j ≡ j = omega arith in rw e)
bytes-at f first (suc k) (suc i) h =
    bytes-at f (first + 8) k i (omega arith)
    ∙ pack-same _ _ 8 (λ j l. let e : first + 8 + (8 * i + j) ≡ first + (8 * suc i + j) = omega arith in rw e)

bytes_cut : (f : ℕ → Bool) (first m k : ℕ) → bytes f first (m + k) ≡ bytes f first m ++ bytes f (first + 8 * m) k
unfolding bytes
bytes_cut f first zero k =
    let e : 0 + k ≡ k = omega arith in
    let g : first + 8 * 0 ≡ first = omega arith in
    rw (e, g)
bytes_cut f first (suc m) k =
    let e : suc m + k ≡ suc (m + k) = omega arith in
    let g : first + 8 * suc m ≡ first + 8 + 8 * m = omega arith in
    rw (e, g, bytes_cut f (first + 8) m k)

module _ (t : Table) (p : Placement) (row first : ℕ) where
  -- bit 7 − j of byte i is column first + 8i + j
  pub strip_bit : (k i j : ℕ) → i < k → j < 8 → get_or (strip_of t p row first k) i 0 / 2 ^ (7 - j) % 2 ≡ digit (dot t p row (first + (8 * i + j)))
  unfolding strip_of
  strip_bit k i j h l = ap (λ (b : ℕ). b / 2 ^ (7 - j) % 2) (bytes-at (dot t p row) first k i h) ∙ byte_bit (λ j. dot t p row (first + (8 * i + j))) j l

  -- "A strip cut between any two of its bytes gives two strips that join into the whole"
  pub strip_cut : (m k : ℕ) → strip_of t p row first (m + k) ≡ strip_of t p row first m ++ strip_of t p row (first + 8 * m) k
  unfolding strip_of
  strip_cut m k = bytes_cut (dot t p row) first m k

-- The bit operations on packed digits. Assumes nothing.
use Rattle.std.specs.Prelude.{◌≡◌, refl, Bool, true, false, ◌&&◌, ◌||◌, ℕ, zero, suc, ◌+◌, ◌*◌, ◌-◌, ◌/◌, ◌%◌, ◌^◌, ◌<◌, min, max, eqb, leb}
use Rattle.std.proofs.Common.{◌∙◌, arith}
use Rattle.std.specs.Int.Bits.{bit_and, bit_or, and_step, or_step}
use Rattle.raster.specs.Strip.{digit, pack, byte}
use Rattle.raster.proofs.Laws.Bytes.{last_half, last_odd}

-- ---- one digit
or_digit : (a b : Bool) → max (digit a) (digit b) ≡ digit (a || b)
or_digit true true = refl
or_digit true false = refl
or_digit false true = refl
or_digit false false = refl

and_digit : (a b : Bool) → min (digit a) (digit b) ≡ digit (a && b)
and_digit true true = refl
and_digit true false = refl
and_digit false true = refl
and_digit false false = refl

-- ---- THE two laws: `|` and `&` work digit by digit
pub or_pack : (f g : ℕ → Bool) (k : ℕ) → bit_or (pack f k) (pack g k) ≡ pack (λ j. f j || g j) k
unfolding pack
or_pack f g zero = refl
or_pack f g (suc k) =
    or_step (pack f k * 2 + digit (f k)) (pack g k * 2 + digit (g k))
    ∙ rw (last_half (pack f k) (f k), last_half (pack g k) (g k), last_odd (pack f k) (f k), last_odd (pack g k) (g k), or_pack f g k, or_digit (f k) (g k))

pub and_pack : (f g : ℕ → Bool) (k : ℕ) → bit_and (pack f k) (pack g k) ≡ pack (λ j. f j && g j) k
unfolding pack
and_pack f g zero = refl
and_pack f g (suc k) =
    and_step (pack f k * 2 + digit (f k)) (pack g k * 2 + digit (g k))
    ∙ rw (last_half (pack f k) (f k), last_half (pack g k) (g k), last_odd (pack f k) (f k), last_odd (pack g k) (g k), and_pack f g k, and_digit (f k) (g k))

-- ---- the masks, each by eight cases
by_eight : (P : ℕ → Type 0) → P 0 → P 1 → P 2 → P 3 → P 4 → P 5 → P 6 → P 7 → (j : ℕ) → j < 8 → P j
by_eight P a b c d e f g h zero l = a
by_eight P a b c d e f g h (suc zero) l = b
by_eight P a b c d e f g h (suc (suc zero)) l = c
by_eight P a b c d e f g h (suc (suc (suc zero))) l = d
by_eight P a b c d e f g h (suc (suc (suc (suc zero)))) l = e
by_eight P a b c d e f g h (suc (suc (suc (suc (suc zero))))) l = f
by_eight P a b c d e f g h (suc (suc (suc (suc (suc (suc zero)))))) l = g
by_eight P a b c d e f g h (suc (suc (suc (suc (suc (suc (suc zero))))))) l = h
by_eight P a b c d e f g h (suc (suc (suc (suc (suc (suc (suc (suc j)))))))) l = absurd (omega arith)

-- `128 >> j`: place j alone
pub one_mask : (j : ℕ) → j < 8 → 128 / 2 ^ j ≡ byte (λ i. eqb i j)
unfolding pack
one_mask = by_eight (λ j. 128 / 2 ^ j ≡ byte (λ i. eqb i j)) refl refl refl refl refl refl refl refl

-- `255 >> j`: place j and those to its right
pub tail_mask : (j : ℕ) → j < 8 → 255 / 2 ^ j ≡ byte (λ i. leb j i)
unfolding pack
tail_mask = by_eight (λ j. 255 / 2 ^ j ≡ byte (λ i. leb j i)) refl refl refl refl refl refl refl refl

-- `255 << (7 - j)`, of which a byte keeps eight digits: place j and those to its left
pub head_mask : (j : ℕ) → j < 8 → (255 * 2 ^ (7 - j)) % 2 ^ 8 ≡ byte (λ i. leb i j)
unfolding pack
head_mask = by_eight (λ j. (255 * 2 ^ (7 - j)) % 2 ^ 8 ≡ byte (λ i. leb i j)) refl refl refl refl refl refl refl refl

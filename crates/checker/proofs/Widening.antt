-- What the loop that takes the width keeps. Assumes nothing.
use mathlib.Core.Path.{◌≡◌, refl}
use Prim.Native.Nat.{ℕ, ◌+◌, ◌-◌, ◌≤◌, ◌<◌, max, min}
use native.Mathlib.Omega.{arith}
use native.Mathlib.Decide.{ℕ_discrete, dec_le}
use Rattle.plan.specs.Limits.{most_cells}
use Rattle.looking_sights.specs.Sights.{Sights}
use Rattle.checker.specs.Spread.{Bounds, Spread}
use Rattle.looking_sights.specs.declared.View.{View}

-- v is the f of one of n cells
pub record From (f : ℕ → ℕ) (n v : ℕ) : Type 0 where
  pub cell : ℕ
  pub is : cell < n
  pub so : v ≡ f cell

pub record Widening (s : Sights) (n c high low : ℕ) : Type 0 where
  pub some : 1 ≤ c
  pub most : c ≤ n
  pub few : n ≤ most_cells
  pub highs : (i : ℕ) → i < c → (s i).right ≤ high
  pub lows : (i : ℕ) → i < c → low ≤ (s i).x
  pub high_from : From (λ i. (s i).right) n high
  pub low_from : From (λ i. (s i).x) n low

module _ (s : Sights) (n : ℕ) (b : Bounds s n) where
  pub widening_starts : (v : View) → v ≡ s 0 → Widening s n 1 v.right v.x
  widening_starts v e = rw e record {
    some = omega arith;
    most = b.some;
    few = b.few;
    highs = λ i l. let e : i ≡ 0 = omega arith in rw e (omega arith);
    lows = λ i l. let e : i ≡ 0 = omega arith in rw e (omega arith);
    high_from = record { cell = 0; is = b.some; so = refl };
    low_from = record { cell = 0; is = b.some; so = refl };
  }

  pub low_high : {c high low : ℕ} → Widening s n c high low → low ≤ high
  low_high h = omega (arith, h.highs 0 h.some, h.lows 0 h.some, b.each 0 b.some)

  turns : {c high low high' low' : ℕ} → Widening s n c high low → c < n → high' ≡ max high (s c).right → low' ≡ min low (s c).x
      → Widening s n (c + 1) high' low'
  turns {c} {high} {low} {high'} {low'} h l e f = record {
    some = omega arith;
    most = omega arith;
    few = h.few;
    highs = λ i k. up i k (ℕ_discrete i c);
    lows = λ i k. down i k (ℕ_discrete i c);
    high_from = top (dec_le (s c).right high);
    low_from = bottom (dec_le low (s c).x);
  }
    where
      up : (i : ℕ) → i < c + 1 → Dec (i ≡ c) → (s i).right ≤ high'
      up i k (yes q) = rw q (omega arith)
      up i k (no q) = omega (arith, h.highs i (omega arith))

      down : (i : ℕ) → i < c + 1 → Dec (i ≡ c) → low' ≤ (s i).x
      down i k (yes q) = rw q (omega arith)
      down i k (no q) = omega (arith, h.lows i (omega arith))

      top : Dec ((s c).right ≤ high) → From (λ i. (s i).right) n high'
      top (yes q) = let r = h.high_from in record { cell = r.cell; is = r.is; so = omega (arith, r.so) }
      top (no q) = record { cell = c; is = l; so = omega arith }

      bottom : Dec (low ≤ (s c).x) → From (λ i. (s i).x) n low'
      bottom (yes q) = let r = h.low_from in record { cell = r.cell; is = r.is; so = omega (arith, r.so) }
      bottom (no q) = record { cell = c; is = l; so = omega arith }

  pub widening_turns : {c high low high' low' : ℕ} → Widening s n c high low → c < n → (v : View) → v ≡ s c → high' ≡ max high v.right → low' ≡ min low v.x
      → Widening s n (c + 1) high' low'
  widening_turns h l v w e f = turns h l (rw w at e) (rw w at f)

  pub widening_ends : {c high low : ℕ} → Widening s n c high low → n ≤ c → Spread s n (high - low)
  widening_ends {c} {high} {low} h l =
      let r = h.high_from in
      let u = h.low_from in
      record {
        all = λ i j k m. omega (arith, h.highs i (omega arith), h.lows j (omega arith), low_high h);
        a = r.cell;
        b = u.cell;
        a_is = r.is;
        b_is = u.is;
        so = omega (arith, r.so, u.so, low_high h);
      }

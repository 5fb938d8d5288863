-- Half a width is the nearest whole number, and no other number is: the proofs behind proofs/Halves.antt. Nothing that a reader must believe stands here. Assumes nothing.
use Rattle.std.specs.Prelude.{◌≡◌, refl, map, ℕ, ◌+◌, ◌/◌, ◌%◌, ◌≤◌}
use Rattle.std.proofs.Common.{arith, eq-eqb, ne_eqb}
use Rattle.std.proofs.Math.Decide.{ℕ_discrete}
use Rattle.ends.specs.Ended.{half}
use Rattle.ends.specs.Nearest.{gap, Nearest, width_row, width_computed, widths}

-- the same in numbers: twice h is w, one less or one more, and where w is odd h is even
pub record Close (w h : ℕ) : Type 0 where
  pub low : h + h ≤ w + 1
  pub high : w ≤ h + h + 1
  pub odd : w % 2 ≡ 1 → h % 2 ≡ 0

-- half w is close to half of w, and no other number is
pub half_close : (w : ℕ) → Close w (half w)
unfolding half
half_close w =
    elim (ℕ_discrete (w % 2) 0) [
      | yes e ↦ rw (eq-eqb (w % 2) 0 e) (record { low = omega arith; high = omega arith; odd = λ o. omega arith })
      | no n ↦
          elim (ℕ_discrete (w / 2 % 2) 0) [
            | yes e ↦ rw (ne_eqb (w % 2) 0 n, eq-eqb (w / 2 % 2) 0 e) (record { low = omega arith; high = omega arith; odd = λ o. omega arith })
            | no u ↦ rw (ne_eqb (w % 2) 0 n, ne_eqb (w / 2 % 2) 0 u) (record { low = omega arith; high = omega arith; odd = λ o. omega arith })
          ]
    ]

pub close_half : (w h : ℕ) → Close w h → h ≡ half w
close_half w h p =
    let q = half_close w in
    elim (ℕ_discrete (w % 2) 0) [
      | yes e ↦ omega (arith, p.low, p.high, q.low, q.high)
      | no n ↦
          let o : w % 2 ≡ 1 = omega arith in
          let e : h / 2 ≡ half w / 2 = omega (arith, p.low, p.high, q.low, q.high, p.odd o, q.odd o) in
          omega (arith, p.odd o, q.odd o)
    ]

close_nearest : (w h : ℕ) → Close w h → Nearest w h
close_nearest w h p =
    elim (ℕ_discrete (w % 2) 0) [
      | yes e ↦ let d : h + h ≡ w = omega (arith, p.low, p.high) in record { nearer = λ k. omega arith; tie = λ k n t. absurd (n (omega arith)) }
      | no n ↦ let o : w % 2 ≡ 1 = omega arith in record { nearer = λ k. odd k o; tie = λ k n t. p.odd o }
    ]
  where
    odd : (k : ℕ) → w % 2 ≡ 1 → gap (h + h) w ≤ gap (k + k) w
    odd k o =
        let l : gap (h + h) w ≤ 1 = omega (arith, p.low, p.high) in
        let m : 1 ≤ gap (k + k) w = omega arith in
        omega arith

nearest_close : (w h : ℕ) → Nearest w h → Close w h
nearest_close w h p = let l : gap (h + h) w ≤ 1 = omega (arith, p.nearer (w / 2)) in record { low = omega arith; high = omega arith; odd = λ o. odd l o }
  where
    -- w / 2 and the next number are equally near: h is one of them, and the other is its tie
    odd : gap (h + h) w ≤ 1 → w % 2 ≡ 1 → h % 2 ≡ 0
    odd l o =
        elim (ℕ_discrete (w / 2) h) [
          | yes e ↦ p.tie (w / 2 + 1) (λ q. omega arith) (omega arith)
          | no n ↦ p.tie (w / 2) n (omega arith)
        ]

-- THE MEANING: half w is the nearer whole number, a tie going to the even one, and no other number is
pub half-nearest : (w : ℕ) → Nearest w (half w)
half-nearest w = close_nearest w (half w) (half_close w)

pub nearest-half : (w h : ℕ) → Nearest w h → h ≡ half w
nearest-half w h p = close_half w h (nearest_close w h p)

pub worked : map width_computed widths ≡ widths
unfolding width_row width_computed widths half
worked = refl

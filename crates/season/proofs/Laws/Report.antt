-- The report of one list of plans after another, of one plan, and of plans within the limits. Assumes nothing.
use Rattle.std.specs.Prelude.{◌≡◌, refl, List, [], ◌∷◌, ◌++◌, ℕ, ◌+◌, ◌*◌, ◌≤◌, max, length}
use Rattle.std.proofs.Common.{arith, mul-le-mul}
use Rattle.season.specs.declared.Report.{Report}
use Rattle.season.specs.Report.{cells_each, width_each, rows_each, area_each, Figure, summed, narrowest, widest, quotient, remainder, report, nothing, Plans}

-- ---- one list after the other
pub length-after : (xs ys : List Figure) → length (xs ++ ys) ≡ length xs + length ys
length-after [] ys = omega arith
length-after (x ∷ xs) ys = omega (arith, length-after xs ys)

pub summed-after : (f : Figure → ℕ) (xs ys : List Figure) → summed f (xs ++ ys) ≡ summed f xs + summed f ys
unfolding summed
summed-after f [] ys = omega arith
summed-after f (x ∷ xs) ys = omega (arith, summed-after f xs ys)

pub widest-after : (xs ys : List Figure) → widest (xs ++ ys) ≡ max (widest xs) (widest ys)
unfolding widest
widest-after [] ys = omega arith
widest-after (x ∷ xs) ys = omega (arith, widest-after xs ys)

pub plans_after : {xs ys : List Figure} → Plans xs → Plans ys → Plans (xs ++ ys)
plans_after Plans.no_plan k = k
plans_after (Plans.more c w r h) k = Plans.more c w r (plans_after h k)

-- ---- one plan
quotient-one : (w : ℕ) → quotient w 1 ≡ w
unfolding quotient
quotient-one w = omega arith

remainder-one : (w : ℕ) → remainder w 1 ≡ 0
unfolding remainder
remainder-one w = omega arith

pub report_single : (c w r : ℕ)
    → ◌≡◌ {A = Report} (record { plans = 1; cells = c; widths = w; areas = w * r; least = w; greatest = w; mean = w; rest = 0 }) (report (record { cells = c; width = w; rows = r } ∷ []))
unfolding report summed narrowest widest
report_single c w r =
    let p : c + 0 ≡ c = omega arith in
    let q : w + 0 ≡ w = omega arith in
    let s : w * r + 0 ≡ w * r = omega arith in
    let m : max w 0 ≡ w = omega arith in
    rw (p, q, s, m, quotient-one w, remainder-one w)

pub area_most : (w r : ℕ) → w ≤ width_each → r ≤ rows_each → w * r ≤ area_each
area_most w r h k = mul-le-mul h k

-- ---- no plan
pub report-none : report [] ≡ nothing
unfolding report nothing summed narrowest widest quotient remainder
report-none = refl

-- ---- sums of plans within the limits
pub record Sums (xs : List Figure) : Type 0 where
  pub cells : summed (λ (x : Figure). x.cells) xs ≤ cells_each * length xs
  pub widths : summed (λ (x : Figure). x.width) xs ≤ width_each * length xs
  pub areas : summed (λ (x : Figure). x.width * x.rows) xs ≤ area_each * length xs

pub sums : {xs : List Figure} → Plans xs → Sums xs
unfolding summed
sums Plans.no_plan = record { cells = omega arith; widths = omega arith; areas = omega arith }
sums (Plans.more {x = x} c w r h) =
    let s = sums h in
    let a = area_most x.width x.rows w r in
    record { cells = omega (arith, s.cells); widths = omega (arith, s.widths); areas = omega (arith, s.areas) }

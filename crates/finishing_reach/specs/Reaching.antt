-- WHAT A REACH ANSWERS (document 02, E9). Assumes nothing.
use Rattle.std.specs.Prelude.{◌≡◌, List, ℕ, length, take, Result, Err}
use Rattle.whole.specs.Whole.{plus}
use Rattle.plan.specs.Plan.{Table, cells}
use Rattle.plan.specs.declared.Refusal.{Refusal}
use Rattle.plan.specs.Questions.{answered}
use Rattle.rules.specs.Placement.{left_extent, right_extent}
use Rattle.contours.specs.Sheet.{sheet}
use Rattle.finishing_order.specs.Postorder.{postorder}
use Rattle.finishing_reach.specs.declared.Sides.{Sides}
use Rattle.finishing_asks.specs.Asks.{reach_no}
use Rattle.finishing_step.specs.Stepping.{Holds}

-- the reach of the cell c: that of the complete sheet. (A reach is a whole number that is not negative; `plus` is such a number as a natural one.)
abbrev pub reached_of : Table → (allowance c : ℕ) → Refusal → Result Sides Refusal
reached_of t al c r = answered r (record { left = plus (left_extent t (sheet t al) c); right = plus (right_extent t (sheet t al) c) })

-- a call of Reach. It alters nothing: both scratches are lent for reading only
pub record Reaches (t : Table) (al : ℕ) (xs ms : List ℕ) (c : ℕ) (r : Result Sides Refusal) : Type 0 where
  -- every question but 20, whatever the scratches hold: 20 is answered yes where every cell is finished
  pub refuses : ¬ ((reach_no t al (length xs) (length ms) (cells t) c).number ≡ 0)
      → r ≡ Err (reach_no t al (length xs) (length ms) (cells t) c)
  -- a sheet that is being made: the first k cells of the order are finished
  pub reads : (k : ℕ) → Holds t al k xs ms → r ≡ reached_of t al c (reach_no t al (length xs) (length ms) (take k (postorder t)) c)
  -- no question but 20 refuses, and anything: a refusal is 20 with the cell
  pub says : (reach_no t al (length xs) (length ms) (cells t) c).number ≡ 0 → (e : Refusal) → r ≡ Err e → (e.number ≡ 20) × (e.cell ≡ c)

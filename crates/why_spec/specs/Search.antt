-- THE REASON why a sheet measures what it does (for the width: why it is as wide as it is): of all chains of links that its cells just keep, from a cell with the least x to a cell farthest to
-- the right, one with the fewest links; of these, the one with the lowest last cell, and from there back the lowest cell each time, by the lowest rule.
-- Over any placement. Assumes nothing.
use Rattle.std.specs.Prelude.{List, [], ◌∷◌, Bool, cond, ◌&&◌, ◌||◌, ℕ, zero, suc, length, ◌-ℤ◌}
use Rattle.whole.specs.Says.{eq_z}
use Rattle.plan.specs.Lists.{from, keep, some, mem}
use Rattle.plan.specs.Plan.{Table, cells}
use Rattle.rules.specs.Placement.{Placement, most, least}
use Rattle.why_spec.specs.Measures.{Measure, far}
use Rattle.why_spec.specs.Links.{Link, asks, Reason}

-- the first of the list that passes, 0 where none does
unfoldable pub first : (ℕ → Bool) → List ℕ → ℕ
first f [] = 0
first f (a ∷ l) = let r = first f l in cond (f a) a r

pub data Answer : Type 0 where
  because : Reason → Answer
  no_reason : Answer

module _ (t : Table) (al : ℕ) (p : Placement) where
  -- the rule asks of a and b just the distance that they have; one of S2 to S5 does
  unfoldable pub tight : (a b rule : ℕ) → Bool
  tight a b rule = asks t al rule a b (p.x b -ℤ p.x a)

  unfoldable pub tied : ℕ → ℕ → Bool
  tied a b = some (tight a b) (from 2 4)

  -- their link, by the lowest rule that does
  unfoldable pub link : ℕ → ℕ → Link
  link a b = record { rule = first (tight a b) (from 2 4); from = a; to = b; apart = p.x b -ℤ p.x a }

  -- b is among them, or a link leads from one of them to b
  unfoldable pub leads : List ℕ → ℕ → Bool
  leads l b = let s = some (λ a. tied a b) l in mem b l || s

module _ (μ : Measure) (p : Placement) where
  -- where the measure may begin, with the least x; where it may end, farthest to the right
  unfoldable pub leftmost : ℕ → Bool
  leftmost a = let e = eq_z (p.x a) (least p.x (p.x μ.start) μ.starts) in mem a μ.starts && e

  unfoldable pub rightmost : ℕ → Bool
  rightmost b = let e = eq_z (far μ p b) (most (far μ p) (far μ p μ.end) μ.ends) in mem b μ.ends && e

module _ (t : Table) (al : ℕ) (μ : Measure) (p : Placement) where
  -- the cells to which k links or fewer lead from those with the least x
  unfoldable pub reached : ℕ → List ℕ
  reached zero = keep (leftmost μ p) (cells t)
  reached (suc k) = let l = reached k in keep (leads t al p l) (cells t)

  -- one of them is farthest to the right
  unfoldable pub closes : ℕ → Bool
  closes k = some (rightmost μ p) (reached k)

  -- the fewest links that lead to such a cell, and the lowest of these
  unfoldable pub fewest : ℕ
  fewest = first closes (from 0 (length t))

  unfoldable pub final : ℕ
  final = first (rightmost μ p) (reached fewest)

  -- the lowest cell from which a link leads to b, of those that k links reach
  unfoldable pub before : ℕ → ℕ → ℕ
  before k b = first (λ a. tied t al p a b) (reached k)

  -- k links back from b: the cell where they begin, and the links, put in front of others
  unfoldable pub origin : ℕ → ℕ → ℕ
  origin zero b = b
  origin (suc k) b = origin k (before k b)

  unfoldable pub trail : ℕ → ℕ → List Link → List Link
  trail zero b ls = ls
  trail (suc k) b ls = let a = before k b in trail k a (link t al p a b ∷ ls)

  -- THE reason, where there is one
  unfoldable pub reason : Reason
  reason = record { first = origin fewest final; links = trail fewest final []; last = final }

  -- what is answered of a placement: why nothing is less, or that there is no reason (of a placement that keeps the rules: that it could be less)
  unfoldable pub why : Answer
  why = let r = reason in cond (some closes (from 0 (length t))) (because r) no_reason

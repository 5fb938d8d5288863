-- 000'S BD2, BD3, BD4 AND BD6 follow from S1 to S5 (document 01, Drawing rules, after S5), of any placement that keeps them. Assumes nothing.
use Rattle.std.specs.Prelude.{ℕ, ◌≤◌, ◌≡◌, length, T, ◌<ℤ◌}
use Rattle.plan.specs.Lists.{At}
use Rattle.plan.specs.Plan.{Table, Is, Sound, kind, children, child, appointed, next}
use Rattle.rules.specs.Placement.{Placement, right}
use Rattle.rules.specs.Rules.{Keeps}
use Rattle.least.specs.Vertical.{vertical_place, Apart}
use Rattle.least.proofs.Laws.Constraints as laws

-- ---- a placement that keeps S1 to S5
module _ (t : Table) (sound : Sound t) (p : Placement) (al : ℕ) (k : Keeps t p al) where
  -- Bd2. "If a cell p has k sons q₁ .. q_k, then x(p) = x(q of number (k+1)/2, rounded up)": S2 itself, so of a choice the first (document 02, E6)
  pub bd2 : (c : ℕ) → Is t c → 1 ≤ length (children t c) → p.x c ≡ p.x (child t c (appointed (kind t c) (length (children t c))))
  bd2 = laws.bd2 t sound p al k

  -- Bd3. "x(q_i) + W(q_i) < x(q_{i+1})" for neighbouring sons
  pub bd3 : (u v : ℕ) → Is t u → T (next t u v) → right t p u <ℤ p.x v
  bd3 = laws.bd3 t sound p al k

  -- Bd4. "If VP(p) = VP(q) and x(p) < x(q), then max {x(s) + W(s) | s is a son of p} < min {x(s) | s is a son of q}."
  pub bd4 : (a b : ℕ) → Is t a → Is t b → vertical_place t a ≡ vertical_place t b → p.x a <ℤ p.x b
      → (i j s q : ℕ) → At (children t a) i s → At (children t b) j q → right t p s <ℤ p.x q
  bd4 = laws.bd4 t sound p al k

  -- Bd6. "If p and q are different cells, then d(Area(p), Area(q)) ≥ 1."
  pub bd6 : (a b : ℕ) → Is t a → Is t b → ¬ (a ≡ b) → Apart t p a b
  bd6 = laws.bd6 t sound p al k

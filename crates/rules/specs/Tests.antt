-- Each rule at one pair of cells as a test that computes. Nothing that a reader must believe stands here: the verdict by these tests is proved exact
-- (VerdictLaws). Assumes nothing.
use Rattle.std.specs.Prelude.{Bool, true, ◌&&◌, ◌||◌, ℕ, zero, suc, length, eqb, leb, ℤ, pos, ◌+ℤ◌, ◌-ℤ◌}
use Rattle.std.specs.Int.Signed.{le_z, lt_z}
use Rattle.whole.specs.Says.{only, eq_z}
use Rattle.plan.specs.Lists.{some}
use Rattle.plan.specs.Plan.{Table, parent, kind, children, child, appointed, path, next, earlier}
use Rattle.rules.specs.Placement.{Placement, right, base, bottom}

-- rows s to e and rows s' to e' share one
unfoldable pub share : ℤ → ℤ → ℤ → ℤ → Bool
share s e s' e' = (le_z s e && le_z s' e') && (le_z s e' && le_z s' e)

-- b is the appointed child of a
unfoldable pub flush : Table → ℕ → ℕ → Bool
flush t a b = leb 1 (length (children t a)) && eqb (child t a (appointed (kind t a) (length (children t a)))) b

-- b is the sibling right after one that a is at or below; a is the sibling right before one that b is at or below
unfoldable pub after_one : Table → ℕ → ℕ → Bool
after_one t a b = some (λ u. next t u b) (path t a)

unfoldable pub before_one : Table → ℕ → ℕ → Bool
before_one t a b = some (λ v. next t a v) (path t b)

module _ (t : Table) (p : Placement) where
  -- S1 at a cell
  unfoldable pub kept1 : ℕ → Bool
  kept1 zero = eq_z (p.x 0) (pos 0) && eq_z (p.y 0) (pos 0)
  kept1 (suc m) = eq_z (p.y (suc m)) (base t p (parent t (suc m)) +ℤ pos 1)

  -- some row from s to e is one of b's box or stem
  unfoldable pub meets : ℤ → ℤ → ℕ → Bool
  meets s e b =
      let k = share s e (base t p b +ℤ pos 1) (bottom t p b) in
      share s e (p.y b) (base t p b) || leb 1 (length (children t b)) && k

  -- S4 for a's box, and for its stem
  unfoldable pub box4 : ℕ → ℕ → Bool
  box4 a b = only (meets (p.y a) (base t p a) b) (lt_z (right t p a) (p.x b))

  unfoldable pub stem4 : ℕ → ℕ → Bool
  stem4 a b =
      let k = meets (base t p a +ℤ pos 1) (bottom t p a) b in
      only (leb 1 (length (children t a)) && k) (lt_z (p.x a) (p.x b))

  -- rule r at the cells a and b. What a `let` binds waits until the test before it asks for it
  unfoldable pub test : ℕ → ℕ → ℕ → ℕ → Bool
  test al zero a b = true
  test al (suc zero) a b = only (eqb a b) (kept1 a)
  test al (suc (suc zero)) a b = only (flush t a b) (eq_z (p.x a) (p.x b))
  test al (suc (suc (suc zero))) a b = only (after_one t a b) (lt_z (right t p a) (p.x b)) && only (before_one t a b) (lt_z (p.x a) (p.x b))
  test al (suc (suc (suc (suc zero)))) a b = let k = box4 a b && stem4 a b in only (earlier t a b) k
  test al (suc (suc (suc (suc (suc zero))))) a b = only (earlier t a b) (le_z (right t p a -ℤ p.x b +ℤ pos 1) (pos al))
  test al (suc (suc (suc (suc (suc (suc r)))))) a b = true

-- The lent positions after a placement is written into them. Assumes nothing.
use Rattle.std.specs.Prelude.{List, [], ◌∷◌, ◌++◌, ℕ, zero, suc, ◌*◌, drop, ℤ}
use Rattle.rules.specs.Placement.{Placement}

-- x then y of d cells, from cell k on
unfoldable pub corners : Placement → ℕ → ℕ → List ℤ
corners p k zero = []
corners p k (suc d) = p.x k ∷ p.y k ∷ corners p (suc k) d

-- x then y of the cells 0 to n−1, nothing beyond
unfoldable pub written : List ℤ → Placement → ℕ → List ℤ
written ps p n = corners p 0 n ++ drop (2 * n) ps

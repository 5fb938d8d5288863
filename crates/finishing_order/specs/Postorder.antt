-- THE ORDER OF FINISHING (document 02, E9): children before their parent, and each sibling's whole subtree before the next's. Every definition computes. Assumes nothing.
use Rattle.std.specs.Prelude.{List, [], ◌∷◌, ◌++◌, ℕ, zero, suc, length}
use Rattle.plan.specs.Plan.{Table, children}
use Rattle.walk.specs.Preorder.{in_turn}

-- all below the cell c, down to so many levels, then c
unfoldable pub postorder_to : Table → ℕ → ℕ → List ℕ
postorder_to t zero c = c ∷ []
postorder_to t (suc d) c = in_turn (postorder_to t d) (children t c) ++ (c ∷ [])

-- of the whole table: children have higher numbers than their parent, so as many levels as cells are enough
unfoldable pub postorder : Table → List ℕ
postorder t = postorder_to t (length t) 0

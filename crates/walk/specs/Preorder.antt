-- The order in which a walk of the tree opens the cells: each cell before its children, a child and all below it before the next child. Assumes nothing.
use Rattle.std.specs.Prelude.{List, [], ◌∷◌, ◌++◌, ℕ, zero, suc, length}
use Rattle.plan.specs.Plan.{Table, children}

-- the lists of the cells cs, one after another
unfoldable pub in_turn : (ℕ → List ℕ) → List ℕ → List ℕ
in_turn f [] = []
in_turn f (c ∷ cs) = f c ++ in_turn f cs

-- the cell c, then all below it, down to so many levels
unfoldable pub preorder_to : Table → ℕ → ℕ → List ℕ
preorder_to t zero c = []
preorder_to t (suc d) c = c ∷ in_turn (preorder_to t d) (children t c)

-- children have higher numbers than their parent, so as many levels as cells are enough (`preorder-is` in Visits)
abbrev pub preorder : Table → ℕ → List ℕ
preorder t c = preorder_to t (length t) c

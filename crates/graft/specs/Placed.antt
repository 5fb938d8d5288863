-- Where the second plan's root comes to stand among the children of the named cell (document 02, E10 and E13). Assumes nothing.
use Rattle.std.specs.Prelude.{List, [], ◌∷◌, cond, ℕ, leb}

-- x goes before the first whose f is greater than its own
unfoldable pub put_in : (ℕ → ℕ) → ℕ → List ℕ → List ℕ
put_in f x [] = x ∷ []
put_in f x (b ∷ l) = let r = b ∷ put_in f x l in cond (leb (f b) (f x)) r (x ∷ b ∷ l)

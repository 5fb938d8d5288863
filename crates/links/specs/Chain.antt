-- Chains of siblings in the links: from a cell to its next sibling, and on, to none. What a walk along one meets, and how a cell is linked in. Assumes nothing.
use Rattle.std.specs.Prelude.{◌≡◌, List, [], ◌∷◌, Bool, false, cond, ℕ, zero, suc, ◌+◌, ◌*◌, ◌<◌, get_or, set, leb, ltb}
use Rattle.plan.specs.Limits.{most_cells}
use Rattle.links.specs.Links.{link}

-- the cell s and its later siblings are those of the list (0: none)
abbrev pub Chain : List ℕ → ℕ → List ℕ → Type 0
Chain ls s [] = s ≡ 0
Chain ls s (x ∷ l) = record { is : s ≡ x; some : 0 < x; few : x < most_cells; rest : Chain ls (link ls x 1) l }

-- what a walk of at most k steps meets
unfoldable pub spell : List ℕ → ℕ → ℕ → List ℕ
spell ls zero s = []
spell ls (suc k) zero = []
spell ls (suc k) (suc m) = suc m ∷ spell ls k (link ls (suc m) 1)

-- all of them
abbrev pub line_of : List ℕ → ℕ → List ℕ
line_of ls s = spell ls most_cells s

-- ---- the link that a cell of rank q is put at: the one that leads to the first sibling of no lower rank, or to none
unfoldable pub seek : List ℕ → ℕ → ℕ → List ℕ → ℕ
seek qs q at [] = at
seek qs q at (s ∷ l) = let r = seek qs q (4 * s + 1) l in cond (leb q (get_or qs s 0)) at r

-- a sibling of lower rank than q
abbrev pub goes_on : List ℕ → ℕ → ℕ → Bool
goes_on qs zero q = false
goes_on qs (suc m) q = ltb (get_or qs (suc m) 0) q

-- the cell c is linked in at the link r
abbrev pub link_in : List ℕ → ℕ → ℕ → List ℕ
link_in ls c r = set (set ls (4 * c + 1) (get_or ls r 0)) r c

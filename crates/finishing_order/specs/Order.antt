-- From one finished cell to the next, as the code finds it along the links. Nothing that a reader must believe stands here. Assumes nothing.
use Rattle.std.specs.Prelude.{List, Bool, false, cond, ◌||◌, ℕ, zero, suc, ◌-◌, ◌*◌, ◌≤◌, ◌<◌, length, get_or, eqb}
use Rattle.plan.specs.Limits.{most_cells}
use Rattle.links.specs.Links.{link}

-- from child to first child, at most so often
unfoldable pub down : List ℕ → ℕ → ℕ → ℕ
down ls zero c = c
down ls (suc k) c = cond (eqb (link ls c 0) 0) c (down ls k (link ls c 0))

-- the first cell to finish at or below c
abbrev pub leaf : List ℕ → ℕ → ℕ
leaf ls c = down ls (most_cells - c) c

-- the first cell to finish of the siblings from h on, or, where there is none, their parent
unfoldable pub enter : List ℕ → (f h : ℕ) → ℕ
enter ls f h = cond (eqb h 0) f (leaf ls h)

-- the cell to finish after c; the root is the last
unfoldable pub after : (links parents : List ℕ) → ℕ → ℕ
after ls ps zero = 0
after ls ps (suc p) = enter ls (get_or ps (suc p) 0) (link ls (suc p) 1)

-- cell number i of the order
unfoldable pub nth : (links parents : List ℕ) → ℕ → ℕ
nth ls ps zero = leaf ls 0
nth ls ps (suc i) = after ls ps (nth ls ps i)

-- x is among the first i
unfoldable pub met : (links parents : List ℕ) → (x i : ℕ) → Bool
met ls ps x zero = false
met ls ps x (suc i) = met ls ps x i || eqb x (nth ls ps i)

-- a first child is a cell of a higher number
pub record Falls (ls : List ℕ) (n : ℕ) : Type 0 where
  pub room : 4 * most_cells ≤ length ls
  pub few : n ≤ most_cells
  pub falls : (a : ℕ) → a < n → 0 < link ls a 0 → (a < link ls a 0) × (link ls a 0 < n)

-- what the search for a cell reads
pub record Seeks (ls ps : List ℕ) (n : ℕ) : Type 0 where
  pub falls : Falls ls n
  pub inside : (i : ℕ) → i < n → nth ls ps i < n
  pub sibling : (c : ℕ) → c < n → 1 ≤ c → 0 < link ls c 1 → link ls c 1 < n

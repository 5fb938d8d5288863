-- How a span is shared out among the children, as the code does it. Assumes nothing.
use Rattle.std.specs.Prelude.{◌≡◌, List, [], ◌∷◌, ℕ, zero, suc, ◌+◌, ◌*◌, ◌≤◌, ◌<◌, length, set}
use Rattle.plan.specs.Limits.{most_cells}
use Rattle.plan.specs.Lists.{total}
use Rattle.links.specs.Links.{link}
use Rattle.links.specs.Chain.{Chain, line_of}
use Rattle.spans.specs.Spans.{at}

-- the four columns
pub record Cols : Type 0 where
  pub firsts : List ℕ
  pub ends : List ℕ
  pub froms : List ℕ
  pub tos : List ℕ

abbrev pub cols : (first end from to : List ℕ) → Cols
cols a b c d = record { firsts = a; ends = b; froms = c; tos = d }

pub record Long (c : Cols) : Type 0 where
  pub firsts_long : length c.firsts ≡ most_cells
  pub ends_long : length c.ends ≡ most_cells
  pub froms_long : length c.froms ≡ most_cells
  pub tos_long : length c.tos ≡ most_cells

module _ (size : ℕ → ℕ) where
  -- the size of the first of a list
  abbrev pub next_size : List ℕ → ℕ
  next_size [] = 0
  next_size (x ∷ l) = size x

  -- the cell s gets the span from a on; b is where that of the sibling right before begins, z the size of the one right after
  abbrev pub share : Cols → (b a s z : ℕ) → Cols
  share c b a s z = cols (set c.firsts s a) (set c.ends s (a + size s)) (set c.froms s b) (set c.tos s (a + size s + z))

  -- the cells of a list, one after the other
  unfoldable pub spread : Cols → ℕ → ℕ → List ℕ → Cols
  spread c b a [] = c
  spread c b a (s ∷ l) = spread (share c b a s (next_size l)) a (a + size s) l

-- ---- the loop over the cells
-- the children of f share what its span has after its own number
abbrev pub spread_at : (ℕ → ℕ) → Cols → ℕ → List ℕ → Cols
spread_at size c f l = spread size c (at c.firsts f + 1) (at c.firsts f + 1) l

-- the children of f, as the links have them
abbrev pub kids : List ℕ → ℕ → List ℕ
kids ls f = line_of ls (link ls f 0)

-- a number of a column, 0 for no cell
abbrev pub or_none : List ℕ → ℕ → ℕ
or_none xs zero = 0
or_none xs (suc m) = at xs (suc m)

-- what sharing out the span of f needs
pub record Sharing (ls sizes : List ℕ) (c : Cols) (f : ℕ) : Type 0 where
  pub long : Long c
  pub is : f < most_cells
  pub links_long : 4 * most_cells ≤ length ls
  pub chain : Chain ls (link ls f 0) (kids ls f)
  pub small : at c.firsts f + 1 + total (at sizes) (kids ls f) ≤ most_cells

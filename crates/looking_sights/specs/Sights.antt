-- The numbers that the rules read of each cell. Assumes nothing.
use Rattle.std.specs.Prelude.{List, ◌≡◌, ℕ, ◌+◌, ◌*◌, ◌^◌, ◌≤◌, ◌<◌, get_or}
use Rattle.plan.specs.Limits.{most_cells}
use Rattle.looking_columns.specs.Columns.{sight}
use Rattle.looking_sights.specs.declared.View.{View}

-- the numbers that the rules read, of each cell
abbrev pub Sights : Type 0
Sights = ℕ → View

-- the numbers of the cell c, out of one list, 13 for each cell
abbrev pub view_in : List ℕ → Sights
view_in xs c = record {
  parent = get_or xs (sight * c + 0) 0;
  nth = get_or xs (sight * c + 1) 0;
  middle = get_or xs (sight * c + 2) 0;
  first = get_or xs (sight * c + 3) 0;
  end = get_or xs (sight * c + 4) 0;
  from = get_or xs (sight * c + 5) 0;
  to = get_or xs (sight * c + 6) 0;
  x = get_or xs (sight * c + 7) 0;
  right = get_or xs (sight * c + 8) 0;
  y = get_or xs (sight * c + 9) 0;
  due = get_or xs (sight * c + 10) 0;
  base = get_or xs (sight * c + 11) 0;
  bottom = get_or xs (sight * c + 12) 0;
}

-- the same numbers of the first n cells
pub record Agree (s s' : Sights) (n : ℕ) : Type 0 where
  pub same : (c : ℕ) → c < n → s c ≡ s' c

-- numbers of n cells that can be added to
pub record Sighted (s : Sights) (n : ℕ) : Type 0 where
  pub few : n ≤ most_cells
  pub x_small : (c : ℕ) → c < n → (s c).x < 2 ^ 31
  pub right_small : (c : ℕ) → c < n → (s c).right < 2 ^ 31
  pub bottom_small : (c : ℕ) → c < n → (s c).bottom < 2 ^ 31

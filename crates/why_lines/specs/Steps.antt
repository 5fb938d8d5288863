-- The lines of a chain as the code writes them: from cell to cell, each with its x moved up so that none is negative. Assumes nothing.
use Rattle.std.specs.Prelude.{List, [], ◌++◌, ℕ, zero, suc, ◌+◌, ◌≤◌, ◌<◌, get_or, pos, ◌-ℤ◌}
use Rattle.plan.specs.Limits.{most_cells}
use Rattle.listing.specs.Printed.{Bytes}
use Rattle.why_lines.specs.Printed.{link_line, last_line}

-- bytes of a link's line, of the first line and of the last, at most
abbrev pub link_size : ℕ
link_size = 108

abbrev pub head_size : ℕ
head_size = 88

abbrev pub last_size : ℕ
last_size = 66

-- the x of cell number j of the chain
abbrev pub x_of : (cells xs : List ℕ) → ℕ → ℕ
x_of cells xs j = get_or xs (get_or cells j 0) 0

-- the line of the link from cell number j to the next
unfoldable pub step_line : (cells rules xs : List ℕ) → ℕ → Bytes
step_line cells rules xs j =
    link_line (record { rule = get_or rules j 0; from = get_or cells j 0; to = get_or cells (j + 1) 0; apart = pos (x_of cells xs (j + 1)) -ℤ pos (x_of cells xs j) })
    (pos (x_of cells xs (j + 1)) -ℤ pos (x_of cells xs 0))

-- the first k of them
unfoldable pub steps_text : (cells rules xs : List ℕ) → ℕ → Bytes
steps_text cells rules xs zero = []
steps_text cells rules xs (suc k) = steps_text cells rules xs k ++ step_line cells rules xs k

-- the last line, of a chain of so many links
unfoldable pub end_line : (cells xs : List ℕ) (count width : ℕ) → Bytes
end_line cells xs k w = last_line (get_or cells k 0) w (pos (x_of cells xs k + w) -ℤ pos (x_of cells xs 0))

-- cells 0 to count of the chain are numbers of cells, whose x can be added to
pub record Few (cells : List ℕ) (count : ℕ) : Type 0 where
  pub links : count < most_cells
  pub each : (j : ℕ) → j ≤ count → get_or cells j 0 < most_cells

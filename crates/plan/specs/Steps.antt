-- The steps of the sequence as a call on a lent table takes them: what the code does, one by one. Nothing that a reader must believe stands here.
-- Assumes nothing.
use Rattle.std.specs.Prelude.{List, ◌&&◌, ℕ, ◌+◌, ◌*◌, leb, length, get_or, ℤ, pos}
use Rattle.plan.specs.Limits.{between, most_cells, most_width, most_level, last_row}
use Rattle.plan.specs.Plan.{Table, parent, kind, box_width, box_depth, children, level, row}
use Rattle.plan.specs.Kinds.{known, allows}
use Rattle.plan.specs.Questions.{lower, sized, near, asked, or_else, at_each}
use Rattle.plan.specs.declared.Refusal.{Refusal}

-- questions 6 to 8 at one cell, of a width of at most m
unfoldable pub cell_refusal : (m c p k w d : ℕ) → Refusal
cell_refusal m c p k w d = or_else (asked 6 (lower c p) c) (or_else (asked 7 (known k) c) (asked 8 (sized m w d) c))

-- questions 6 to 8, 11, 12 and 13 of a table
unfoldable pub cells_refusal : Table → Refusal
cells_refusal t = at_each (λ c. cell_refusal most_width c (parent t c) (kind t c) (box_width t c) (box_depth t c)) 0 (length t)

unfoldable pub children_refusal : Table → Refusal
children_refusal t = at_each (λ c. asked 11 (allows (kind t c) (length (children t c))) c) 0 (length t)

unfoldable pub levels_refusal : Table → Refusal
levels_refusal t = at_each (λ c. asked 12 (leb (level t c) most_level) c) 0 (length t)

unfoldable pub rows_refusal : Table → Refusal
rows_refusal t = at_each (λ c. asked 13 (leb (row t c + box_depth t c) last_row) c) 0 (length t)

-- 11 to 13
unfoldable pub tree_refusal : Table → Refusal
tree_refusal t = or_else (children_refusal t) (or_else (levels_refusal t) (rows_refusal t))

-- all of them
unfoldable pub table_refusal : Table → Refusal
table_refusal t = or_else (cells_refusal t) (tree_refusal t)

-- question 4, then those of the table: of a call without positions
unfoldable pub counted_refusal : Table → Refusal
counted_refusal t = or_else (asked 4 (between 1 most_cells (length t)) 0) (table_refusal t)

-- questions 4 and 1 (positions), then those of the table
unfoldable pub lent_refusal : Table → (positions : ℕ) → Refusal
lent_refusal t p = or_else (asked 4 (between 1 most_cells (length t)) 0) (or_else (asked 1 (leb (2 * length t) p) 0) (table_refusal t))

-- question 15 at one cell, and at each
abbrev pub near_at : List ℤ → ℕ → Refusal
near_at ps c = asked 15 (near (get_or ps (2 * c) (pos 0)) && near (get_or ps (2 * c + 1) (pos 0))) c

unfoldable pub near_refusal : List ℤ → ℕ → Refusal
near_refusal ps n = at_each (near_at ps) 0 n

-- the questions of a table at one cell, from columns
abbrev pub cells_at : (ps ks ws ds : List ℕ) (c : ℕ) → Refusal
cells_at ps ks ws ds c = cell_refusal most_width c (get_or ps c 0) (get_or ks c 0) (get_or ws c 0) (get_or ds c 0)

abbrev pub children_at : (kinds counts : List ℕ) (c : ℕ) → Refusal
children_at ks ns c = asked 11 (allows (get_or ks c 0) (get_or ns c 0)) c

abbrev pub levels_at : (levels : List ℕ) (c : ℕ) → Refusal
levels_at ls c = asked 12 (leb (get_or ls c 0) most_level) c

abbrev pub rows_at : (rows depths : List ℕ) (c : ℕ) → Refusal
rows_at rs ds c = asked 13 (leb (get_or rs c 0 + get_or ds c 0) last_row) c

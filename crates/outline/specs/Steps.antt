-- The writer as the code does it: cell after cell, from columns. Nothing that a reader must believe stands here. Assumes nothing.
use Rattle.std.specs.Prelude.{◌≡◌, List, [], ◌∷◌, ◌++◌, ℕ, zero, suc, ◌+◌, ◌≤◌, ◌<◌, length, get_or}
use Rattle.plan.specs.Limits.{most_cells, most_label}
use Rattle.listing.specs.Printed.{Bytes, line_feed}
use Rattle.content.specs.Content.{Item, item_of}
use Rattle.records.specs.Apart.{row_at}
use Rattle.plan.specs.declared.Lettered.{Lettered}
use Rattle.outline_spec.specs.Outline.{level_under, cell_line}
use Rattle.outline.specs.Outlined.{Outlined, outline_size, outlined_by, outlined_after, size}

-- cell c, from columns and label bytes
abbrev pub item_at : Lettered → (letters : List ℕ) → ℕ → Item
item_at t letters c = item_of letters (row_at t c)

-- the levels of the first c cells, and their lines
unfoldable pub levels_of : (ℕ → Item) → ℕ → List ℕ
levels_of e zero = []
levels_of e (suc c) = levels_of e c ++ (level_under (levels_of e c) (e c).cell.parent ∷ [])

unfoldable pub lines_of : (ℕ → Item) → ℕ → Bytes
lines_of e zero = []
lines_of e (suc c) = lines_of e c ++ (cell_line (levels_of e c) (e c) ++ (line_feed ∷ []))

-- what the loop asks of the cells
pub record Ready (t : Lettered) (letters : List ℕ) : Type 0 where
  pub few : t.columns.count ≤ most_cells
  pub low : (c : ℕ) → c < t.columns.count → level_under (levels_of (item_at t letters) c) (row_at t c).parent ≤ 127
  pub brief : (c : ℕ) → c < t.columns.count → length (cell_line (levels_of (item_at t letters) c) (item_at t letters c)) ≤ 255
  pub short : (c : ℕ) → c < t.columns.count → get_or t.label_length c 0 ≤ most_label
  pub within : (c : ℕ) → c < t.columns.count → get_or t.label_start c 0 + get_or t.label_length c 0 ≤ length letters

-- the answer and the output, into an output that is long enough
pub record Outlining (f out out' : List ℕ) (d : Outlined) : Type 0 where
  pub answers : d ≡ outlined_by f
  pub output : out' ≡ outlined_after d f out
  pub suffices : size d ≤ outline_size

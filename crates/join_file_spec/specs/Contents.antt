-- TWO PLANS JOINED, as contents (document 02, E10): what the joined plan says, however its file is arranged. "The first's cells, then the second's with numbers raised by the first's count,
-- and the second's root becomes the last son of that cell; fields other than the father are copied", label texts among them. The allowance is the first plan's. Assumes nothing.
use Rattle.std.specs.Prelude.{List, ℕ}
use Rattle.content.specs.Content.{Item, Content}
use Rattle.graft.specs.Joined.{hung_behind, cell_under}

-- the item with this parent
unfoldable pub item_under : ℕ → Item → Item
item_under p i = record { cell = cell_under p i.cell; text = i.text }

-- THE joined content: b hung under cell c of a
unfoldable pub joined_items : List Item → List Item → ℕ → List Item
joined_items a b c = hung_behind (λ (i : Item). i.cell.parent) item_under a b c

unfoldable pub joined_content : Content → Content → ℕ → Content
joined_content a b c = record { items = joined_items a.items b.items c; allowance = a.allowance }

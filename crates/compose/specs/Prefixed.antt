-- Cells before what is still to be read. Nothing that a reader must believe stands here. Assumes nothing.
use Rattle.std.specs.Prelude.{List, [], ◌∷◌}
use Rattle.content.specs.Content.{Item}
use Rattle.outline_spec.specs.Understood.{Cells, with_cell}

unfoldable pub prefixed : List Item → Cells → Cells
prefixed [] x = x
prefixed (i ∷ is) x = with_cell i (prefixed is x)

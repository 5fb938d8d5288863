use mir.Syntax.{w32}
use mir.ValLaws.{to_z-of_z}
use Rattle.printing.proofs.Laws.Printing.{label_short, cell_is}
use Rattle.printing.proofs.Laws.Taken.{line_given}
use Rattle.printing.proofs.line_at.Goals as goal

pub cell_line-requires : goal.cell_line-requires
cell_line-requires c = rw c.label_at.ensures (label_short _ _)

pub returns : goal.returns
returns c =
    line_given _ _ _ c.requires.1 c.requires.0 _ _ c.cell_line.ensures.0
    (rw (to_z-of_z w32 _ (record { sfits = c.x-1.given }), to_z-of_z w32 _ (record { sfits = c.y-1.given }), c.label_at.ensures) (cell_is _ _ _ _ c.requires.0 c.requires.2))

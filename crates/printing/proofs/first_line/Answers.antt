use mathlib.Core.Path.{◌∙◌, ap}
use Rattle.listing.specs.Line.{line_of}
use Rattle.printing.proofs.Laws.Printing.{first-is}
use Rattle.printing.proofs.first_line.Goals as goal

pub returns : goal.returns
returns c = (c.sheet_line.ensures.0 ∙ ap line_of (first-is _ _ _ c.requires), c.sheet_line.ensures.1)

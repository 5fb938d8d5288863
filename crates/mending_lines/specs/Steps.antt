-- The lines as the code writes them, cell by cell. Nothing that a reader must believe stands here. Assumes nothing.
use Rattle.std.specs.Prelude.{cond, [], ◌++◌, ℕ, zero, suc}
use Rattle.plan.specs.declared.Record.{Record}
use Rattle.listing.specs.Printed.{Bytes}
use Rattle.mending_boxes.specs.Boxes.{changed}
use Rattle.mending_lines.specs.Lines.{alteration, alteration_line}

-- bytes of a line, at most
abbrev pub line_room : ℕ
line_room = 24

-- of one cell
unfoldable pub alteration_text : (cell : ℕ) → Record → Bytes
alteration_text c r = cond (changed r) (alteration_line (alteration c r)) []

-- of the first n
unfoldable pub alterations_text : (ℕ → Record) → ℕ → Bytes
alterations_text e zero = []
alterations_text e (suc n) = alterations_text e n ++ alteration_text n (e n)

-- Document 02, E11: the line of a cell that is altered. Every definition computes. Assumes nothing.
use Rattle.std.specs.Prelude.{ℕ}
use Rattle.plan.specs.declared.Record.{Record}
use Rattle.listing.specs.Printed.{Bytes, mended_line}
use Rattle.mending_boxes.specs.Boxes.{new_width, new_depth}

-- a cell altered: "its number, old width and depth, new width and depth"
pub record Alteration : Type 0 where
  pub cell : ℕ
  pub old_width : ℕ
  pub old_depth : ℕ
  pub width : ℕ
  pub depth : ℕ

abbrev pub alteration : ℕ → Record → Alteration
alteration c r = record { cell = c; old_width = r.width; old_depth = r.depth; width = new_width r; depth = new_depth r }

-- "prints for each altered cell its number, old width and depth, new width and depth, in cell order"
unfoldable pub alteration_line : Alteration → Bytes
alteration_line a = mended_line a.cell a.old_width a.old_depth a.width a.depth

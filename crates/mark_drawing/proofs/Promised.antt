-- A PLAN'S OWN LISTING GETS FULL MARKS. Assumes nothing.
use Rattle.std.specs.Prelude.{◌≡◌, ℕ, ◌≤◌, length, take, Ok}
use Rattle.whole.specs.Whole.{plus}
use Rattle.rules.specs.Placement.{width, rows}
use Rattle.listing.specs.Printed.{Bytes}
use Rattle.planfile_spec.specs.Read.{Reading}
use Rattle.printing.specs.Printing.{read_table, ours, text_of, Taken, Lists}
use Rattle.drawing.specs.Drawn.{most_text}
use Rattle.mark_spec.specs.Marked.{full_of}
use Rattle.mark_drawing.specs.Outcome.{outcome}
use Rattle.mark_drawing.proofs.Laws.Listed as laws

-- of every file that Read takes, with the width and the rows of its sheet
pub listing_full : (p : Reading) (f : Bytes) → Taken p f → length (text_of f) ≤ most_text
    → outcome p.columns.count (read_table p) p.allowance (text_of f) ≡ Ok (full_of (plus (width (read_table p) (ours p))) (plus (rows (read_table p) (ours p))))
listing_full = laws.listing_full

-- what List writes of it, read back: the bytes of its answer, whatever output was lent
pub printed-full : (p : Reading) (f : Bytes) → Taken p f → (out out' : Bytes) (k : ℕ) → Lists f out out' (Ok k)
    → outcome p.columns.count (read_table p) p.allowance (take k out') ≡ Ok (full_of (plus (width (read_table p) (ours p))) (plus (rows (read_table p) (ours p))))
printed-full = laws.printed-full

-- A LISTING IS A DRAWING OF ITS PLAN: read back it says our sheet, x then y of each cell as Layout writes them. Assumes nothing.
use Rattle.std.specs.Prelude.{◌≡◌}
use Rattle.positions.specs.Written.{corners}
use Rattle.listing.specs.Printed.{Bytes}
use Rattle.planfile_spec.specs.Read.{Reading}
use Rattle.printing.specs.Printing.{ours, text_of, Taken}
use Rattle.drawing_spec.specs.Said.{placed_at, said}
use Rattle.drawing_listing.proofs.Laws.Listed as laws

-- of every file that Read takes
pub listing-read : (p : Reading) (f : Bytes) → Taken p f → said p.columns.count (text_of f) ≡ placed_at (corners (ours p) 0 p.columns.count)
listing-read = laws.listing-read

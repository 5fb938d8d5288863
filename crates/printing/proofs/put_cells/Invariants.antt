use Prim.Native.Nat.{◌+◌, ◌*◌, ◌≤◌}
use mathlib.Core.Path.{◌≡◌}
use lib.ListN.{length}
use Rattle.planfile_spec.specs.Read.{reading}
use Rattle.listing.specs.Put.{Put}
use Rattle.printing.specs.Printing.{cells_text, cell_size}
use Rattle.printing.proofs.put_cells.Given as goal

abbrev pub invariant-loop-c : goal.invariant-loop-c
invariant-loop-c l = (length l.out ≡ length l.initial.out) × (l.next ≤ l.at + cell_size * l.c) × Put l.initial.out l.at (cells_text (reading l.plan) l.file l.c) l.out l.next

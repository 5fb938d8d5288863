use Prim.Native.Nat.{◌+◌, ◌*◌, ◌≤◌}
use mathlib.Core.Path.{◌≡◌}
use lib.ListN.{length, take}
use Rattle.listing.specs.Put.{Put}
use Rattle.svg_labels.specs.Labels.{escaped}
use Rattle.svg_labels.proofs.put_letters.Given as goal

abbrev pub invariant-loop-letter : goal.invariant-loop-letter
invariant-loop-letter l = (length l.out ≡ length l.initial.out) × (l.next ≤ l.at + 5 * l.letter-index) × Put l.initial.out l.at (escaped (take l.letter-index l.label)) l.out l.next

use mathlib.Core.Path.{◌≡◌}
use Prim.Native.Nat.{◌*◌, ◌≤◌}
use lib.ListN.{length, take}
use Rattle.listing.specs.Put.{Put}
use Rattle.transcript.specs.Transcript.{steps_text}
use Rattle.transcript.proofs.put_steps.Given as goal

abbrev pub invariant-loop-i : goal.invariant-loop-i
invariant-loop-i l = (length l.out ≡ length l.initial.out) × (l.next ≤ 52 * l.i) × Put l.initial.out 0 (steps_text l.file (take l.i l.list)) l.out l.next

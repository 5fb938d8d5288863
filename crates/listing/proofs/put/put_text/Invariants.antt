use Rattle.std.proofs.Common.{◌≡◌, ◌+◌, length, take}
use Rattle.listing.specs.Put.{Put}
use Rattle.listing.proofs.put.put_text.Given as goal

abbrev pub invariant-loop-i : goal.invariant-loop-i
invariant-loop-i l = (length l.out ≡ length l.initial.out) × Put l.initial.out l.at (take l.i l.text) l.out (l.at + l.i)

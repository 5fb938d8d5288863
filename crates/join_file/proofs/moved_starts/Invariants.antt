use Prim.Native.Nat.{◌+◌}
use mathlib.Core.Path.{◌≡◌}
use lib.ListN.{get_or}
use Rattle.planfile_spec.specs.Reading.{column}
use Rattle.join_file.proofs.moved_starts.Given as goal

abbrev pub invariant-loop-i : goal.invariant-loop-i
invariant-loop-i l = l.all ≡ column (λ j. l.by + get_or l.starts j 0) l.i

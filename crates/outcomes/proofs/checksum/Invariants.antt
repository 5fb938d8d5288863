use Rattle.std.proofs.Common.{◌<◌}
use Rattle.outcomes.proofs.checksum.Given as goal

abbrev pub invariant-loop-i : goal.invariant-loop-i
invariant-loop-i l = l.sum < 65537

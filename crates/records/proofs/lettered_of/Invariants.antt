use Rattle.std.proofs.Common.{◌≡◌}
use Rattle.records.specs.Apart.{lettering}
use Rattle.records.proofs.lettered_of.Given as goal

abbrev pub invariant-loop-c : goal.invariant-loop-c
invariant-loop-c l = l.t ≡ lettering l.table l.count l.c

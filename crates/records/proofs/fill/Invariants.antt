use Rattle.std.proofs.Common.{◌≡◌}
use Rattle.records.specs.Together.{as_reading, filled}
use Rattle.records.proofs.fill.Given as goal

abbrev pub invariant-loop-c : goal.invariant-loop-c
invariant-loop-c l = l.table ≡ filled (as_reading l.t) l.c l.initial.table

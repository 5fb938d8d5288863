use mathlib.Core.Path.{◌≡◌}
use lib.ListN.{take}
use Rattle.std.specs.Prelude.{Some}
use Rattle.argument_number.specs.Number.{with_digits}
use Rattle.argument_number.proofs.number_in.Given as goal

abbrev pub invariant-loop-b : goal.invariant-loop-b
invariant-loop-b l = Some l.n ≡ with_digits (Some 0) (take l.b-index l.text)

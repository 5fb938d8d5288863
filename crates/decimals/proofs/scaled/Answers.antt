use Rattle.std.proofs.Common.{refl}
use lib.Ieee.{of_bits}
use Rattle.decimals.specs.Fixed.{scaled}
use Rattle.decimals.proofs.scaled.Goals as goal

pub returns : goal.returns
unfolding scaled of_bits
returns c = refl

use mathlib.Core.Path.{refl}
use native.Mathlib.Omega.{arith}
use Rattle.whole.proofs.Machine.{raise_fits, raise_is, raise_low}
use Rattle.whole.proofs.raise.Goals as goal

pub overflow_add-result : goal.overflow_add-result
overflow_add-result c = raise_fits c.args.by c.requires.0 c.args.x c.requires.1

pub overflow_cast-result-2 : goal.overflow_cast-result-2
overflow_cast-result-2 c = rw (raise_is c.args.by c.requires.0 c.args.x c.requires.1) (tt, record { fits = omega (arith, raise_low c.args.by c.requires.0 c.args.x c.requires.1) })

pub returns : goal.returns
returns c = rw (raise_is c.args.by c.requires.0 c.args.x c.requires.1) refl

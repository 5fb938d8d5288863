use Rattle.std.specs.Prelude.{◌-◌}
use Rattle.std.proofs.Common.{◌∙◌}
use Rattle.std.proofs.lemmas.List.{get_or_default}
use native.Mathlib.Omega.{arith}
use Rattle.grafting.proofs.Laws.Grafted.{first_of, second-of}
use Rattle.grafting.proofs.pick.Goals as goal

pub returns-then-i-n : goal.returns-then-i-n
returns-then-i-n g c z =
    get_or_default c.args.first.now c.args.i _ z (omega (arith, c.requires, c.told-first))
    ∙ first_of z c.args.n c.args.first.now c.args.second.now c.args.i c.if-i-n.true

pub returns : goal.returns
returns g c z =
    get_or_default c.args.second.now (c.args.i - c.args.n) _ z (omega (arith, c.requires, c.told-second))
    ∙ second-of z c.args.n c.args.first.now c.args.second.now c.args.i c.if-i-n.false

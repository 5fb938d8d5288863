use Prim.Native.Nat.{◌≤◌}
use native.Mathlib.Omega.{arith}
use Rattle.listing.proofs.Laws.Line.{step_line-is}
use Rattle.listing.proofs.Laws.Put.{then, line-ended}
use Rattle.listing.proofs.step_line.Goals as goal

pub returns : goal.returns
returns c =
    let l : c.byte.new.self.length ≤ 52 = omega arith in ((line-ended c.empty-line.ensures.0 (then (then c.decimal.ensures.0 c.label.ensures.0) c.byte.ensures) (omega arith) (step_line-is _ _)).0, l)

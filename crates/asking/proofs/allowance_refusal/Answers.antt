use native.Mathlib.Omega.{arith}
use Rattle.asking.proofs.allowance_refusal.Goals as goal

pub returns : goal.returns
returns c = c.asked.ensures.numbered (omega arith)

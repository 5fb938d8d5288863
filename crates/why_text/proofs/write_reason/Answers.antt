use native.Mathlib.Omega.{arith}
use Rattle.printing.proofs.Laws.Taken.{taken}
use Rattle.why_text.proofs.Laws.Text.{refusal-text}
use Rattle.why_text.proofs.write_reason.Goals as goal

pub write_plan-requires : goal.write_plan-requires
write_plan-requires c = (taken _ _ c.in-Ok.ensures, c.requires)

pub returns-in-Err : goal.returns-in-Err
returns-in-Err c = (refusal-text _ _ c.in-Err.ensures c.put_refused.ensures.0, omega (arith, c.put_refused.ensures.1))

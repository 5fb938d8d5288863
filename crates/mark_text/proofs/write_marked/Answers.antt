use Rattle.mark_text.proofs.Laws.Text.{marked-is, marked-refused}
use native.Mathlib.Omega.{arith}
use Rattle.mark_text.proofs.write_marked.Goals as goal

pub returns-in-Full : goal.returns-in-Full
returns-in-Full c = (marked-is _ _ _ _ c.in-Ok.is c.in-Full.is c.write_full.ensures.0, c.write_full.ensures.1)

pub returns-in-Wide : goal.returns-in-Wide
returns-in-Wide c = (marked-is _ _ _ _ c.in-Ok.is c.in-Wide.is c.write_wide.ensures.0, c.write_wide.ensures.1)

pub returns-in-Broken : goal.returns-in-Broken
returns-in-Broken c = (marked-is _ _ _ _ c.in-Ok.is c.in-Broken.is c.write_broken.ensures.0, c.write_broken.ensures.1)

pub returns-in-Err : goal.returns-in-Err
returns-in-Err c = (marked-refused _ _ _ c.in-Err.is c.write_named.ensures.0, omega (arith, c.write_named.ensures.1))

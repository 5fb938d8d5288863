use native.Mathlib.Omega.{arith}
use Rattle.frame_text.proofs.Laws.FrameText.{allowance_put}
use Rattle.frame_text.proofs.put_allowance.Goals as goal

pub returns : goal.returns
returns c = (allowance_put _ _ _ c.put_text-a.ensures c.put_decimal-b.ensures.0 c.put_sheet.ensures.0, omega (arith, c.put_text-a.ensures.place, c.put_decimal-b.ensures.1, c.put_sheet.ensures.1))

use native.Mathlib.Omega.{arith}
use Rattle.frame_text.proofs.Laws.FrameText.{none-put}
use Rattle.frame_text.proofs.put_none.Goals as goal

pub returns : goal.returns
returns c = (none-put _ _ c.put_text-a.ensures c.put_sheet.ensures.0, omega (arith, c.put_text-a.ensures.place, c.put_sheet.ensures.1))

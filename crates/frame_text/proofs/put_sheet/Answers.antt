use native.Mathlib.Omega.{arith}
use Rattle.frame_text.proofs.Laws.FrameText.{sheet-put}
use Rattle.frame_text.proofs.put_sheet.Goals as goal

pub returns : goal.returns
returns c = (sheet-put _ _ c.put_text-a.ensures c.put_decimal-b.ensures.0 c.put_text-c.ensures c.put_decimal-d.ensures.0 c.put_byte.ensures, omega (arith, c.put_text-a.ensures.place, c.put_decimal-b.ensures.1, c.put_text-c.ensures.place, c.put_decimal-d.ensures.1, c.put_byte.ensures.place))

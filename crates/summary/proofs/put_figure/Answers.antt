use native.Mathlib.Omega.{arith}
use Rattle.summary.proofs.Laws.Summary.{figure_put}
use Rattle.summary.proofs.put_figure.Goals as goal

pub returns : goal.returns
returns c = (figure_put _ c.put_text-a.ensures c.put_byte-b.ensures c.put_decimal-c.ensures.0 c.put_byte.ensures, omega (arith, c.requires.0, c.put_text-a.ensures.place, c.put_byte-b.ensures.place, c.put_decimal-c.ensures.1, c.put_byte.ensures.place))

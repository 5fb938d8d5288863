use native.Mathlib.Omega.{arith}
use Rattle.listing.proofs.Laws.Put.{then}
use Rattle.summary.specs.Summary.{sums_lines}
use Rattle.summary.proofs.put_sums.Goals as goal

pub returns : goal.returns
unfolding sums_lines
returns c = (then (then (then c.put_figure-a.ensures.0 c.put_figure-b.ensures.0) c.put_figure-c.ensures.0) c.put_figure.ensures.0, omega (arith, c.put_figure-a.ensures.1, c.put_figure-b.ensures.1, c.put_figure-c.ensures.1, c.put_figure.ensures.1))

use native.Mathlib.Omega.{arith}
use Rattle.listing.proofs.Laws.Put.{then}
use Rattle.summary.specs.Summary.{report_lines}
use Rattle.summary.proofs.write_report.Goals as goal

pub returns : goal.returns
unfolding report_lines
returns c = (then c.put_sums-at.ensures.0 c.put_extremes.ensures.0, omega (arith, c.put_sums-at.ensures.1, c.put_extremes.ensures.1))

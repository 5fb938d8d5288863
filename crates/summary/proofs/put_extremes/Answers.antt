use native.Mathlib.Omega.{arith}
use Rattle.listing.proofs.Laws.Put.{then}
use Rattle.summary.specs.Summary.{extremes_lines}
use borrow.Author.Rules.{rules}
use Rattle.summary.proofs.put_extremes.Goals as goal

pub put_figure-requires : goal.put_figure-requires
put_figure-requires c = (search rules, omega (arith, c.requires, c.put_figure-a.ensures.1, c.put_figure-b.ensures.1, c.put_figure-c.ensures.1))

pub returns : goal.returns
unfolding extremes_lines
returns c = (then (then (then c.put_figure-a.ensures.0 c.put_figure-b.ensures.0) c.put_figure-c.ensures.0) c.put_figure.ensures.0, omega (arith, c.put_figure-a.ensures.1, c.put_figure-b.ensures.1, c.put_figure-c.ensures.1, c.put_figure.ensures.1))

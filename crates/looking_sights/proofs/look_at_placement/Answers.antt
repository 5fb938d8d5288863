use Rattle.looking_sights.proofs.Looking.{raised_short, bases_short, scattered_more}
use Rattle.plan.proofs.Laws.Tables.{count_few}
use native.Mathlib.Omega.{arith}
use Rattle.looking_sights.proofs.look_at_placement.Goals as goal

pub raised-x-requires : goal.raised-x-requires
raised-x-requires c = (count_few c.args.t c.requires.0, omega arith, c.requires.1)

pub raised-y-requires : goal.raised-y-requires
raised-y-requires c = (count_few c.args.t c.requires.0, omega arith, c.requires.1)

pub edges_of-edge-requires : goal.edges_of-edge-requires
edges_of-edge-requires c = let t = c.args.t in let fit = c.requires.0 in let ps = c.args.positions.now in let near = c.requires.1 in (fit, raised_short t fit ps near _ 0 (omega arith) c.raised-x.ensures, raised_short t fit ps near _ 1 (omega arith) c.raised-y.ensures)

pub dues-due-requires : goal.dues-due-requires
dues-due-requires c = let t = c.args.t in let fit = c.requires.0 in let ps = c.args.positions.now in let near = c.requires.1 in (fit, bases_short t fit ps near _ _ c.raised-y.ensures c.edges_of-edge.ensures.1)

pub scatter-requires : goal.scatter-requires
scatter-requires c = (count_few c.args.t c.requires.0, omega arith, c.requires.2)

pub scatter-requires-2 : goal.scatter-requires-2
scatter-requires-2 c = (count_few c.args.t c.requires.0, omega arith, c.scatter.ensures.long)

pub scatter-requires-3 : goal.scatter-requires-3
scatter-requires-3 c = (count_few c.args.t c.requires.0, omega arith, c.scatter-2.ensures.long)

pub scatter-requires-4 : goal.scatter-requires-4
scatter-requires-4 c = (count_few c.args.t c.requires.0, omega arith, c.scatter-3.ensures.long)

pub scatter-requires-5 : goal.scatter-requires-5
scatter-requires-5 c = (count_few c.args.t c.requires.0, omega arith, c.scatter-4.ensures.long)

pub scatter-requires-6 : goal.scatter-requires-6
scatter-requires-6 c = (count_few c.args.t c.requires.0, omega arith, c.scatter-5.ensures.long)

pub returns : goal.returns
returns c = let e = c.edges_of-edge in record { x = c.raised-x.result; right = e.result.right; y = c.raised-y.result; due = c.dues-due.result; base = e.result.base; bottom = c.sink-bottom.result; x_raised = c.raised-x.ensures; rights = e.ensures.0; y_raised = c.raised-y.ensures; dues = c.dues-due.ensures; bases = e.ensures.1; bottoms = c.sink-bottom.ensures; scattered = (scattered_more (omega arith) c.scatter.ensures (scattered_more (omega arith) c.scatter-2.ensures (scattered_more (omega arith) c.scatter-3.ensures (scattered_more (omega arith) c.scatter-4.ensures (scattered_more (omega arith) c.scatter-5.ensures c.scatter-6.ensures))))) }

use Rattle.looking_sights.proofs.Looking.{many_short, scattered_more}
use Rattle.plan.proofs.Laws.Tables.{count_few}
use native.Mathlib.Omega.{arith}
use Rattle.looking_sights.proofs.look_at_tree.Goals as goal

pub heads_of-head-requires : goal.heads_of-head-requires
heads_of-head-requires c = (c.requires.0, many_short c.args.t c.requires.0 c.number-numbers.result.nth _ c.number-numbers.ensures)

pub scatter-requires : goal.scatter-requires
scatter-requires c = (count_few c.args.t c.requires.0, omega arith, c.requires.1)

pub scatter-requires-2 : goal.scatter-requires-2
scatter-requires-2 c = (count_few c.args.t c.requires.0, omega arith, c.scatter.ensures.long)

pub scatter-requires-3 : goal.scatter-requires-3
scatter-requires-3 c = (count_few c.args.t c.requires.0, omega arith, c.scatter-2.ensures.long)

pub scatter-requires-4 : goal.scatter-requires-4
scatter-requires-4 c = (count_few c.args.t c.requires.0, omega arith, c.scatter-3.ensures.long)

pub scatter-requires-5 : goal.scatter-requires-5
scatter-requires-5 c = (count_few c.args.t c.requires.0, omega arith, c.scatter-4.ensures.long)

pub scatter-requires-6 : goal.scatter-requires-6
scatter-requires-6 c = (count_few c.args.t c.requires.0, omega arith, c.scatter-5.ensures.long)

pub scatter-requires-7 : goal.scatter-requires-7
scatter-requires-7 c = (count_few c.args.t c.requires.0, omega arith, c.scatter-6.ensures.long)

pub returns : goal.returns
returns c =
    let h = c.heads_of-head in
    let n = c.number-numbers in
    let s = c.lay-span in
    record { heads = h.result.parent; nth = n.result.nth; middle = h.result.middle; first = s.result.first; end = s.result.end; from = s.result.from; to = s.result.to; many = n.result.many; parents = h.ensures.0; counted = n.ensures; middles = h.ensures.1; spans = s.ensures; scattered = (scattered_more (omega arith) c.scatter.ensures (scattered_more (omega arith) c.scatter-2.ensures (scattered_more (omega arith) c.scatter-3.ensures (scattered_more (omega arith) c.scatter-4.ensures (scattered_more (omega arith) c.scatter-5.ensures (scattered_more (omega arith) c.scatter-6.ensures c.scatter-7.ensures)))))) }

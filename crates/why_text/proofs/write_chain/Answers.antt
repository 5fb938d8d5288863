use native.Mathlib.Omega.{arith}
use Rattle.plan.proofs.Laws.Tables.{count_few}
use Rattle.why_text.proofs.Laws.Text.{few, x_small, all-put}
use Rattle.why_text.proofs.write_chain.Goals as goal

pub raised-xs-requires : goal.raised-xs-requires
raised-xs-requires c = (count_few c.args.t c.requires.0.fit, omega arith, c.requires.0.near)

pub offset_bounds-t-last : goal.offset_bounds-t-last
offset_bounds-t-last c = omega (arith, (few c.args.t _ _ _ _ _ _ c.requires.0).each c.args.chain.now.count (omega arith))

pub bounds-t-last : goal.bounds-t-last
bounds-t-last c = omega (arith, (few c.args.t _ _ _ _ _ _ c.requires.0).each c.args.chain.now.count (omega arith))

pub put_steps-b-requires : goal.put_steps-b-requires
put_steps-b-requires c = let h = few c.args.t _ _ _ _ _ _ c.requires.0 in (h, omega (arith, c.requires.1, c.put_head-a.ensures.1, h.links))

pub put_end-requires : goal.put_end-requires
put_end-requires c = let h = few c.args.t _ _ _ _ _ _ c.requires.0 in (h, omega (arith, c.requires.1, c.put_head-a.ensures.1, c.put_steps-b.ensures.1, h.links), x_small c.args.t _ _ _ _ _ _ c.requires.0 _ c.raised-xs.ensures _ c.from-wide.ensures)

pub returns : goal.returns
returns c = let h = few c.args.t _ _ _ _ _ _ c.requires.0 in (all-put c.args.t _ _ _ _ _ _ c.requires.0 _ c.raised-xs.ensures _ c.from-wide.ensures c.put_head-a.ensures.0 c.put_steps-b.ensures.0 c.put_end.ensures.0, omega (arith, c.put_head-a.ensures.1, c.put_steps-b.ensures.1, c.put_end.ensures.1, h.links))

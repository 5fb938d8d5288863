use Rattle.looking_columns.proofs.Making.{edging_starts, edging_turns, made_all}
use Rattle.looking_columns.proofs.edges_of.Goals as goal

pub loop-c-init : goal.loop-c-init
loop-c-init c = edging_starts c.args.t c.requires.0 _ _

pub loop-c-preserved : goal.loop-c-preserved
loop-c-preserved c = edging_turns c.args.t c.requires.0 _ _ c.loop-c.invariant c.loop-c-test.true c.from.ensures c.from-in-loop-c.ensures

pub returns : goal.returns
returns c = let h = c.loop-c.invariant in (made_all _ h.rights h.high c.loop-c-test.false, made_all _ h.bases h.high c.loop-c-test.false)

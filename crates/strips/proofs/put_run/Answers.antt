use Rattle.strips.proofs.Laws.Puts.{run_in_one, run_in_more}
use Rattle.strips.proofs.put_run.Goals as goal

pub returns-then-a-b : goal.returns-then-a-b
returns-then-a-b c = run_in_one _ _ _ _ _ _ _ c.if-a-b.true c.place.ensures.0 c.place-then-a-b.ensures.0 c.part_mask.ensures c.or_at.ensures

pub returns : goal.returns
returns c =
    run_in_more _ _ _ _ _ _ _ _ _ _ c.if-a-b.false c.requires c.place-2.ensures.0 c.place-3.ensures.0
    c.tail_mask.ensures c.head_mask.ensures c.or_at-2.ensures c.fill.ensures c.or_at-3.ensures

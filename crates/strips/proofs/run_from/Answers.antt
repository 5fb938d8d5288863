use Rattle.strips.proofs.Laws.Puts.{run_not, run_cut, run_comes}
use Rattle.strips.proofs.run_from.Goals as goal

pub returns-then-b-first : goal.returns-then-b-first
returns-then-b-first c = run_not _ _ _ _ c.if-b-first.true

pub returns-then-a-first : goal.returns-then-a-first
returns-then-a-first c = run_cut _ _ _ c.if-a-first.true c.if-b-first.false c.put_run.ensures

pub returns : goal.returns
returns c = run_comes _ _ _ c.if-a-first.false c.if-b-first.false c.put_run-2.ensures

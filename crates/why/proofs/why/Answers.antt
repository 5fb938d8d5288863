use Rattle.why.proofs.Laws.Shows.{shows_refused, is-asked, is-explained, is-shown}
use Rattle.why.proofs.why.Goals as goal

pub returns-in_err-measures : goal.returns-in_err-measures
returns-in_err-measures c = shows_refused _ _ _ _ _ _ _ c.in_err-measures.ensures c.from_residual.ensures.1

pub explain-requires : goal.explain-requires
explain-requires c = is-asked c.args.t _ c.in_ok-measures.ensures

pub unwrap-chain-requires : goal.unwrap-chain-requires
unwrap-chain-requires c = is-explained c.args.t _ c.in_ok-measures.ensures _ c.explain.ensures

pub returns : goal.returns
returns c = is-shown c.args.t _ c.in_ok-measures.ensures _ c.explain.ensures c.unwrap-chain.ensures

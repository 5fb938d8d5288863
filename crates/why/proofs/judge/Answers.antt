use Rattle.why.proofs.Laws.Judges.{kept-asked, kept_judged, broken_judged, refused_judged}
use Rattle.why.proofs.judge.Goals as goal

pub returns-in_err-verdict : goal.returns-in_err-verdict
returns-in_err-verdict c = refused_judged _ _ _ _ c.in_err-verdict.ensures c.from_residual.ensures.1

pub explain-chain-requires : goal.explain-chain-requires
explain-chain-requires c = kept-asked c.args.t _ _ c.in_ok-verdict.ensures c.in-Kept.is

pub returns-in-Kept : goal.returns-in-Kept
returns-in-Kept c = kept_judged c.args.t _ _ c.in_ok-verdict.ensures c.in-Kept.is _ c.explain-chain.ensures

pub returns-in-Broken : goal.returns-in-Broken
returns-in-Broken c = broken_judged c.args.t _ _ c.in_ok-verdict.ensures c.in-Broken.is

use native.Mathlib.Omega.{arith}
use Rattle.plan.proofs.Laws.Answered.{passes}
use Rattle.mending.proofs.Laws.Code.{refused_short, refused_early, long_enough}
use Rattle.mending.proofs.Laws.Mended.{formed_on}
use Rattle.mending.proofs.mend.Goals as goal

pub returns-in_err-asked : goal.returns-in_err-asked
returns-in_err-asked c = refused_short _ _ _ _ _ (c.in_err-asked.ensures.numbered (omega arith)) c.from_residual.ensures.1

pub returns-in_err-formed_refusal : goal.returns-in_err-formed_refusal
returns-in_err-formed_refusal c =
    let a = c.args in
    let l = long_enough a.file.now a.out.now a.lines.now _ (c.in_ok-asked.ensures.numbered (omega arith)) in
    refused_early _ _ _ l.0 l.1 _ _ c.in_err-formed_refusal.ensures c.from_residual-in_err-formed_refusal.ensures.1

pub mend_file-requires : goal.mend_file-requires
mend_file-requires c =
    let a = c.args in
    let l = long_enough a.file.now a.out.now a.lines.now _ (c.in_ok-asked.ensures.numbered (omega arith)) in
    (formed_on a.file.now (passes _ _ c.in_ok-formed_refusal.ensures), l.0, l.1)

pub returns : goal.returns
returns c = c.mend_file.ensures

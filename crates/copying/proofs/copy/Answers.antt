use native.Mathlib.Omega.{arith}
use Rattle.copying.proofs.Laws.Written.{copy-refused, copy_ready, copy_written}
use Rattle.copying.proofs.copy.Goals as goal

pub returns-in_err-copy_refusal : goal.returns-in_err-copy_refusal
returns-in_err-copy_refusal c = copy-refused _ _ _ _ _ _ c.in_err-copy_refusal.ensures c.from_residual.ensures.1

pub write-requires : goal.write-requires
write-requires c =
    let a = c.args in
    let r = copy_ready a.t.now a.letters.now a.allowance a.out.now _ c.in_ok-copy_refusal.ensures in
    (r.0, omega (arith, r.1), r.2)

pub returns : goal.returns
returns c = copy_written _ _ _ _ _ c.in_ok-copy_refusal.ensures _ _ c.write.ensures

use lib.Dec.{eqb}
use mathlib.Core.Path.{sym, ap}
use native.Mathlib.Omega.{arith}
use Prim.Native.Nat.{◌+◌, ℕ}
use Rattle.plan.specs.Columns.{table_of}
use Rattle.plan.proofs.Laws.Tables.{length-is}
use Rattle.finishing_step.proofs.Laws.Stepping.{step-over, step_tampered, step-done}
use Rattle.finishing_step.proofs.advance.Goals as goal

pub count_of-k-requires : goal.count_of-k-requires
count_of-k-requires c = omega (arith, c.requires.0.scratch)

pub returns-then-n-k : goal.returns-then-n-k
returns-then-n-k c =
    step-over (table_of c.args.t.now) c.requires.0.fit c.args.allowance c.args.scratch.now c.args.marks.now c.args.positions.now _ c.count_of-k.ensures (omega (arith, c.if-n-k.true, length-is c.args.t.now))

pub take-requires : goal.take-requires
take-requires c = (c.requires.0, omega (arith, c.if-n-k.false))

pub returns-in-Err : goal.returns-in-Err
returns-in-Err c =
    step_tampered (table_of c.args.t.now) c.requires.0.fit c.args.allowance c.args.scratch.now c.args.marks.now c.args.positions.now _ c.count_of-k.ensures (omega (arith, c.if-n-k.false, length-is c.args.t.now)) _ c.in-Err.is c.take.ensures

pub overflow_cast-k : goal.overflow_cast-k
overflow_cast-k c =
    omega (arith, c.if-n-k.false, c.requires.0.fit.not_too_many, length-is c.args.t.now)

pub returns-in-Ok : goal.returns-in-Ok
returns-in-Ok c =
    step-done (table_of c.args.t.now) c.requires.0.fit c.args.allowance c.args.scratch.now c.args.marks.now c.args.positions.now _ c.count_of-k.ensures (omega (arith, c.if-n-k.false, length-is c.args.t.now)) _ c.in-Ok.is c.take.ensures _ (ap (λ (n : ℕ). eqb (c.count_of-k.result + 1) n) (sym (length-is c.args.t.now))) _ _ _ c.conclude.ensures c.put_count.ensures

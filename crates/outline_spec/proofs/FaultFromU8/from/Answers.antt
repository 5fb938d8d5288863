use mathlib.Core.Path.{refl, sym}
use native.Mathlib.Omega.{arith}
use Rattle.outline_spec.specs.Faults.{fault_of}
use Rattle.outline_spec.proofs.Laws.Faults.{fault_first, fault_last}
use Rattle.outline_spec.proofs.FaultFromU8.from.Goals as goal

pub returns-in-0 : goal.returns-in-0
returns-in-0 c = sym (fault_first _ (omega arith))

pub returns-in-2 : goal.returns-in-2
unfolding fault_of
returns-in-2 c = rw c.in-2.is refl

pub returns-in-3 : goal.returns-in-3
unfolding fault_of
returns-in-3 c = rw c.in-3.is refl

pub returns-in-4 : goal.returns-in-4
unfolding fault_of
returns-in-4 c = rw c.in-4.is refl

pub returns-in-5 : goal.returns-in-5
unfolding fault_of
returns-in-5 c = rw c.in-5.is refl

pub returns-in-6 : goal.returns-in-6
unfolding fault_of
returns-in-6 c = rw c.in-6.is refl

pub returns-in-7 : goal.returns-in-7
unfolding fault_of
returns-in-7 c = rw c.in-7.is refl

pub returns-in-8 : goal.returns-in-8
unfolding fault_of
returns-in-8 c = rw c.in-8.is refl

pub returns-in-9 : goal.returns-in-9
unfolding fault_of
returns-in-9 c = rw c.in-9.is refl

pub returns-in-10 : goal.returns-in-10
unfolding fault_of
returns-in-10 c = rw c.in-10.is refl

pub returns-in_default : goal.returns-in_default
returns-in_default c = sym (fault_last _ (omega arith))

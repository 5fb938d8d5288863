-- Faults and their numbers. Assumes nothing.
use Rattle.std.specs.Prelude.{◌≡◌, refl, ℕ, zero, suc, ◌-◌, ◌≤◌, ◌<◌}
use Rattle.std.proofs.Common.{arith}
use Rattle.outline_spec.specs.declared.Fault.{Fault}
use Rattle.outline_spec.specs.declared.Fault.TheVariants.{EmptyText, StrangeByte, LongLine, ManyCells, NoAllowance, OddBlanks, UnknownWord, UnknownField, LargeNumber, OpenLabel, Misplaced}
use Rattle.outline_spec.specs.Faults.{fault_number, most_fault, fault_of}

pub fault-back : (f : Fault) → fault_of (fault_number f) ≡ f
unfolding fault_number fault_of
fault-back EmptyText = refl
fault-back StrangeByte = refl
fault-back LongLine = refl
fault-back ManyCells = refl
fault-back NoAllowance = refl
fault-back OddBlanks = refl
fault-back UnknownWord = refl
fault-back UnknownField = refl
fault-back LargeNumber = refl
fault-back OpenLabel = refl
fault-back Misplaced = refl

pub number-back : (k : ℕ) → ¬ (k ≡ 0) → k ≤ most_fault → fault_number (fault_of k) ≡ k
unfolding fault_number fault_of
number-back zero n h = absurd (n refl)
number-back (suc zero) n h = refl
number-back (suc (suc zero)) n h = refl
number-back (suc (suc (suc zero))) n h = refl
number-back (suc (suc (suc (suc zero)))) n h = refl
number-back (suc (suc (suc (suc (suc zero))))) n h = refl
number-back (suc (suc (suc (suc (suc (suc zero)))))) n h = refl
number-back (suc (suc (suc (suc (suc (suc (suc zero))))))) n h = refl
number-back (suc (suc (suc (suc (suc (suc (suc (suc zero)))))))) n h = refl
number-back (suc (suc (suc (suc (suc (suc (suc (suc (suc zero))))))))) n h = refl
number-back (suc (suc (suc (suc (suc (suc (suc (suc (suc (suc zero)))))))))) n h = refl
number-back (suc (suc (suc (suc (suc (suc (suc (suc (suc (suc (suc zero))))))))))) n h = refl
number-back (suc (suc (suc (suc (suc (suc (suc (suc (suc (suc (suc (suc k)))))))))))) n h = absurd (omega arith)

-- the first and the last of the numbers
pub fault_first : (k : ℕ) → k < 2 → fault_of k ≡ EmptyText
unfolding fault_of
fault_first zero h = refl
fault_first (suc zero) h = refl
fault_first (suc (suc k)) h = absurd (omega arith)

pub fault_last : (k : ℕ) → 10 < k → fault_of k ≡ Misplaced
unfolding fault_of
fault_last k h = let e : k ≡ suc (suc (suc (suc (suc (suc (suc (suc (suc (suc (suc (k - 11))))))))))) = omega arith in rw e refl

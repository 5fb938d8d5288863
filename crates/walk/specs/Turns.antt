-- The chain of open cells as the code has it. Assumes nothing.
use Rattle.std.specs.Prelude.{List, [], ◌∷◌, ℕ, zero, suc, get_or}
use Rattle.joining.specs.Joining.{memory_of}
use Rattle.walk.specs.Machine.{State}

-- ---- the chain: an array of 32 cells and a count. The stack has its last cell on top
unfoldable pub stack_of : List ℕ → ℕ → List ℕ
stack_of cs zero = []
stack_of cs (suc k) = get_or cs k 0 ∷ stack_of cs k

abbrev pub state_of : List ℕ → ℕ → ℕ → List ℕ → List ℕ → State
state_of cs k next xs ms = record { stack = stack_of cs k; next = next; memory = memory_of xs ms }

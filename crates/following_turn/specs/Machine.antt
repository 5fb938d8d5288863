-- The drill as a machine: a stack of open cells, each with what is still to do of it. What the code's functions are proved equal to; nothing that a reader must believe stands here. Assumes nothing.
use Rattle.std.specs.Prelude.{◌≡◌, Bool, List, [], ◌∷◌, true, false, ℕ, zero, suc, ◌-◌, ◌≤◌, get_or, take, eqb}
use Rattle.following_cell.specs.declared.Opened.{Opened}
use Rattle.following_cell.specs.declared.Halt.{Halt}
use Rattle.following_cell.specs.declared.Halt.TheVariants.{Going, Spent, Wrong, Full}
use Rattle.following_turn.specs.declared.Open.{Open}
use Rattle.moves.specs.Drill.{Outcome, finished, spent, wrong, full, Drill, recorded}
use Rattle.following_cell.specs.Opening.{after, opened}

-- ---- the chain: arrays of 32 and a count. The stack has its last cell on top
pub record Frame : Type 0 where
  pub cell : ℕ
  pub next : ℕ
  pub times : ℕ

abbrev pub frame : (cell next times : ℕ) → Frame
frame c n k = record { cell = c; next = n; times = k }

unfoldable pub frames_of : (cells nexts times : List ℕ) → ℕ → List Frame
frames_of cs ns ks zero = []
frames_of cs ns ks (suc k) = frame (get_or cs k 0) (get_or ns k 0) (get_or ks k 0) ∷ frames_of cs ns ks k

-- the three arrays and the count
pub record Chain : Type 0 where
  pub cells : List ℕ
  pub nexts : List ℕ
  pub times : List ℕ
  pub count : ℕ

abbrev pub chain : Open → ℕ → Chain
chain o n = record { cells = o.cells; nexts = o.nexts; times = o.times; count = n }

abbrev pub frames : Chain → List Frame
frames c = frames_of c.cells c.nexts c.times c.count

-- the latest open cell, and those above it
abbrev pub top : Chain → Frame
top c = frame (get_or c.cells (c.count - 1) 0) (get_or c.nexts (c.count - 1) 0) (get_or c.times (c.count - 1) 0)

abbrev pub below : Chain → List Frame
below c = frames_of c.cells c.nexts c.times (c.count - 1)

-- ---- the machine
pub record State : Type 0 where
  pub stack : List Frame
  pub drill : Drill

-- how it ended; it is finished if nothing is left to do
unfoldable pub outcome_of : Halt → Outcome
outcome_of Going = finished
outcome_of Spent = spent
outcome_of Wrong = wrong
outcome_of Full = full

abbrev pub goes : Halt → Bool
goes Going = true
goes Spent = false
goes Wrong = false
goes Full = false

abbrev pub so_far : Halt → (used records : ℕ) → List ℕ → Drill
so_far halt used records list = record { outcome = outcome_of halt; used = used; steps = take records list }

abbrev pub state_of : Chain → Halt → (used records : ℕ) → List ℕ → State
state_of c halt used records list = record { stack = frames c; drill = so_far halt used records list }

-- what is beyond stays
abbrev pub Beyond : ℕ → List ℕ → List ℕ → Type 0
Beyond k xs ys = (i : ℕ) → k ≤ i → get_or ys i 0 ≡ get_or xs i 0

-- the child of the open cell f is begun: what is to do after it
unfoldable pub passed : (ls ks : List ℕ) → Frame → Frame
passed ls ks f = frame f.cell (after ls (get_or ks f.cell 0) f.next f.times).next (after ls (get_or ks f.cell 0) f.next f.times).times

module _ (ls ks bs : List ℕ) where
  -- the cell s, that is no step, is opened
  abbrev pub open_with : (s : ℕ) → Opened → List Frame → Drill → State
  open_with s o fs d = record { stack = frame s o.next o.times ∷ fs; drill = record { outcome = outcome_of o.halt; used = o.used; steps = d.steps } }

  -- the cell s is opened
  unfoldable pub enter : ℕ → List Frame → Drill → State
  enter s fs d = elim (eqb (get_or ks s 0) 1) [
    | true ↦ record { stack = frame s 0 0 ∷ fs; drill = recorded s d }
    | false ↦ open_with s (opened ls bs s (get_or ks s 0) d.used) fs d
  ]

  -- one turn: the next child of the latest open cell is opened; or, where it has none, that cell is closed
  unfoldable pub step_at : ℕ → Frame → List Frame → Drill → State
  step_at zero f fs d = record { stack = fs; drill = d }
  step_at (suc n) f fs d = enter (suc n) (passed ls ks f ∷ fs) d

  unfoldable pub step_on : List Frame → Drill → State
  step_on [] d = record { stack = []; drill = d }
  step_on (f ∷ fs) d = step_at f.next f fs d

  abbrev pub step : State → State
  step st = step_on st.stack st.drill

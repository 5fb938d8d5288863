-- THE DRILL (document 02, E12): what a plan does with a list of answers, cell by cell. Every definition computes. Assumes nothing.
use Rattle.std.specs.Prelude.{List, [], ◌∷◌, ◌++◌, true, false, ℕ, zero, suc, length, get_or, ltb}
use Rattle.plan.specs.Limits.{most_level, most_steps}
use Rattle.plan.specs.Plan.{Table, kind, children}

-- how a drill ends
pub data Outcome : Type 0 where
  finished spent wrong full : Outcome

-- a drill so far: how it would end if nothing more were to be done, the answer bytes used, and the steps recorded, in order
pub record Drill : Type 0 where
  pub outcome : Outcome
  pub used : ℕ
  pub steps : List ℕ

-- so many bytes used, these steps recorded, and no end yet
abbrev pub going : (used : ℕ) → (steps : List ℕ) → Drill
going u ss = record { outcome = finished; used = u; steps = ss }

abbrev pub ended : Outcome → Drill → Drill
ended o d = record { outcome = o; used = d.used; steps = d.steps }

-- the drill has ended
abbrev pub HasEnded : Outcome → Type 0
HasEnded finished = ⊥
HasEnded spent = Unit {0}
HasEnded wrong = Unit {0}
HasEnded full = Unit {0}

-- nothing is done any more once the drill has ended
abbrev pub unless_ended : Outcome → (Drill → Drill) → Drill → Drill
unless_ended finished f d = f d
unless_ended spent f d = d
unless_ended wrong f d = d
unless_ended full f d = d

-- "A step records its own number"; "full" exactly when a step comes after 4,096 records
unfoldable pub recorded : ℕ → Drill → Drill
recorded c d = elim (ltb (length d.steps) most_steps) [ true ↦ going d.used (d.steps ++ c ∷ []) | false ↦ ended full d ]

-- the next answer byte is taken, and f goes on with it; "spent" exactly when a byte is needed and none is left
unfoldable pub taken : List ℕ → (ℕ → Drill → Drill) → Drill → Drill
taken answers f d = elim (ltb d.used (length answers)) [ true ↦ f (get_or answers d.used 0) (going (suc d.used) d.steps) | false ↦ ended spent d ]

-- "A run does its sons in order": f does one cell after another
unfoldable pub in_order : (ℕ → Drill → Drill) → List ℕ → Drill → Drill
in_order f [] d = d
in_order f (c ∷ cs) d = in_order f cs (f c d)

-- "so many times"
unfoldable pub times : ℕ → (Drill → Drill) → Drill → Drill
times zero f d = d
times (suc n) f d = times n f (f d)

-- "the son with that place, counted from 0"; "wrong" exactly when a choice's byte has no son ..
unfoldable pub chosen : (ℕ → Drill → Drill) → List ℕ → ℕ → Drill → Drill
chosen f cs a d = elim (ltb a (length cs)) [ true ↦ f (get_or cs a 0) d | false ↦ ended wrong d ]

-- .. or a wait's is above 1: "0 goes on, 1 does its son, if it has one"
unfoldable pub waited : (ℕ → Drill → Drill) → List ℕ → ℕ → Drill → Drill
waited f cs zero d = d
waited f cs (suc zero) d = in_order f cs d
waited f cs (suc (suc a)) d = ended wrong d

-- what a cell c of a kind (1 step, 2 run, 3 repeat, 4 choice, 5 wait) does with its children cs, where f does a child
unfoldable pub by_kind : List ℕ → (ℕ → Drill → Drill) → (kind c : ℕ) → List ℕ → Drill → Drill
by_kind answers f zero c cs d = d
by_kind answers f (suc zero) c cs d = recorded c d
by_kind answers f (suc (suc zero)) c cs d = in_order f cs d
by_kind answers f (suc (suc (suc zero))) c cs d = taken answers (λ a. times a (in_order f cs)) d
by_kind answers f (suc (suc (suc (suc zero)))) c cs d = taken answers (chosen f cs) d
by_kind answers f (suc (suc (suc (suc (suc zero))))) c cs d = taken answers (waited f cs) d
by_kind answers f (suc (suc (suc (suc (suc (suc k)))))) c cs d = d

-- the cell c is done, with so many levels of cells from it downwards
unfoldable pub does : Table → List ℕ → ℕ → ℕ → Drill → Drill
does t answers zero c d = d
does t answers (suc n) c d = unless_ended d.outcome (by_kind answers (does t answers n) (kind t c) c (children t c)) d

-- question 12: at most 31 edges to the root, so at most 32 levels of cells (`levels_enough` in Theorems: more change nothing)
abbrev pub doing : Table → List ℕ → ℕ → Drill → Drill
doing t answers c d = does t answers (suc most_level) c d

-- THE drill of a table and an answer list: cell 0 is done
unfoldable pub drill_of : Table → List ℕ → Drill
drill_of t answers = doing t answers 0 (going 0 [])

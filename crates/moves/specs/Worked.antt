-- Worked drills: a plan with every kind, one with ranks against the file, and answer lists with every outcome but full (which 4,096 records are too many to work out: `last_record`, `one-too-many`). Assumes nothing.
use Rattle.std.specs.Prelude.{◌≡◌, refl, List, [], ◌∷◌, ◌++◌, ℕ, length}
use Rattle.std.proofs.Common.{arith, lt-ltb, le-ltb}
use Rattle.plan.specs.Limits.{most_steps}
use Rattle.plan.specs.Lists.{from, keep, insert, sort}
use Rattle.plan.specs.Plan.{Cell, Table, blank, parent, kind, rank, filed, children}
use Rattle.moves.specs.Drill.{Outcome, finished, spent, wrong, full, Drill, going, ended, recorded, taken, in_order, times, chosen, waited, by_kind, does, drill_of}

abbrev cell : (parent kind rank : ℕ) → Cell
cell p k q = record { parent = p; kind = k; width = 4; depth = 1; rank = q }

-- a run of: a choice of the steps 2 and 3; a repeat of the step 5; a wait with the step 7; a wait with none
abbrev pub every_kind : Table
every_kind = cell 65535 2 0 ∷ cell 0 4 0 ∷ cell 1 1 0 ∷ cell 1 1 0 ∷ cell 0 3 0 ∷ cell 4 1 0 ∷ cell 0 5 0 ∷ cell 6 1 0 ∷ cell 0 5 0 ∷ []

-- a run of the steps 1 and 2 and a choice of the steps 4 and 5: by rank the choice goes first, then 2, then 1; and 5 before 4
abbrev pub by_rank : Table
by_rank = cell 65535 2 0 ∷ cell 0 1 9 ∷ cell 0 1 7 ∷ cell 0 4 1 ∷ cell 3 1 3 ∷ cell 3 1 2 ∷ []

-- the drill, worked out
pub run : Table → List ℕ → Drill
unfolding drill_of does by_kind waited chosen times in_order taken recorded children filed sort insert rank keep from kind parent blank
run t answers = drill_of t answers

abbrev pub ends : Outcome → ℕ → List ℕ → Drill
ends o used steps = record { outcome = o; used = used; steps = steps }

-- second branch; twice; the wait's step; on
pub all : run every_kind (1 ∷ 2 ∷ 1 ∷ 0 ∷ []) ≡ ends finished 4 (3 ∷ 5 ∷ 5 ∷ 7 ∷ [])
unfolding run
all = refl

-- a byte more is not used
pub more : run every_kind (1 ∷ 2 ∷ 1 ∷ 0 ∷ 9 ∷ []) ≡ ends finished 4 (3 ∷ 5 ∷ 5 ∷ 7 ∷ [])
unfolding run
more = refl

-- a wait's 1 without a child goes on; a repeat of 0 does nothing
pub none : run every_kind (0 ∷ 0 ∷ 0 ∷ 1 ∷ []) ≡ ends finished 4 (2 ∷ [])
unfolding run
none = refl

-- the last wait needs a byte
pub out : run every_kind (1 ∷ 2 ∷ 1 ∷ []) ≡ ends spent 3 (3 ∷ 5 ∷ 5 ∷ 7 ∷ [])
unfolding run
out = refl

pub at_once : run every_kind [] ≡ ends spent 0 []
unfolding run
at_once = refl

-- a choice of two has no child with place 2; the wrong byte is used
pub no_branch : run every_kind (2 ∷ 1 ∷ []) ≡ ends wrong 1 []
unfolding run
no_branch = refl

-- a wait's byte above 1
pub above_one : run every_kind (0 ∷ 1 ∷ 2 ∷ []) ≡ ends wrong 3 (2 ∷ 5 ∷ [])
unfolding run
above_one = refl

-- children go by rank, and a choice counts them so
pub ranked : run by_rank (0 ∷ []) ≡ ends finished 1 (5 ∷ 2 ∷ 1 ∷ [])
unfolding run
ranked = refl

-- the 4,096th record is made, and a step that comes after it makes the drill full
pub last_record : (c u : ℕ) (ss : List ℕ) → length ss ≡ 4095 → recorded c (going u ss) ≡ going u (ss ++ c ∷ [])
unfolding recorded
last_record c u ss e = rw (lt-ltb (length ss) most_steps (omega arith), recorded)

pub one_too_many : (c u : ℕ) (ss : List ℕ) → length ss ≡ 4096 → recorded c (going u ss) ≡ ended full (going u ss)
unfolding recorded
one_too_many c u ss e = rw (le-ltb (length ss) most_steps (omega arith), recorded)

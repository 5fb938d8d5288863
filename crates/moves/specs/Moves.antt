-- THE MOVES OF A DRILL, each the one that the description dictates (document 02, E12), a clause for each sentence; and where a drill stops. Assumes nothing.
use Rattle.std.specs.Prelude.{◌≡◌, ◌⊎◌, List, [], ◌∷◌, ◌++◌, ℕ, zero, suc, ◌+◌, ◌≤◌, ◌<◌, length, get_or}
use Rattle.plan.specs.Limits.{most_steps}
use Rattle.plan.specs.Lists.{At}
use Rattle.plan.specs.Plan.{Table, Is, kind, children}
use Rattle.moves.specs.Drill.{Outcome, finished, spent, wrong, full, Drill, HasEnded}

-- where a drill stands: the cells still to do, in order; the answer bytes used; the steps recorded
pub record Stand : Type 0 where
  pub todo : List ℕ
  pub used : ℕ
  pub steps : List ℕ

abbrev pub at : (todo : List ℕ) → (used : ℕ) → (steps : List ℕ) → Stand
at cs u ss = record { todo = cs; used = u; steps = ss }

-- the cells cs, so many times over
unfoldable pub over : ℕ → List ℕ → List ℕ
over zero cs = []
over (suc n) cs = cs ++ over n cs

-- the kinds that take a byte: repeat, choice, wait
abbrev pub Takes : (kind : ℕ) → Type 0
Takes k = (3 ≤ k) × (k ≤ 5)

module _ (t : Table) (answers : List ℕ) where
  -- the next answer byte is a
  pub record Byte (used a : ℕ) : Type 0 where
    pub left : used < length answers
    pub is : get_or answers used 0 ≡ a

  -- one move: the first of the cells still to do, c, is begun
  pub data Move : Stand → Stand → Type 0 where
    -- "A step records its own number."
    records : {c u : ℕ} {cs ss : List ℕ} → kind t c ≡ 1 → length ss < most_steps → Move (at (c ∷ cs) u ss) (at cs u (ss ++ c ∷ []))
    -- "A run does its sons in order."
    runs : {c u : ℕ} {cs ss : List ℕ} → kind t c ≡ 2 → Move (at (c ∷ cs) u ss) (at (children t c ++ cs) u ss)
    -- "A repeat takes a byte and does its son so many times."
    repeats : {c u : ℕ} {cs ss : List ℕ} (a : ℕ) → kind t c ≡ 3 → Byte u a → Move (at (c ∷ cs) u ss) (at (over a (children t c) ++ cs) (suc u) ss)
    -- "A choice takes the next answer byte and does the son with that place, counted from 0."
    chooses : {c u : ℕ} {cs ss : List ℕ} (a s : ℕ) → kind t c ≡ 4 → Byte u a → At (children t c) a s → Move (at (c ∷ cs) u ss) (at (s ∷ cs) (suc u) ss)
    -- "A wait takes a byte: 0 goes on, 1 does its son, if it has one."
    goes_on : {c u : ℕ} {cs ss : List ℕ} → kind t c ≡ 5 → Byte u 0 → Move (at (c ∷ cs) u ss) (at cs (suc u) ss)
    does_it : {c u : ℕ} {cs ss : List ℕ} → kind t c ≡ 5 → Byte u 1 → Move (at (c ∷ cs) u ss) (at (children t c ++ cs) (suc u) ss)

  -- some moves, one after another
  pub data Reach : Stand → Stand → Type 0 where
    stay : {p : Stand} → Reach p p
    then : {p q r : Stand} → Move p q → Reach q r → Reach p r

  -- p is reached by a drill: cell 0 is to do, nothing is used or recorded
  abbrev pub Reached : Stand → Type 0
  Reached p = Reach (at (0 ∷ []) 0 []) p

  -- the drill stops at a stand, with an outcome
  pub data Stops : Outcome → Stand → Type 0 where
    -- nothing is left to do
    all_done : {u : ℕ} {ss : List ℕ} → Stops finished (at [] u ss)
    -- "when a byte is needed and none is left"
    none_left : {c u : ℕ} {cs ss : List ℕ} → Takes (kind t c) → length answers ≤ u → Stops spent (at (c ∷ cs) u ss)
    -- "when a choice's byte has no son or a wait's is above 1"
    no_branch : {c u : ℕ} {cs ss : List ℕ} (a : ℕ) → kind t c ≡ 4 → Byte u a → length (children t c) ≤ a → Stops wrong (at (c ∷ cs) u ss)
    above_one : {c u : ℕ} {cs ss : List ℕ} (a : ℕ) → kind t c ≡ 5 → Byte u a → 1 < a → Stops wrong (at (c ∷ cs) u ss)
    -- "when a step comes after 4,096 records"
    no_room : {c u : ℕ} {cs ss : List ℕ} → kind t c ≡ 1 → most_steps ≤ length ss → Stops full (at (c ∷ cs) u ss)

  -- a drill that stops so is reached
  pub record Ends (o : Outcome) : Type 0 where
    pub stand : Stand
    pub reached : Reached stand
    pub stops : Stops o stand

-- the bytes used, "a wrong one included"
unfoldable pub used_at : Outcome → ℕ → ℕ
used_at finished u = u
used_at spent u = u
used_at wrong u = suc u
used_at full u = u

-- the drill that stops at p
abbrev pub stopped : Outcome → Stand → Drill
stopped o p = record { outcome = o; used = used_at o p.used; steps = p.steps }

-- answer bytes used and steps recorded
abbrev pub tally : Drill → ℕ
tally d = d.used + length d.steps

-- the drill has ended, or something is spent
abbrev pub Spends : Drill → Drill → Type 0
Spends d e = HasEnded e.outcome ⊎ (tally d < tally e)

-- steps of the table
abbrev pub StepsOf : Table → List ℕ → Type 0
StepsOf t ss = (i s : ℕ) → At ss i s → Is t s × (kind t s ≡ 1)

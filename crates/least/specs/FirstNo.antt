-- DEMAND 1: THE FIRST "NO" OF THE SEQUENCE (document 01: "The first "no" in this sequence gives the number", "the lowest cell at fault"). That a call's refusal is this one is stated in crate demands (Calls: `first_no`, `no-no`). Assumes nothing.
use Rattle.std.specs.Prelude.{◌≡◌, List, [], ◌∷◌, ◌++◌, ℕ, ◌<◌, T}
use Rattle.plan.specs.Plan.{Is}
use Rattle.plan.specs.Questions.{Call, Given, Question, Step, once, each, number, sequence, kept, holds}
use Rattle.least.specs.Refusals.{Yes, YesSteps}

-- the questions of a step, in turn
abbrev pub questions : Step → List Question
questions (once q) = q ∷ []
questions (each qs) = qs

module _ (g : Given) where
  -- the cells that a step is put to: 0, where no cell is concerned; or each of the table
  abbrev pub PutTo : Step → ℕ → Type 0
  PutTo (once q) c = c ≡ 0
  PutTo (each qs) c = Is g.table c

  -- of these steps, a question of number k at cell c is the first that is answered no
  pub record FirstNoOf (steps : List Step) (k c : ℕ) : Type 0 where
    -- the step in which it stands, and its place in it
    pub earlier : List Step
    pub step : Step
    pub later : List Step
    pub order : steps ≡ earlier ++ (step ∷ later)
    pub before : List Question
    pub question : Question
    pub after : List Question
    pub place : questions step ≡ before ++ (question ∷ after)
    -- it has this number, it is put to this cell, and the answer is no
    pub numbered : number question ≡ k
    pub put_to : PutTo step c
    pub no : ¬ T (holds g question c)
    -- every question before it is answered yes: of the earlier steps, at every cell; of this step, at every lower cell; and
    -- at this cell, those before it
    pub earlier_yes : YesSteps g earlier
    pub lower_yes : (c' : ℕ) → c' < c → Yes g (questions step) c'
    pub before_yes : Yes g before c

-- of the questions that a call puts, in the sequence's order
abbrev pub FirstNo : Call → Given → ℕ → ℕ → Type 0
FirstNo call g = FirstNoOf g (kept call sequence)

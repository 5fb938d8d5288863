-- Questions that are answered yes. Assumes nothing.
use Rattle.std.specs.Prelude.{List, [], ◌∷◌, ℕ, T}
use Rattle.plan.specs.Plan.{Is}
use Rattle.plan.specs.Questions.{Given, Question, Step, once, each, holds}

module _ (g : Given) where
  -- each of these at cell c
  abbrev pub Yes : List Question → ℕ → Type 0
  Yes [] c = Unit {0}
  Yes (q ∷ qs) c = T (holds g q c) × Yes qs c

  abbrev pub YesStep : Step → Type 0
  YesStep (once q) = T (holds g q 0)
  YesStep (each qs) = (c : ℕ) → Is g.table c → Yes qs c

  abbrev pub YesSteps : List Step → Type 0
  YesSteps [] = Unit {0}
  YesSteps (s ∷ ss) = YesStep s × YesSteps ss

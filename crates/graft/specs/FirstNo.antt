-- DEMAND 1 OF A JOIN: THE FIRST "NO" OF ITS SEQUENCE, by the same words as for the other calls (crate least, FirstNo). Assumes nothing.
use Rattle.std.specs.Prelude.{◌≡◌, List, [], ◌∷◌, ◌++◌, ℕ}
use Rattle.plan.specs.Plan.{Table}
use Rattle.plan.specs.Questions.{Step}
use Rattle.least.specs.Refusals.{YesStep}
use Rattle.least.specs.FirstNo.{FirstNoOf}
use Rattle.graft.specs.Sequence.{Whose, Asks, of, join_sequence, join_given}

module _ (room : ℕ) (t u : Table) (c : ℕ) where
  -- each of these is answered yes, at every cell that it is put to
  abbrev pub YesAll : List Asks → Type 0
  YesAll [] = Unit {0}
  YesAll (of w s ∷ rest) = YesStep (join_given room t u c w) s × YesAll rest

  -- of these, a question of number k at cell a, by the numbers of the table that it is put to, is the first that is answered no
  pub record JoinFirstNoOf (asks : List Asks) (k a : ℕ) : Type 0 where
    pub earlier : List Asks
    pub whose : Whose
    pub step : Step
    pub later : List Asks
    pub order : asks ≡ earlier ++ (of whose step ∷ later)
    pub earlier_yes : YesAll earlier
    pub no : FirstNoOf (join_given room t u c whose) (step ∷ []) k a

  -- in the sequence
  abbrev pub JoinFirstNo : ℕ → ℕ → Type 0
  JoinFirstNo = JoinFirstNoOf join_sequence

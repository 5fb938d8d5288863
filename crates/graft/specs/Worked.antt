-- Worked joins: a rinse (a run W 2 over a step W 6) hung into document 01's ◆B (a run W 4 over steps W 3 and 5), the questions included. Each row computes.
-- Assumes nothing.
use Rattle.std.specs.Prelude.{◌≡◌, [], ◌∷◌, ℕ}
use Rattle.plan.specs.Plan.{Cell, Table, children}
use Rattle.plan.specs.Questions.{none}
use Rattle.plan.specs.declared.Refusal.{Refusal}
use Rattle.graft.specs.Joined.{joined}
use Rattle.graft.specs.Sequence.{join_refusal}

-- D = 1
unfoldable pub cell : (parent kind width rank : ℕ) → Cell
cell p k w q = record { parent = p; kind = k; width = w; depth = 1; rank = q }

-- ◆B, its steps with these ranks; the rinse, its root with this rank and its step with this width
unfoldable pub pond : ℕ → ℕ → Table
pond q r = cell 65535 2 4 0 ∷ cell 0 1 3 q ∷ cell 0 1 5 r ∷ []

unfoldable pub rinse : (rank width : ℕ) → Table
rinse q w = cell 65535 2 2 q ∷ cell 0 1 w 0 ∷ []

-- a run without a child
unfoldable pub bare_run : Table
bare_run = cell 65535 2 2 0 ∷ []

unfoldable pub no : ℕ → ℕ → Refusal
no k a = record { number = k; cell = a }

pub record Rows : Type 0 where
  -- accepted, and the table
  pub fine : join_refusal 256 (pond 0 0) (rinse 0 6) 0 ≡ none
  pub table : joined (pond 0 0) (rinse 0 6) 0 ≡ cell 65535 2 4 0 ∷ cell 0 1 3 0 ∷ cell 0 1 5 0 ∷ cell 0 2 2 0 ∷ cell 3 1 6 0 ∷ []
  -- the root last, in the middle, first, as its rank says
  pub last : children (joined (pond 0 2) (rinse 2 6) 0) 0 ≡ 1 ∷ 2 ∷ 3 ∷ []
  pub middle : children (joined (pond 0 2) (rinse 1 6) 0) 0 ≡ 1 ∷ 3 ∷ 2 ∷ []
  pub front : children (joined (pond 1 2) (rinse 0 6) 0) 0 ≡ 3 ∷ 1 ∷ 2 ∷ []
  -- refusals: a table of 255 records; a step is named; no such cell; one of the second by its own number; one of the joined by the joined number; no second
  pub short : join_refusal 255 (pond 0 0) (rinse 0 6) 0 ≡ no 1 0
  pub step : join_refusal 256 (pond 0 0) (rinse 0 6) 1 ≡ no 11 1
  pub nowhere : join_refusal 256 (pond 0 0) (rinse 0 6) 3 ≡ no 16 0
  pub second : join_refusal 256 (pond 0 0) (rinse 0 0) 3 ≡ no 8 1
  pub joint : join_refusal 256 (pond 0 0) bare_run 0 ≡ no 11 3
  pub empty : join_refusal 256 (pond 0 0) [] 0 ≡ no 4 0

-- A WORKED PAIR: two subtrees that are alike, though their ranks and their places in the file differ (document 01, Bd5; document 02, E6 and E13: shape, by the order of siblings,
-- kinds, widths and depths count, and nothing else). Each row computes. Assumes nothing.
use Rattle.std.specs.Prelude.{◌≡◌, [], ◌∷◌, map}
use Rattle.plan.specs.Plan.{Table, rank}
use Rattle.least.specs.Alike.{Alike, Twins}
use Rattle.least.specs.Worked.{ranked}

-- a choice W 4 over a run W 2, which has a step W 3, and a step W 5: the whole plan, without ranks; and below a run W 6, the step W 5 first in the file, each with a rank
unfoldable pub plain : Table
plain = ranked (0 ∷ []) (0 ∷ 0 ∷ 1 ∷ []) (4 ∷ 2 ∷ 5 ∷ 3 ∷ []) []

unfoldable pub hung : Table
hung = ranked (1 ∷ []) (0 ∷ 1 ∷ 1 ∷ 3 ∷ []) (6 ∷ 4 ∷ 5 ∷ 2 ∷ 3 ∷ []) (0 ∷ 7 ∷ 200 ∷ 9 ∷ 255 ∷ [])

pub record Rows : Type 0 where
  pub alike : Alike plain hung (0 ∷ []) (1 ∷ [])
  -- the ranks of the cells, and of their twins
  pub ranks : (map (rank plain) (0 ∷ 1 ∷ 3 ∷ 2 ∷ []) ≡ 0 ∷ 0 ∷ 0 ∷ 0 ∷ []) × (map (rank hung) (1 ∷ 3 ∷ 4 ∷ 2 ∷ []) ≡ 7 ∷ 9 ∷ 255 ∷ 200 ∷ [])
  pub run : Twins plain hung (0 ∷ []) (1 ∷ []) 1 3
  pub below_run : Twins plain hung (0 ∷ []) (1 ∷ []) 3 4
  pub step : Twins plain hung (0 ∷ []) (1 ∷ []) 2 2

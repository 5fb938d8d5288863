-- Arguments and what they say, as rows that compute. Assumes nothing.
use Rattle.std.specs.Prelude.{◌≡◌, [], ◌∷◌, Some, None}
use Rattle.plot_arguments.specs.Lengths.{length_of}

pub record Rows : Type 0 where
  -- `4`, `2.5`, `1.25`, `1.125`, `4.`, `.5`, `007`
  pub whole : length_of (52 ∷ []) ≡ Some 4000
  pub one_behind : length_of (50 ∷ 46 ∷ 53 ∷ []) ≡ Some 2500
  pub two_behind : length_of (49 ∷ 46 ∷ 50 ∷ 53 ∷ []) ≡ Some 1250
  pub three_behind : length_of (49 ∷ 46 ∷ 49 ∷ 50 ∷ 53 ∷ []) ≡ Some 1125
  pub point_last : length_of (52 ∷ 46 ∷ []) ≡ Some 4000
  pub point_first : length_of (46 ∷ 53 ∷ []) ≡ Some 500
  pub noughts : length_of (48 ∷ 48 ∷ 55 ∷ []) ≡ Some 7000
  -- `99999999`: far more than question 17 passes, and told as much
  pub large : length_of (57 ∷ 57 ∷ 57 ∷ 57 ∷ 57 ∷ 57 ∷ 57 ∷ 57 ∷ []) ≡ Some 1000000000
  -- nothing, `.`, `1.2.3`, `0.2500`, `-1`, `1e1`
  pub empty : length_of [] ≡ None
  pub lone_point : length_of (46 ∷ []) ≡ None
  pub two_points : length_of (49 ∷ 46 ∷ 50 ∷ 46 ∷ 51 ∷ []) ≡ None
  pub four_behind : length_of (48 ∷ 46 ∷ 50 ∷ 53 ∷ 48 ∷ 48 ∷ []) ≡ None
  pub signed : length_of (45 ∷ 49 ∷ []) ≡ None
  pub lettered : length_of (49 ∷ 101 ∷ 49 ∷ []) ≡ None

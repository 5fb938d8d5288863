-- What the line of a cell asks of its places. Nothing that a reader must believe stands here. Assumes nothing.
use Rattle.std.specs.Prelude.{◌≡◌, List, ℕ, ◌+◌, ◌≤◌}
use Rattle.plan.specs.Limits.{most_label}
use Rattle.outline_spec.specs.Outline.{level_under}

-- what the line of a cell asks
pub record Room (seen : List ℕ) (level parent size out at : ℕ) : Type 0 where
  pub level_is : level ≡ level_under seen parent
  pub low : level ≤ 127
  pub short : size ≤ most_label
  pub room : at + 512 ≤ out

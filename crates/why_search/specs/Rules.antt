-- The rule of each link of a chain, as the code finds it from the cells' numbers. Assumes nothing.
use Rattle.std.specs.Prelude.{List, ℕ, ◌+◌, ◌≤◌, ◌<◌, get_or}
use Rattle.looking_sights.specs.Sights.{Sights}
use Rattle.why_ties.specs.Ties.{rule_of}

-- the rule between cell number j and the next
unfoldable pub rule_between : Sights → ℕ → List ℕ → ℕ → ℕ
rule_between s al cells j = rule_of al (get_or cells j 0) (get_or cells (j + 1) 0) (s (get_or cells j 0)) (s (get_or cells (j + 1) 0))

-- cells 0 to count of the chain are of the table
pub record Inside (cells : List ℕ) (n count : ℕ) : Type 0 where
  pub inside : (j : ℕ) → j ≤ count → get_or cells j 0 < n

-- WHAT IS ANSWERED of a placement: the chain's cells one by one, so that its links are those from cell to cell. Assumes nothing.
use Rattle.std.specs.Prelude.{◌≡◌, Bool, true, false, List, ℕ, ◌+◌, ◌≤◌, ◌<◌, length, get_or, Option, Some, None}
use Rattle.plan.specs.Plan.{Table, Is}
use Rattle.rules.specs.Placement.{Placement}
use Rattle.why_spec.specs.Measures.{across}
use Rattle.why_spec.specs.Links.{Reason}
use Rattle.why_spec.specs.Search.{because, no_reason, link, why}
use Rattle.why_search.specs.Stops.{steps}
use Rattle.why_search.specs.declared.Chain.{Chain}

-- the reason with these cells
abbrev pub told : Table → ℕ → Placement → (count : ℕ) → List ℕ → Reason
told t al p count cells = record { first = get_or cells 0 0; links = steps t al p (λ j. get_or cells j 0) 0 count; last = get_or cells count 0 }

-- a chain of so many links: its cells are the table's, and these are the rules of its links
pub record Chained (t : Table) (al : ℕ) (p : Placement) (count : ℕ) (cells rules : List ℕ) : Type 0 where
  pub short : count < length t
  pub inside : (j : ℕ) → j ≤ count → Is t (get_or cells j 0)
  pub named : (j : ℕ) → j < count → get_or rules j 0 ≡ (link t al p (get_or cells j 0) (get_or cells (j + 1) 0)).rule

-- with a chain: it is what there is to say why the placement is as wide as it is; without: there is no such thing
pub record Explains (t : Table) (al : ℕ) (p : Placement) (found : Bool) (count : ℕ) (cells rules : List ℕ) : Type 0 where
  pub yes : found ≡ true → (why t al (across t) p ≡ because (told t al p count cells)) × Chained t al p count cells rules
  pub no : found ≡ false → why t al (across t) p ≡ no_reason

-- the same of an answer
abbrev pub Explained : Table → ℕ → Placement → Option Chain → Type 0
Explained t al p (Some c) = Explains t al p true c.count c.cells c.rules
Explained t al p None = why t al (across t) p ≡ no_reason

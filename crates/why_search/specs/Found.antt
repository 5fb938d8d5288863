-- WHAT THE SEARCH FINDS, of every table and placement whose numbers it reads (for the contracts of functions inside). Assumes nothing.
use Rattle.std.specs.Prelude.{◌≡◌, ◌⊎◌, List, ℕ, suc, ◌≤◌, ◌<◌, length, get_or, T, eqb, ltb, Option, Some, None}
use Rattle.plan.specs.Lists.{from, some, mem}
use Rattle.plan.specs.Plan.{Table, Is}
use Rattle.rules.specs.Placement.{Placement}
use Rattle.looking_sights.specs.Sights.{Sights}
use Rattle.why_spec.specs.Measures.{across}
use Rattle.why_spec.specs.Layers.{New}
use Rattle.why_spec.specs.Search.{first, tight, tied, leftmost, rightmost, reached, closes, fewest, final}
use Rattle.why_ties.specs.Ties.{rule_of}
use Rattle.why_search.specs.declared.search.Way.{Way}

module _ (t : Table) (al : ℕ) (p : Placement) where
  -- the marks after k turns
  abbrev pub Marks : List ℕ → ℕ → Type 0
  Marks xs k = (c : ℕ) → Is t c → ((get_or xs c 0 ≡ 0) × ¬ T (mem c (reached t al (across t) p k))) ⊎ ((j : ℕ) × (j ≤ k) × (get_or xs c 0 ≡ suc j) × New t al (across t) p j c)

  -- fewer than k links close no chain
  abbrev pub Open : ℕ → Type 0
  Open k = (j : ℕ) → j < k → ¬ T (closes t al (across t) p j)

  -- k links do, the lowest such cell being e
  pub record Closed (k e : ℕ) : Type 0 where
    pub hit : T (some (closes t al (across t) p) (from 0 (length t)))
    pub links : fewest t al (across t) p ≡ k
    pub last : final t al (across t) p ≡ e
    pub new : New t al (across t) p k e

-- s, low and high are the numbers of this table and placement
pub record Stands (t : Table) (al : ℕ) (p : Placement) (s : Sights) (n low high : ℕ) : Type 0 where
  pub size : length t ≡ n
  pub ties : (a b : ℕ) → Is t a → Is t b → ltb 0 (rule_of al a b (s a) (s b)) ≡ tied t al p a b
  pub names : (a b : ℕ) → Is t a → Is t b → rule_of al a b (s a) (s b) ≡ first (tight t al p a b) (from 2 4)
  pub lefts : (c : ℕ) → Is t c → eqb (s c).x low ≡ leftmost (across t) p c
  pub tops : (e : ℕ) → Is t e → eqb (s e).right high ≡ rightmost (across t) p e

-- what the search finds
abbrev pub Told : Table → ℕ → Placement → (n : ℕ) → Option Way → Type 0
Told t al p n (Some w) = Closed t al p w.count w.last × (w.count < n) × (w.last < n) × Marks t al p w.marks w.count
Told t al p n None = Open t al p n

-- what the search has left, where it closed
pub record Begun (t : Table) (al : ℕ) (p : Placement) (s : Sights) (n : ℕ) (marks : List ℕ) (count last : ℕ) : Type 0 where
  pub low : ℕ
  pub high : ℕ
  pub stands : Stands t al p s n low high
  pub new : New t al (across t) p count last
  pub marked : Marks t al p marks count

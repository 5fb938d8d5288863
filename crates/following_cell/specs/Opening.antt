-- A cell of the drill that is opened: what it does and needs, function by function. What the code is proved equal to; nothing that a reader must believe stands here. Assumes nothing.
use Rattle.std.specs.Prelude.{◌≡◌, List, true, false, ℕ, zero, suc, ◌+◌, ◌-◌, length, get_or, eqb, ltb}
use Rattle.links.specs.Links.{link, Links}
use Rattle.following_cell.specs.declared.Todo.{Todo}
use Rattle.following_cell.specs.declared.Opened.{Opened}
use Rattle.following_cell.specs.declared.Halt.{Halt}
use Rattle.following_cell.specs.declared.Halt.TheVariants.{Going, Spent, Wrong}
use Rattle.plan.specs.Plan.{Table, Is, children}
use Rattle.plan.specs.Fit.{Fit}

-- nothing is to do
abbrev pub nothing : (halt : Halt) (used : ℕ) → Opened
nothing halt used = record { next = 0; times = 0; halt = halt; used = used }

abbrev pub once : (n used : ℕ) → Opened
once n used = record { next = n; times = 1; halt = Going; used = used }

unfoldable pub after : List ℕ → (kind n times : ℕ) → Todo
after ls kind n times = elim (ltb 1 times) [
  | true ↦ record { next = n; times = times - 1 }
  | false ↦ elim (eqb kind 2) [ true ↦ record { next = link ls n 1; times = 1 } | false ↦ record { next = 0; times = 0 } ]
]

unfoldable pub later : List ℕ → ℕ → ℕ
later ls n = elim (eqb n 0) [ true ↦ 0 | false ↦ link ls n 1 ]

unfoldable pub hops : List ℕ → ℕ → ℕ → ℕ
hops ls n zero = n
hops ls n (suc a) = hops ls (later ls n) a

unfoldable pub repeated : (first a used : ℕ) → Opened
repeated first a used = elim (eqb a 0) [ true ↦ nothing Going used | false ↦ record { next = first; times = a; halt = Going; used = used } ]

unfoldable pub picked : (n used : ℕ) → Opened
picked n used = elim (eqb n 0) [ true ↦ nothing Wrong used | false ↦ once n used ]

unfoldable pub waiting : (first a used : ℕ) → Opened
waiting first a used = elim (eqb a 0) [ true ↦ nothing Going used | false ↦ elim (eqb a 1) [ true ↦ once first used | false ↦ nothing Wrong used ] ]

unfoldable pub answered : List ℕ → (s kind a used : ℕ) → Opened
answered ls s kind a used = elim (eqb kind 3) [
  | true ↦ repeated (link ls s 0) a used
  | false ↦ elim (eqb kind 4) [ true ↦ picked (hops ls (link ls s 0) a) used | false ↦ waiting (link ls s 0) a used ]
]

unfoldable pub opened : List ℕ → List ℕ → (s kind used : ℕ) → Opened
opened ls bs s kind used = elim (eqb kind 2) [
  | true ↦ once (link ls s 0) used
  | false ↦ elim (ltb used (length bs)) [ true ↦ answered ls s kind (get_or bs used 0) (used + 1) | false ↦ nothing Spent used ]
]

-- the links of a table that keeps the questions; n is 0 or a child
pub record Row (ls : List ℕ) (n : ℕ) : Type 0 where
  pub table : Table
  pub fit : Fit table
  pub links : Links table ls
  pub parent : ℕ
  pub place : ℕ
  pub at : n ≡ get_or (children table parent) place 0

-- s is a cell of it
pub record Cell (ls : List ℕ) (s : ℕ) : Type 0 where
  pub table : Table
  pub fit : Fit table
  pub links : Links table ls
  pub is : Is table s

-- What the columns hold of a table and a placement. Assumes nothing.
use Rattle.std.specs.Prelude.{◌≡◌, List, [], ◌∷◌, ℕ, ◌+◌, ◌*◌, length, get_or, ℤ, pos}
use Rattle.whole.specs.Whole.{plus, minus}
use Rattle.whole.specs.Bias.{bias}
use Rattle.plan.specs.Trees.{Column}
use Rattle.plan.specs.Limits.{farthest}
use Rattle.plan.specs.Plan.{Table, Is, kind, parent, appointed, box_width, box_depth}
use Rattle.rules.specs.Placement.{Placement}
use Rattle.spans.specs.Spans.{at, Counted, Deepest, Spans}
use Rattle.looking_columns.specs.Columns.{Scattered, Due}
use Rattle.looking_sights.specs.Sights.{Sights, Agree}

-- n is z moved up
abbrev pub Lifts : ℤ → ℕ → Type 0
Lifts z n = plus z + farthest ≡ n + minus z

pub record Sees (t : Table) (p : Placement) (s : Sights) : Type 0 where
  pub many : ℕ → ℕ
  pub counted : Counted t (λ c. (s c).nth) many
  pub parents : (c : ℕ) → Is t c → (s c).parent ≡ parent t c
  pub middles : (c : ℕ) → Is t c → (s c).middle ≡ appointed (kind t c) (many c)
  pub xs : (c : ℕ) → Is t c → Lifts (p.x c) (s c).x
  pub rights : (c : ℕ) → Is t c → (s c).right ≡ (s c).x + box_width t c
  pub ys : (c : ℕ) → Is t c → Lifts (p.y c) (s c).y
  pub bases : (c : ℕ) → Is t c → (s c).base ≡ (s c).y + box_depth t c
  pub dues : Due t (λ c. (s c).base) (λ c. (s c).due)
  pub bottoms : Deepest t (λ c. (s c).base) (λ c. (s c).bottom)
  pub spans : Spans t (λ c. (s c).first) (λ c. (s c).end) (λ c. (s c).from) (λ c. (s c).to)

-- s holds, of the table's cells, what the rules read
pub record Looked (t : Table) (p : Placement) (s : Sights) : Type 0 where
  pub seen : Sights
  pub sees : Sees t p seen
  pub agree : Agree s seen (length t)

-- what the rules read of the table: the first seven numbers of each cell
pub record TreeSeen (t : Table) (n : ℕ) (xs xs' : List ℕ) : Type 0 where
  pub heads : List ℕ
  pub nth : List ℕ
  pub middle : List ℕ
  pub first : List ℕ
  pub end : List ℕ
  pub from : List ℕ
  pub to : List ℕ
  pub many : List ℕ
  pub parents : Column heads n (parent t)
  pub counted : Counted t (at nth) (at many)
  pub middles : Column middle n (λ c. appointed (kind t c) (at many c))
  pub spans : Spans t (at first) (at end) (at from) (at to)
  pub scattered : Scattered (heads ∷ nth ∷ middle ∷ first ∷ end ∷ from ∷ to ∷ []) n 0 xs xs'

-- and of the placement: the others
pub record PlacementSeen (t : Table) (ps : List ℤ) (n : ℕ) (xs xs' : List ℕ) : Type 0 where
  pub x : List ℕ
  pub right : List ℕ
  pub y : List ℕ
  pub due : List ℕ
  pub base : List ℕ
  pub bottom : List ℕ
  pub x_raised : Column x n (λ c. bias farthest (get_or ps (2 * c + 0) (pos 0)))
  pub rights : Column right n (λ c. at x c + box_width t c)
  pub y_raised : Column y n (λ c. bias farthest (get_or ps (2 * c + 1) (pos 0)))
  pub dues : Due t (at base) (at due)
  pub bases : Column base n (λ c. at y c + box_depth t c)
  pub bottoms : Deepest t (at base) (at bottom)
  pub scattered : Scattered (x ∷ right ∷ y ∷ due ∷ base ∷ bottom ∷ []) n 7 xs xs'

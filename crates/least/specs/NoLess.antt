-- What "nowhere less" means, of two placements of one table. Assumes nothing.
use Rattle.std.specs.Prelude.{ℕ, ◌≡◌, T, ◌-ℤ◌, ◌≤ℤ◌}
use Rattle.plan.specs.Plan.{Table, Is, next}
use Rattle.rules.specs.Placement.{Placement, left_extent, right_extent, width, rows}

-- q is nowhere less than p: extents of every subtree, distances of neighbouring siblings, width; and the rows are the same
pub record NoLess (t : Table) (p q : Placement) : Type 0 where
  pub left : (c : ℕ) → Is t c → left_extent t p c ≤ℤ left_extent t q c
  pub right : (c : ℕ) → Is t c → right_extent t p c ≤ℤ right_extent t q c
  pub apart : (u v : ℕ) → T (next t u v) → (p.x v -ℤ p.x u) ≤ℤ (q.x v -ℤ q.x u)
  pub wide : width t p ≤ℤ width t q
  pub deep : rows t q ≡ rows t p

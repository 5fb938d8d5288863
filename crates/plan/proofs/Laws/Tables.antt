-- What a table in columns holds, read off the columns. Assumes nothing.
use Rattle.std.specs.Prelude.{◌≡◌, ℕ, ◌≤◌, ◌<◌, length, get_or}
use Rattle.std.proofs.Common.{sym, ◌∙◌, arith}
use Rattle.plan.specs.Limits.{most_cells}
use Rattle.plan.specs.declared.Columns.{Columns}
use Rattle.plan.specs.Plan.{parent, kind, box_width, box_depth, rank, Child}
use Rattle.plan.specs.Fit.{Fit}
use Rattle.plan.specs.Columns.{table_of}
use Rattle.plan.proofs.Laws.Columns as laws

module _ (t : Columns) where
  pub length-is : length (table_of t) ≡ t.count
  length-is = laws.table-length t.parent t.kind t.width t.depth t.rank t.count

  pub parent_is : (c : ℕ) → c < t.count → parent (table_of t) c ≡ get_or t.parent c 0
  parent_is c h = laws.parent-at t.parent t.kind t.width t.depth t.rank t.count c h

  pub kind-is : (c : ℕ) → c < t.count → kind (table_of t) c ≡ get_or t.kind c 0
  kind-is c h = laws.kind_at t.parent t.kind t.width t.depth t.rank t.count c h

  pub width_is : (c : ℕ) → c < t.count → box_width (table_of t) c ≡ get_or t.width c 0
  width_is c h = laws.width-at t.parent t.kind t.width t.depth t.rank t.count c h

  pub depth_is : (c : ℕ) → c < t.count → box_depth (table_of t) c ≡ get_or t.depth c 0
  depth_is c h = laws.depth_at t.parent t.kind t.width t.depth t.rank t.count c h

  pub rank_is : (c : ℕ) → c < t.count → rank (table_of t) c ≡ get_or t.rank c 0
  rank_is c h = laws.rank-at t.parent t.kind t.width t.depth t.rank t.count c h

  module _ (fit : Fit (table_of t)) where
    pub count-some : 1 ≤ t.count
    count-some = omega (arith, fit.some_cell, length-is)

    pub count_few : t.count ≤ most_cells
    count_few = omega (arith, fit.not_too_many, length-is)

    pub parent_lower : (c : ℕ) → 1 ≤ c → c < t.count → get_or t.parent c 0 < c
    parent_lower c l h = omega (arith, fit.sound c l (omega (arith, length-is)), parent_is c h)

  pub child-of : (c f : ℕ) → 1 ≤ c → c < t.count → f ≡ get_or t.parent c 0 → Child (table_of t) f c
  child-of c f l h e = record { low = l; is = omega (arith, length-is); of = parent_is c h ∙ sym e }

-- The x of a cell, moved up, from its parent's. Assumes nothing.
use Rattle.std.specs.Prelude.{◌≡◌, refl, List, ℕ, ◌+◌, ◌-◌, ◌*◌, ◌≤◌, ◌<◌, length, get_or, set, ℤ, pos, ◌+ℤ◌, ◌-ℤ◌}
use Rattle.std.proofs.Common.{sym, ap, ◌∙◌, arith, get_or-set_same, get_or-set_other}
use Rattle.std.proofs.Math.Decide.{ℕ_discrete}
use Rattle.whole.proofs.Laws.Whole.{whole, sum, diff}
use Rattle.plan.specs.Limits.{farthest, most_cells}
use Rattle.plan.specs.Lists.{At}
use Rattle.plan.specs.Plan.{Table, Is, parent, children}
use Rattle.plan.proofs.Laws.Plan.{child_show}
use Rattle.plan.specs.Columns.{table_of}
use Rattle.plan.proofs.Laws.Columns.{table-length, parent-at}
use Rattle.plan.specs.declared.Columns.{Columns}
use Rattle.plan.specs.Fit.{Fit}
use Rattle.rules.specs.Placement.{Inside}
use Rattle.contours.specs.Contour.{offset}
use Rattle.contours.specs.Sheet.{middle, contours, sheet}
use Rattle.contours.proofs.Laws.Sheet.{column_zero, column-child}
use Rattle.least.proofs.Laws.Columns.{sheet-inside}
use Rattle.joining.specs.Joining.{mark}
use Rattle.marks.specs.Marks.{Marked}
use Rattle.positions.specs.Raised.{Raised, Raising}

-- the x of c, moved up, from that of its parent f
abbrev pub child_at : (ms xs : List ℕ) (c f : ℕ) → ℕ
child_at ms xs c f = get_or xs f 0 + mark ms c 3 - mark ms f 0

-- a parent at X, less 262,143, and its child o − m to the right
moved : (X o m : ℕ) (xf xc : ℤ) → pos X ≡ xf +ℤ pos farthest → xc ≡ (pos o -ℤ pos m) +ℤ xf → Inside xc → X ≤ 2 * farthest → o ≤ farthest
    → (m ≤ X + o) × (X + o ≤ 3 * farthest) × (pos (X + o - m) ≡ xc +ℤ pos farthest) × (X + o - m ≤ 2 * farthest)
moved X o m xf xc p e i h n =
    let b : m ≤ X + o = omega (whole, i.low, sum xf (pos farthest), sum (pos o -ℤ pos m) xf, diff (pos o) (pos m)) in
    let r : pos (X + o - m) ≡ xc +ℤ pos farthest = omega (whole, sum xf (pos farthest), sum (pos o -ℤ pos m) xf, diff (pos o) (pos m), sum xc (pos farthest)) in
    (b, omega arith, r, omega (whole, i.high, sum xc (pos farthest)))

module _ (t : Table) (fit : Fit t) (al : ℕ) where
  root_x : (sheet t al).x 0 ≡ pos 0
  unfolding sheet
  root_x = column_zero t fit.sound al

  child-x : (f i s : ℕ) → At (children t f) i s
      → (sheet t al).x s ≡ (pos (offset al 0 (contours t al f) i) -ℤ pos (middle t al f (contours t al f))) +ℤ (sheet t al).x f
  unfolding sheet
  child-x f i s h = column-child t fit.sound al f i s h

  pub raised-one : (xs : List ℕ) → get_or xs 0 0 ≡ farthest → Raised xs 1 (sheet t al).x
  raised-one xs e =
      record {
        each = λ c h. let z : c ≡ 0 = omega arith in rw (z, e, root_x) refl;
        high = λ c h. let z : c ≡ 0 = omega arith in rw (z, e) (omega arith);
      }

  module _ (ms : List ℕ) (m : Marked t al ms) (xs : List ℕ) (c f : ℕ) (some : 1 ≤ c) (is : Is t c) (of : f ≡ parent t c) (so : Raised xs c (sheet t al).x) where
    pub record Next : Type 0 where
      pub enough : mark ms f 0 ≤ get_or xs f 0 + mark ms c 3
      pub low : get_or xs f 0 + mark ms c 3 ≤ 3 * farthest
      pub right : pos (child_at ms xs c f) ≡ (sheet t al).x c +ℤ pos farthest
      pub near : child_at ms xs c f ≤ 2 * farthest

    pub next-x : Next
    next-x =
        let (i, a) = child_show t (parent t c) c (record { low = some; is = is; of = refl }) in
        let below : parent t c < c = fit.sound c some is in
        let p : pos (get_or xs f 0) ≡ (sheet t al).x (parent t c) +ℤ pos farthest = so.each f (omega arith) ∙ ap (λ (z : ℕ). (sheet t al).x z +ℤ pos farthest) of in
        let o = m.offset_of (parent t c) i c a in
        let k : mark ms f 0 ≡ middle t al (parent t c) (contours t al (parent t c)) = rw of (m.middle_of (parent t c) (omega arith)) in
        let (enough, low, right, near) = moved _ _ _ _ _ p (child-x (parent t c) i c a) (sheet-inside t fit al c is).0 (so.high f (omega arith)) (rw o at (m.near (4 * c + 3))) in
        record { enough = rw (o, k) enough; low = rw o low; right = rw (o, k) right; near = rw (o, k) near }

    pub raised-more : c < length xs → Raised (set xs c (child_at ms xs c f)) (c + 1) (sheet t al).x
    raised-more l = record { each = λ a h. each a h (ℕ_discrete a c); high = λ a h. high a h (ℕ_discrete a c) }
      where
        each : (a : ℕ) → a < c + 1 → Dec (a ≡ c) → pos (get_or (set xs c (child_at ms xs c f)) a 0) ≡ (sheet t al).x a +ℤ pos farthest
        each a h (yes e) = rw (e, get_or-set_same xs c (child_at ms xs c f) 0 l) next-x.right
        each a h (no e) = rw (get_or-set_other xs c a (child_at ms xs c f) 0 e) (so.each a (omega arith))

        high : (a : ℕ) → a < c + 1 → Dec (a ≡ c) → get_or (set xs c (child_at ms xs c f)) a 0 ≤ 2 * farthest
        high a h (yes e) = rw (e, get_or-set_same xs c (child_at ms xs c f) 0 l) next-x.near
        high a h (no e) = rw (get_or-set_other xs c a (child_at ms xs c f) 0 e) (so.high a (omega arith))

-- ---- the same of columns, for the loop over the cells
module _ (t : Columns) (ms : List ℕ) (r : Raising (table_of t) ms) where
  count : length (table_of t) ≡ t.count
  count = table-length t.parent t.kind t.width t.depth t.rank t.count

  pub counted : (1 ≤ t.count) × (t.count ≤ most_cells)
  counted = (omega (arith, count, r.fit.some_cell), omega (arith, count, r.fit.not_too_many))

  pub raised-start : (xs : List ℕ) → get_or xs 0 0 ≡ farthest → (al : ℕ) → Marked (table_of t) al ms → Raised xs 1 (sheet (table_of t) al).x
  raised-start xs e al m = raised-one (table_of t) r.fit al xs e

  -- the cell c, whose parent is f, once all before it stand
  pub record Turn (xs : List ℕ) (c f : ℕ) : Type 0 where
    pub room : c < most_cells
    pub lower : f < c
    pub low : get_or xs f 0 + mark ms c 3 ≤ 3 * farthest
    pub enough : mark ms f 0 ≤ get_or xs f 0 + mark ms c 3
    pub again : (al : ℕ) → Marked (table_of t) al ms → Raised (set xs c (child_at ms xs c f)) (c + 1) (sheet (table_of t) al).x

  pub turn : (xs : List ℕ) (c f : ℕ) → length xs ≡ most_cells → 1 ≤ c → c < t.count → f ≡ get_or t.parent c 0
      → ((al : ℕ) → Marked (table_of t) al ms → Raised xs c (sheet (table_of t) al).x) → Turn xs c f
  turn xs c f long some l e so =
      let is : Is (table_of t) c = omega (arith, count) in
      let of : f ≡ parent (table_of t) c = e ∙ sym (parent-at t.parent t.kind t.width t.depth t.rank t.count c l) in
      let few : c < most_cells = omega (arith, count, r.fit.not_too_many) in
      let n = next-x (table_of t) r.fit r.allowance ms r.marks xs c f some is of (so r.allowance r.marks) in
      record {
        room = few;
        lower = omega (arith, r.fit.sound c some is);
        low = n.low;
        enough = n.enough;
        again = λ al m. raised-more (table_of t) r.fit al ms m xs c f some is of (so al m) (omega arith);
      }

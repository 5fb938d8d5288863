-- What the columns, scattered over the cells, tell of a table and a placement. Assumes nothing.
use mathlib.Core.Path.{◌≡◌, sym, ◌∙◌, subst}
use mathlib.Core.Logic.{◌⊎◌, inl, inr}
use mathlib.Core.List.{List, [], ◌∷◌}
use Prim.Native.Nat.{ℕ, zero, suc, ◌+◌, ◌*◌, ◌≤◌, ◌<◌}
use native.Mathlib.Nat.{zero-add, add-zero}
use native.Mathlib.Omega.{arith}
use lib.ListN.{length, get_or}
use lib.IntN.{ℤ, pos}
use Rattle.whole.proofs.Laws.Whole.{whole, neg-plus, neg-minus}
use Rattle.whole.specs.Bias.{bias}
use Rattle.whole.specs.Range.{InRange}
use Rattle.plan.specs.Limits.{farthest}
use Rattle.plan.specs.Plan.{Is, box_depth}
use Rattle.plan.proofs.Laws.Plan.{children_few}
use Rattle.plan.specs.Fit.{Fit}
use Rattle.plan.specs.Near.{Near}
use Rattle.plan.specs.Columns.{table_of}
use Rattle.plan.specs.Trees.{Column}
use Rattle.spans.specs.Spans.{at, Counted}
use Rattle.plan.proofs.Laws.Tables.{length-is, count_few}
use Rattle.rules.specs.Placement.{placed}
use Rattle.looking_columns.specs.Columns.{sight, Scattered, Short}
use Rattle.looking_columns.proofs.Making.{within-at}
use Rattle.looking_sights.specs.Sights.{Sights, Agree, Sighted, view_in}
use Rattle.looking_sights.specs.Sees.{Lifts, Sees, Looked, TreeSeen, PlacementSeen}
use Rattle.plan.specs.declared.Columns.{Columns}

-- ---- a column, and those after it
pub scattered_more : {column : List ℕ} {columns : List (List ℕ)} {n k : ℕ} {xs ys zs : List ℕ} → k < sight → Scattered (column ∷ []) n k xs ys
    → Scattered columns n (suc k) ys zs → Scattered (column ∷ columns) n k xs zs
scattered_more {column} {columns} {n} {k} {xs} {ys} {zs} small g h = record { long = h.long; here = here; off = off }
  where
    here : (j c : ℕ) → j < suc (length columns) → c < n → get_or zs (sight * c + (k + j)) 0 ≡ get_or (get_or (column ∷ columns) j []) c 0
    here zero c p l =
        let e : get_or ys (sight * c + k) 0 ≡ get_or column c 0 = rw add-zero at (g.here 0 c (omega arith) l) in
        rw add-zero (h.off k c small (inl (omega arith)) ∙ e)
    here (suc j) c p l =
        subst (λ (i : ℕ). get_or zs (sight * c + i) 0 ≡ get_or (get_or columns j []) c 0) (omega arith) (h.here j c (omega arith) l)

    off : (j c : ℕ) → j < sight → (j < k) ⊎ (k + suc (length columns) ≤ j) → get_or zs (sight * c + j) 0 ≡ get_or xs (sight * c + j) 0
    off j c l (inl p) = h.off j c l (inl (omega arith)) ∙ g.off j c l (inl p)
    off j c l (inr p) = h.off j c l (inr (omega arith)) ∙ g.off j c l (inr (omega arith))

-- ---- coordinates, moved up
pub lifted : (z : ℤ) → InRange farthest z → Lifts z (bias farthest z)
lifted z w = omega (whole, w.low, neg-plus (pos farthest), neg-minus (pos farthest))

pub low_lift : (z : ℤ) → InRange farthest z → bias farthest z ≤ farthest + farthest
low_lift z w = omega (whole, w.high)

-- ---- all the columns
module _ (t : Columns) (fit : Fit (table_of t)) where
  is : (c : ℕ) → c < t.count → Is (table_of t) c
  is c l = omega (arith, length-is t)

  in_count : (c : ℕ) → Is (table_of t) c → c < t.count
  in_count c i = omega (arith, length-is t)

  pub many_short : (nth many : List ℕ) → Counted (table_of t) (at nth) (at many) → Short many t.count
  many_short nth many h = record { short = λ c l. omega (arith, h.all c (is c l), children_few (table_of t) c, fit.not_too_many) }

  module _ (ps : List ℤ) (near : Near ps t.count) where
    abbrev pub Raised : List ℕ → ℕ → Type 0
    Raised xs o = Column xs t.count (λ c. bias farthest (get_or ps (2 * c + o) (pos 0)))

    low : (xs : List ℕ) (o : ℕ) → o ≤ 1 → Raised xs o → (c : ℕ) → c < t.count → at xs c ≤ farthest + farthest
    low xs o k h c l = rw (h.each c l) (low_lift _ (within-at ps t.count c o near l k))

    pub raised_short : (xs : List ℕ) (o : ℕ) → o ≤ 1 → Raised xs o → Short xs t.count
    raised_short xs o k h = record { short = λ c l. omega (arith, low xs o k h c l) }

    pub bases_short : (y base : List ℕ) → Raised y 1 → Column base t.count (λ c. at y c + box_depth (table_of t) c) → Short base t.count
    bases_short y base h k = record { short = λ c l. omega (arith, k.each c l, low y 1 (omega arith) h c l, (fit.deep c (is c l)).1) }

    module _ {xs ys zs : List ℕ} (u : TreeSeen (table_of t) t.count xs ys) (v : PlacementSeen (table_of t) ps t.count ys zs) where
      abbrev columns : Sights
      columns c = record {
        parent = at u.heads c;
        nth = at u.nth c;
        middle = at u.middle c;
        first = at u.first c;
        end = at u.end c;
        from = at u.from c;
        to = at u.to c;
        x = at v.x c;
        right = at v.right c;
        y = at v.y c;
        due = at v.due c;
        base = at v.base c;
        bottom = at v.bottom c;
      }

      old : (c : ℕ) → c < t.count → (j : ℕ) → j < 7
          → get_or zs (sight * c + j) 0 ≡ get_or (get_or (u.heads ∷ u.nth ∷ u.middle ∷ u.first ∷ u.end ∷ u.from ∷ u.to ∷ []) j []) c 0
      old c l j m = v.scattered.off j c (omega arith) (inl m) ∙ rw zero-add at (u.scattered.here j c m l)

      agree : Agree (view_in zs) columns t.count
      agree = record {
        same = λ c l.
            let o = old c l in
            let n = v.scattered.here in
            rw (
              o 0 (omega arith),
              o 1 (omega arith),
              o 2 (omega arith),
              o 3 (omega arith),
              o 4 (omega arith),
              o 5 (omega arith),
              o 6 (omega arith),
              n 0 c (omega arith) l,
              n 1 c (omega arith) l,
              n 2 c (omega arith) l,
              n 3 c (omega arith) l,
              n 4 c (omega arith) l,
              n 5 c (omega arith) l,
            );
      }

      sighted : (s : Sights) → Agree s columns t.count → Sighted s t.count
      sighted s a = record {
        few = count_few t fit;
        x_small = λ c l. rw (a.same c l) (omega (arith, low v.x 0 (omega arith) v.x_raised c l));
        right_small = λ c l. rw (a.same c l) (omega (arith, v.rights.each c l, low v.x 0 (omega arith) v.x_raised c l, (fit.wide c (is c l)).1));
        bottom_small = λ c l.
            let r = v.bottoms.one c (is c l) in
            rw (a.same c l) (omega (arith, r.so, (bases_short v.y v.base v.y_raised v.bases).short r.cell (in_count r.cell r.is)));
      }

      sees : Sees (table_of t) (placed ps) columns
      unfolding placed
      sees = record {
        many = at u.many;
        counted = u.counted;
        parents = λ c i. u.parents.each c (in_count c i);
        middles = λ c i. u.middles.each c (in_count c i);
        xs = λ c i. let l = in_count c i in rw (v.x_raised.each c l, add-zero) (lifted _ (near.x c l));
        rights = λ c i. v.rights.each c (in_count c i);
        ys = λ c i. let l = in_count c i in rw (v.y_raised.each c l) (lifted _ (near.y c l));
        bases = λ c i. v.bases.each c (in_count c i);
        dues = v.dues;
        bottoms = v.bottoms;
        spans = u.spans;
      }

      pub looked : Looked (table_of t) (placed ps) (view_in zs) × Sighted (view_in zs) t.count
      looked = (record { seen = columns; sees = sees; agree = subst (λ (n : ℕ). Agree (view_in zs) columns n) (sym (length-is t)) agree }, sighted (view_in zs) agree)

-- What the code can go by, and what the greatest and least of the subtrees are. Assumes nothing.
use Rattle.std.specs.Prelude.{◌≡◌, refl, ℕ, zero, suc, ◌+◌, ◌-◌, ◌≤◌, ◌<◌, length, get_or, List, T}
use Rattle.std.proofs.Common.{sym, ◌∙◌, arith}
use Rattle.plan.specs.Lists.{At}
use Rattle.plan.proofs.Laws.Lists.{at_less, at_get_or}
use Rattle.plan.specs.Trees.{Column}
use Rattle.whole.proofs.Laws.Says.{both, says_le, says_lt, holds}
use Rattle.plan.specs.Limits.{last_row, farthest}
use Rattle.plan.specs.Plan.{Table, Is, Sound, parent, children, within, row}
use Rattle.plan.proofs.Laws.Paths.{below-within, below_root, within-self, within-child, from_parents, row_suc}
use Rattle.plan.proofs.Laws.Plan.{child-read, child_show}
use Rattle.plan.specs.Fit.{Fit}
use Rattle.rules.specs.Placement.{Placement}
use Rattle.spans.specs.Spans.{at, Numbered, Reaches, Deepest}
use Rattle.spans.proofs.Laws.Spans.{says_within, first-once}
use Rattle.looking_sights.specs.Sights.{Sights, Sighted}
use Rattle.looking_sights.specs.Sees.{Sees, Looked}
use Rattle.sweeping.specs.Swept.{Has, Ready, Alone, top, Extremes, Small, Rows}
use Rattle.sweeping.proofs.Laws.Exact.{parent_is}
use Rattle.sweeping.proofs.Laws.Kept.{says1}

module _ (t : Table) (p : Placement) (s : Sights) (sound : Sound t) (some : Is t 0) (g : Sees t p s) where
  -- where a cell's row of siblings, or the cell's own span, begins a cell has its number
  placed : (c k v : ℕ) → At (children t c) k v → Numbered t (λ c. (s c).first) (s v).from
  placed c zero v h = record { cell = v; is = (child-read t c 0 v h).is; so = sym (g.spans.eldest c v h) }
  placed c (suc k) v h =
      let u = get_or (children t c) k 0 in
      let m : At (children t c) k u = at_get_or (children t c) k 0 (omega (arith, at_less (children t c) (suc k) v h)) in
      record { cell = u; is = (child-read t c k u m).is; so = sym (g.spans.elder c k u v m h) }

  begins : (c : ℕ) → Is t c → Numbered t (λ c. (s c).first) (s c).from
  begins zero i = record { cell = 0; is = i; so = sym g.spans.root_from }
  begins (suc m) i =
      let (k, h) = child_show t (parent t (suc m)) (suc m) (record { low = omega arith; is = i; of = refl }) in
      placed (parent t (suc m)) k (suc m) h

  first_less : (c : ℕ) → Is t c → (s c).first < (s 0).end
  first_less c i = ((both (says_le (s 0).first (s c).first) (says_lt (s c).first (s 0).end)).read ((says_within t sound g.spans 0 c some i).show (below-within t sound (below_root t sound c i)))).1

pub ready : (t : Table) (p : Placement) (s : Sights) → Fit t → Looked t p s → Sighted s (length t) → Ready s (length t)
ready t p s fit l h = record {
  some = fit.some_cell;
  few = fit.not_too_many;
  x_small = h.x_small;
  right_small = h.right_small;
  bottom_small = h.bottom_small;
  wide = λ c i. rw (same c i) (omega (arith, l.sees.rights c i));
  parents = parent_is t p s fit.sound l;
  last = rw (same 0 fit.some_cell) (l.sees.spans.few 0 fit.some_cell);
  firsts = λ c i. rw (same c i, same 0 fit.some_cell) (first_less t p l.seen fit.sound fit.some_cell l.sees c i);
  once = λ a b i j e. first-once t fit.sound l.sees.spans a b i j (rw (same a i, same b j) at e);
  hits = λ k m. has k (l.sees.spans.hit k (rw (same 0 fit.some_cell) at m));
  froms = λ c i. rw (same c i) (has (l.seen c).from (begins t p l.seen fit.sound fit.some_cell l.sees c i));
}
  where
    same : (c : ℕ) → Is t c → s c ≡ l.seen c
    same = l.agree.same

    has : (k : ℕ) → Numbered t (λ c. (l.seen c).first) k → Has s (length t) k
    has k n = record { cell = n.cell; is = n.is; so = rw (same n.cell n.is) n.so }

-- ---- S1 puts each cell into the row that the plan dictates
module _ (t : Table) (p : Placement) (s : Sights) (fit : Fit t) (g : Sees t p s) (level : (c : ℕ) → Is t c → (s c).y ≡ (s c).due) where
  y_is : (c : ℕ) → Is t c → (s c).y ≡ farthest + row t c
  unfolding row
  y_is = from_parents t fit.sound (λ c. Is t c → (s c).y ≡ farthest + row t c) root step
    where
      root : Is t 0 → (s 0).y ≡ farthest + row t 0
      root i = omega (arith, level 0 i, g.dues.root)

      step : (m : ℕ) → (Is t (parent t (suc m)) → (s (parent t (suc m))).y ≡ farthest + row t (parent t (suc m))) → Is t (suc m) → (s (suc m)).y ≡ farthest + row t (suc m)
      step m r i =
          let f : Is t (parent t (suc m)) = omega (arith, fit.sound (suc m) (omega arith) i) in
          omega (arith, level (suc m) i, g.dues.each (suc m) (parent t (suc m)) (record { low = omega arith; is = i; of = refl }), g.bases (parent t (suc m)) f, r f, row_suc t fit.sound m)

  base_low : (c : ℕ) → Is t c → (s c).base ≤ farthest + last_row
  base_low c i = omega (arith, y_is c i, g.bases c i, fit.rows_few c i)

  bottom_low : (c : ℕ) → Is t c → (s c).bottom ≤ farthest + last_row
  bottom_low c i = let r = g.bottoms.one c i in omega (arith, r.so, base_low r.cell r.is)

  bottom-up : (c : ℕ) → 1 ≤ c → Is t c → (s c).bottom ≤ (s (s c).parent).bottom
  bottom-up c l i =
      let r = g.bottoms.one c i in
      let w : T (within t (parent t c) r.cell) = within-child t fit.sound (parent t c) c r.cell (record { low = l; is = i; of = refl }) r.under in
      rw (g.parents c i) (omega (arith, r.so, g.bottoms.all (parent t c) r.cell r.is w))

pub rows : (t : Table) (p : Placement) (s : Sights) → Fit t → Looked t p s → Alone s (length t) → Rows s (length t)
rows t p s fit l h = record {
  first_row = λ c i. rw (same c i) (omega (arith, y_is t p l.seen fit l.sees level c i));
  box_rows = λ c i. rw (same c i) (omega (arith, l.sees.bases c i), l.sees.bottoms.all c c i (within-self t fit.sound c));
  stem_rows = λ c k i.
      let f : Is t (l.seen c).parent = rw (same c i) at (parent_is t p s fit.sound l c k i) in
      rw (same c i, same (l.seen c).parent f) (bottom-up t p l.seen fit l.sees level c k i);
  sheet_rows = λ c i. rw (same c i) (bottom_low t p l.seen fit l.sees level c i);
}
  where
    same : (c : ℕ) → Is t c → s c ≡ l.seen c
    same = l.agree.same

    level : (c : ℕ) → Is t c → (l.seen c).y ≡ (l.seen c).due
    level c i = rw (same c i) at (holds (says1 c c (s c)) (h.each c i).one refl).0

-- ---- the greatest right edge of each subtree, and what is left to `top` of its least x
module _ (t : Table) (s : Sights) {rights lefts : List ℕ} {high low : ℕ → ℕ} (r : Ready s (length t))
    (e : Column rights (length t) (λ c. (s c).right)) (f : Column lefts (length t) (λ c. top - (s c).x)) (h : Deepest t (at rights) high) (l : Deepest t (at lefts) low) where
  pub extremes : Extremes t s high low
  extremes = record {
    rights = λ c a i w. omega (arith, h.all c a i w, e.each a i);
    lefts = λ c a i w. omega (arith, l.all c a i w, f.each a i);
  }

  pub most : (c : ℕ) → Is t c → Reaches t (λ a. (s a).right) c (high c)
  most c i = let z = h.one c i in record { cell = z.cell; is = z.is; under = z.under; so = z.so ∙ e.each z.cell z.is }

  pub least : (c : ℕ) → Is t c → Reaches t (λ a. top - (s a).x) c (low c)
  least c i = let z = l.one c i in record { cell = z.cell; is = z.is; under = z.under; so = z.so ∙ f.each z.cell z.is }

  pub near : (c : ℕ) → Is t c → (s c).x ≤ top
  near c i = omega (arith, r.x_small c i)

  pub small : Small (length t) high low
  small = record {
    high_small = λ c i. let z = h.one c i in omega (arith, z.so, e.each z.cell z.is, r.right_small z.cell z.is);
    low_small = λ c i. let z = l.one c i in omega (arith, z.so, f.each z.cell z.is);
  }

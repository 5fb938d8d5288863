-- The pass that numbers siblings: what its loop keeps. Assumes nothing.
use mathlib.Core.Path.{◌≡◌, ◌∙◌, ap}
use mathlib.Core.List.{List}
use Prim.Native.Nat.{ℕ, ◌+◌, ◌-◌, ◌≤◌, ◌<◌}
use native.Mathlib.Omega.{arith}
use native.Mathlib.Decide.{ℕ_discrete}
use lib.ListN.{length, get_or, set, length-set}
use Rattle.plan.specs.Limits.{most_cells}
use Rattle.plan.specs.Plan.{children}
use Rattle.plan.proofs.Laws.Plan.{children_few, child_show}
use Rattle.plan.proofs.Laws.Lists.{at_less}
use Rattle.plan.specs.Fit.{Fit}
use Rattle.plan.specs.Columns.{table_of}
use Rattle.plan.specs.Trees.{Lower}
use Rattle.plan.proofs.Laws.Trees.{seen, seen_most, seen_more, seen-children}
use Rattle.plan.proofs.Laws.Tables.{length-is, count-some, count_few, child-of, parent_lower}
use Rattle.links.specs.Links.{link, Links}
use Rattle.spans.specs.Spans.{at, Counted}
use Rattle.spans.proofs.Laws.Columns.{all, all-long, all-at, put}
use Rattle.spans.proofs.Laws.Counted.{counted}
use Rattle.plan.specs.declared.Columns.{Columns}

pub record Numbering (t : Columns) (ls : List ℕ) (c : ℕ) (nth many : List ℕ) : Type 0 where
  pub low : 1 ≤ c
  pub high : c ≤ t.count
  pub few : t.count ≤ most_cells
  pub nth_long : length nth ≡ most_cells
  pub many_long : length many ≡ most_cells
  pub root : at nth 0 ≡ 0
  pub placed : (x : ℕ) → 1 ≤ x → x < c → at nth x ≡ link ls x 2 + 1
  pub some : (f : ℕ) → f < most_cells → at many f ≡ seen t.parent (c - 1) f

module _ (t : Columns) (fit : Fit (table_of t)) (ls : List ℕ) (links : Links (table_of t) ls) where
  pub numbering_starts : Numbering t ls 1 (all 0) (all 0)
  unfolding seen
  numbering_starts = record {
    low = omega arith;
    high = count-some t fit;
    few = count_few t fit;
    nth_long = all-long 0;
    many_long = all-long 0;
    root = all-at 0 0 (omega arith);
    placed = λ x l h. absurd (omega arith);
    some = λ f h. all-at 0 f h;
  }

  lower : Lower t.parent t.count
  lower = record { some = count-some t fit; few = count_few t fit; lower = parent_lower t fit }

  module _ {c f : ℕ} {nth many : List ℕ} (h : Numbering t ls c nth many) (more : c < t.count) (p : f ≡ get_or t.parent c 0) where
    f_less : f < c
    f_less = omega (arith, parent_lower t fit c h.low more)

    pub many_fits : at many f ≤ most_cells
    many_fits = omega (arith, h.some f (omega (arith, f_less, h.few)), seen_most t.parent (c - 1) f, h.few)

    pub place-fits : link ls c 2 ≤ most_cells
    place-fits =
        let (i, a) = child_show (table_of t) f c (child-of t c f h.low more p) in
        omega (arith, links.place_of f i c a, at_less (children (table_of t) f) i c a, children_few (table_of t) f, fit.not_too_many)

    placed-next : {v : ℕ} → v ≡ link ls c 2 + 1 → (x : ℕ) → 1 ≤ x → x < c + 1 → at (set nth c v) x ≡ link ls x 2 + 1
    placed-next {v} e x l m = go (ℕ_discrete x c)
      where
        go : Dec (x ≡ c) → at (set nth c v) x ≡ link ls x 2 + 1
        go (yes q) = rw q ((put nth c v (omega (arith, h.nth_long, h.few))).here ∙ e)
        go (no q) = (put nth c v (omega (arith, h.nth_long, h.few))).off x q ∙ h.placed x l (omega arith)

    pub numbering_turns : {q : ℕ} → q ≡ link ls c 2 → Numbering t ls (c + 1) (set nth c (q + 1)) (set many f (at many f + 1))
    numbering_turns e = record {
      low = omega arith;
      high = omega arith;
      few = h.few;
      nth_long = simp length-set h.nth_long;
      many_long = simp length-set h.many_long;
      root = (put nth c _ (omega (arith, h.nth_long, h.few))).off 0 (omega (arith, h.low)) ∙ h.root;
      placed = placed-next (ap (λ (x : ℕ). x + 1) e);
      some = rw p (seen_more t.parent many t.count c lower h.low more h.many_long h.some);
    }

  pub numbering_ends : {c : ℕ} {nth many : List ℕ} → Numbering t ls c nth many → t.count ≤ c → Counted (table_of t) (at nth) (at many)
  numbering_ends {c} h l =
      let e : c ≡ t.count = omega (arith, h.high) in
      counted (table_of t) links h.root (λ x m i. h.placed x m (omega (arith, length-is t)))
      (λ f i. h.some f (omega (arith, length-is t, h.few)) ∙ rw e (seen-children t.parent t.kind t.width t.depth t.rank t.count f))

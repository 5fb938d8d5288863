-- From what the search finds to the answer. Assumes nothing.
use mathlib.Core.Path.{◌≡◌, sym, subst}
use mathlib.Core.Bool.{Bool}
use Rattle.std.specs.Prelude.{Some, None}
use mathlib.Core.List.{List}
use Prim.Native.Nat.{ℕ, ◌≤◌, ◌<◌}
use native.Mathlib.Omega.{arith}
use lib.ListN.{get_or}
use lib.Dec.{T}
use lib.IntN.{ℤ}
use Rattle.plan.specs.declared.Columns.{Columns}
use Rattle.plan.specs.Columns.{table_of}
use Rattle.plan.specs.Fit.{Fit}
use Rattle.plan.proofs.Laws.Tables.{length-is}
use Rattle.plan.specs.Plan.{Table}
use Rattle.rules.specs.Placement.{Placement, placed}
use Rattle.rules.specs.Rules.{S1}
use Rattle.looking_sights.specs.Sights.{Sights}
use Rattle.looking_sights.specs.Sees.{Looked}
use Rattle.plan.specs.Trees.{Column}
use Rattle.why_search.specs.Rules.{rule_between, Inside}
use Rattle.why_search.specs.Stops.{stop}
use Rattle.why_search.specs.Explains.{Explained}
use Rattle.why_search.specs.Extremes.{Extremes}
use Rattle.why_search.specs.Found.{Open, Stands, Told, Begun}
use Rattle.why_search.specs.declared.search.Way.{Way}
use Rattle.why_search.proofs.Laws.Stops.{why-told, why_not}
use Rattle.why_search.proofs.Laws.Explained.{chain-inside, rule_named}
use Rattle.why_search.proofs.Laws.Extremes.{looked_stands}

module _ (t : Columns) (fit : Fit (table_of t)) (ps : List ℤ) (al : ℕ) (s1 : S1 (table_of t) (placed ps)) (s : Sights) (g : Looked (table_of t) (placed ps) s)
    (low high : ℕ) (x : Extremes s t.count t.count low high) where
  stands : Stands (table_of t) al (placed ps) s t.count low high
  stands = looked_stands (table_of t) al (placed ps) s t.count low high fit.sound s1 g (length-is t) x

  pub explains_none : ((u : Table) (p : Placement) → Stands u al p s t.count low high → Told u al p t.count None) → Explained (table_of t) al (placed ps) None
  explains_none means = why_not (table_of t) al (placed ps) (subst (λ (n : ℕ). Open (table_of t) al (placed ps) n) (sym (length-is t)) (means (table_of t) (placed ps) stands))

  module _ (way : Way) (means : (u : Table) (p : Placement) → Stands u al p s t.count low high → Told u al p t.count (Some way)) where
    told : Told (table_of t) al (placed ps) t.count (Some way)
    told = means (table_of t) (placed ps) stands

    pub count_less : way.count < t.count
    count_less = told.1

    pub last_less : way.last < t.count
    last_less = told.2

    module _ (cells : List ℕ)
        (h : (u : Table) (p : Placement) → Begun u al p s t.count way.marks way.count way.last → (j : ℕ) → j ≤ way.count → get_or cells j 0 ≡ stop u al p way.count way.last j) where
      begun : Begun (table_of t) al (placed ps) s t.count way.marks way.count way.last
      begun = let (c, m, l, k) = told in record { low = low; high = high; stands = stands; new = c.new; marked = k }

      pub cells-inside : Inside cells t.count way.count
      cells-inside = chain-inside (table_of t) al (placed ps) s t.count way.marks way.count way.last begun cells (h (table_of t) (placed ps) begun)

      pub explains_some : (rules : List ℕ) → Column rules way.count (rule_between s al cells) → Explained (table_of t) al (placed ps) (Some (record { count = way.count; cells = cells; rules = rules }))
      explains_some rules r =
          let (c, m, l, k) = told in
          record {
            yes = λ e. (
              why-told (table_of t) al (placed ps) way.count way.last cells c (h (table_of t) (placed ps) begun),
              record {
                short = omega (arith, length-is t);
                inside = λ j v. omega (arith, length-is t, cells-inside.inside j v);
                named = λ j v. rule_named (table_of t) al (placed ps) s t.count way.marks way.count way.last begun cells (h (table_of t) (placed ps) begun) j (get_or rules j 0) v (r.each j v);
              },
            );
            no = λ e. absurd (subst (λ (b : Bool). T b) e tt);
          }

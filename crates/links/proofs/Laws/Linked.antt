-- The links of a table that is given in columns: what the builder needs of them. Assumes nothing.
use Rattle.std.specs.Prelude.{◌≡◌, refl, List, ℕ, zero, suc, ◌*◌, length, get_or, replicate}
use Rattle.std.proofs.Common.{arith}
use Rattle.std.proofs.lemmas.List.{length-replicate}
use Rattle.plan.specs.Limits.{most_cells}
use Rattle.plan.specs.declared.Columns.{Columns}
use Rattle.plan.specs.Columns.{table_of}
use Rattle.plan.specs.Fit.{Fit}
use Rattle.plan.proofs.Laws.Tables.{length-is, parent_is, kind-is, rank_is, parent_lower, count-some, count_few}
use Rattle.links.specs.Links.{Links}
use Rattle.links.specs.Build.{Linking, Built}

pub zeros_get : (k i : ℕ) → get_or (replicate {A = ℕ} k 0) i 0 ≡ 0
zeros_get zero i = refl
zeros_get (suc k) zero = refl
zeros_get (suc k) (suc i) = zeros_get k i

module _ (t : Columns) (fit : Fit (table_of t)) where
  pub linking : length t.parent ≡ most_cells → length t.kind ≡ most_cells → length t.rank ≡ most_cells → Linking t.parent t.kind t.rank t.count (replicate (4 * most_cells) 0)
  linking p k r =
      let few = count_few t fit in
      record {
        building = record {
          some = count-some t fit;
          few = few;
          parents = omega arith;
          ranks = omega arith;
          room = rw (length-replicate {A = ℕ} (4 * most_cells) 0) (omega arith);
          before = parent_lower t fit;
          clear = zeros_get (4 * most_cells);
        };
        kinds = omega arith;
      }

  pub linked : {ls : List ℕ} → Built t.parent t.kind t.rank t.count ls → Links (table_of t) ls
  linked h = h (table_of t) (record {
    size = length-is t;
    parent_of = λ c i. parent_is t c (omega (arith, length-is t));
    kind_of = λ c i. kind-is t c (omega (arith, length-is t));
    rank_of = λ c i. rank_is t c (omega (arith, length-is t));
  })

-- A table that is not refused is fit. Assumes nothing.
use Rattle.std.specs.Prelude.{◌≡◌, ℕ, ◌+◌, ◌*◌, ◌≤◌, T, leb}
use Rattle.std.proofs.Math.Path.{refl}
use Rattle.std.proofs.Common.{ap, ◌∙◌}
use Rattle.std.proofs.Math.Dec.{leb→le}
use Rattle.std.proofs.Math.ListN.{length}
use Rattle.plan.specs.declared.Refusal.{Refusal}
use Rattle.plan.specs.Limits.{between, most_cells, most_width, most_level, last_row}
use Rattle.plan.specs.Plan.{Table, Is, parent, kind, box_width, box_depth, children, level, row}
use Rattle.plan.specs.Kinds.{allows}
use Rattle.plan.specs.Questions.{asked}
use Rattle.plan.proofs.Laws.Questions.{asked_yes, both-none, each_none, first-none}
use Rattle.plan.specs.Steps.{cell_refusal, cells_refusal, children_refusal, levels_refusal, rows_refusal, tree_refusal, table_refusal, counted_refusal, lent_refusal}
use Rattle.plan.proofs.Laws.Steps.{Passed, cell-passed, lower-read, sized-wide, sized-deep, counted-read}
use Rattle.plan.specs.Fit.{Fit}

-- the same for its positions
pub record Lent (t : Table) (p : ℕ) : Type 0 where
  pub fit : Fit t
  pub room : 2 * length t ≤ p

module _ (t : Table) where
  at-cell : (cells_refusal t).number ≡ 0 → (c : ℕ) → Is t c → Passed most_width c (parent t c) (kind t c) (box_width t c) (box_depth t c)
  unfolding cells_refusal
  at-cell e c i = cell-passed most_width c _ _ _ _ (each_none (λ c. cell_refusal most_width c (parent t c) (kind t c) (box_width t c) (box_depth t c)) (length t) e c i)

  family : (children_refusal t).number ≡ 0 → (c : ℕ) → Is t c → T (allows (kind t c) (length (children t c)))
  unfolding children_refusal
  family e c i = asked_yes 10 _ c (each_none (λ c. asked 11 (allows (kind t c) (length (children t c))) c) (length t) e c i)

  not_too_low : (levels_refusal t).number ≡ 0 → (c : ℕ) → Is t c → level t c ≤ most_level
  unfolding levels_refusal
  not_too_low e c i = leb→le _ _ (asked_yes 11 _ c (each_none (λ c. asked 12 (leb (level t c) most_level) c) (length t) e c i))

  rows_few : (rows_refusal t).number ≡ 0 → (c : ℕ) → Is t c → row t c + box_depth t c ≤ last_row
  unfolding rows_refusal
  rows_few e c i = leb→le _ _ (asked_yes 12 _ c (each_none (λ c. asked 13 (leb (row t c + box_depth t c) last_row) c) (length t) e c i))

  pub counted_fit : (counted_refusal t).number ≡ 0 → Fit t
  unfolding counted_refusal table_refusal tree_refusal
  counted_fit e =
      let (four, s) = both-none (asked 4 (between 1 most_cells (length t)) 0) _ e in
      let (cells, u) = both-none (cells_refusal t) _ s in
      let (sons, v) = both-none (children_refusal t) _ u in
      let (levels, rows) = both-none (levels_refusal t) (rows_refusal t) v in
      let (some, few) = counted-read (length t) _ refl four in
      record {
        some_cell = some;
        not_too_many = few;
        sound = λ c l i. lower-read c (parent t c) l (at-cell cells c i).is_lower;
        wide = λ c i. sized-wide most_width (box_width t c) (box_depth t c) (at-cell cells c i).is_sized;
        deep = λ c i. sized-deep most_width (box_width t c) (box_depth t c) (at-cell cells c i).is_sized;
        family = family sons;
        not_too_low = not_too_low levels;
        rows_few = rows_few rows;
      }

  pub lent_fit : (p : ℕ) → (lent_refusal t p).number ≡ 0 → Lent t p
  unfolding lent_refusal counted_refusal
  lent_fit p e =
      let four = asked 4 (between 1 most_cells (length t)) 0 in
      let (a, r) = both-none four _ e in
      let (b, s) = both-none (asked 1 (leb (2 * length t) p) 0) _ r in
      record {
        fit = counted_fit (ap (λ (x : Refusal). x.number) (first-none four (table_refusal t) a) ∙ s);
        room = leb→le (2 * length t) p (asked_yes 0 _ 0 b);
      }

-- From the columns of a lent table to its records: Layout answers the same. Nothing that a reader must believe stands here. Assumes nothing.
use Rattle.std.specs.Prelude.{◌≡◌, List, [], ◌∷◌, ℕ, ◌<◌, length, ℤ, Result, Err}
use Rattle.std.proofs.Math.Path.{refl, sym}
use Rattle.std.proofs.Common.{◌∙◌}
use Rattle.plan.specs.Limits.{most_cells}
use Rattle.plan.specs.Lists.{mem, some}
use Rattle.plan.specs.Plan.{Table}
use Rattle.plan.specs.Columns.{table_of}
use Rattle.plan.specs.Records.{cells_of}
use Rattle.plan.specs.declared.Record.{Record}
use Rattle.plan.specs.declared.Columns.{Columns}
use Rattle.plan.specs.Questions.{scratch, in_file, puts, refusal, layout, layout_given}
use Rattle.plan.proofs.Laws.Crowded.{refusal-crowded, crowded_refuses}
use Rattle.plan.specs.declared.Refusal.{Refusal}
use Rattle.plan.specs.declared.Measures.{Measures}
use Rattle.plan.proofs.Laws.Answered.{answered_some}
use Rattle.layout.specs.Laid.{laid_of, positions_after, Lays}
use Rattle.records.specs.Apart.{lent_columns}
use Rattle.records.proofs.Laws.Apart.{of-records}
use Rattle.entry_laws.proofs.Laws.Lent.{no}

module _ (al : ℕ) (s s' : List ℕ) (ps ps' : List ℤ) (d : Result Measures Refusal) where
  abbrev unlaid : Refusal
  unlaid = no (scratch (length s) ∷ [])

  laid_crowded : (u : Table) → most_cells < length u → laid_of u al (refusal layout (layout_given u al (length s) (length ps))) ≡ Err unlaid
  unfolding laid_of layout_given in_file puts mem some
  laid_crowded u h = rw (refusal-crowded layout (layout_given u al (length s) (length ps)) (λ _. refl) refl refl h) (answered_some unlaid _ (crowded_refuses _))

  lays_crowded : (u v : Table) → most_cells < length u → most_cells < length v → Lays u al s s' ps ps' d → Lays v al s s' ps ps' d
  unfolding positions_after
  lays_crowded u v p q g =
      let e : d ≡ Err unlaid = g.answers ∙ laid_crowded u p in
      record { answers = e ∙ sym (laid_crowded v q); positions = rw e (rw e at g.positions); scratch = g.scratch }

module _ (t : List Record) (r : Columns) (e : r ≡ lent_columns t) where
  pub layout-lent : (al : ℕ) (s s' : List ℕ) (ps ps' : List ℤ) (d : Result Measures Refusal) → Lays (table_of r) al s s' ps ps' d → Lays (cells_of t) al s s' ps ps' d
  layout-lent al s s' ps ps' d h = of-records (λ u. Lays u al s s' ps ps' d) t (lays_crowded al s s' ps ps' d) (rw e at h)

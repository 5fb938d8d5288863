-- From the columns of a lent table to its records: Drill answers the same. Nothing that a reader must believe stands here. Assumes nothing.
use Rattle.std.specs.Prelude.{◌≡◌, List, [], ◌∷◌, ℕ, ◌<◌, length, Result, Err}
use Rattle.std.proofs.Math.Path.{refl}
use Rattle.std.proofs.Common.{sym, ◌∙◌}
use borrow.Author.Tests.{ne_eqb}
use Rattle.plan.specs.Limits.{most_cells}
use Rattle.plan.specs.Lists.{mem, some}
use Rattle.plan.specs.Plan.{Table}
use Rattle.plan.specs.Columns.{table_of}
use Rattle.plan.specs.Records.{cells_of}
use Rattle.plan.specs.declared.Record.{Record}
use Rattle.plan.specs.declared.Columns.{Columns}
use Rattle.plan.specs.Questions.{in_file, puts, refusal, answered, step_list, drill, drill_given}
use Rattle.plan.proofs.Laws.Crowded.{refusal-crowded, crowded_refuses}
use Rattle.plan.specs.declared.Refusal.{Refusal}
use Rattle.following.specs.Drilled.{drilled_of, list_after, Drills}
use Rattle.following.specs.declared.Drilled.{Drilled}
use Rattle.records.specs.Apart.{lent_columns}
use Rattle.records.proofs.Laws.Apart.{of-records}
use Rattle.entry_laws.proofs.Laws.Lent.{no}

module _ (bs xs xs' : List ℕ) (d : Result Drilled Refusal) where
  abbrev undrilled : Refusal
  undrilled = no (step_list (length xs) ∷ [])

  drilled_crowded : (u : Table) → most_cells < length u → drilled_of u bs (refusal drill (drill_given u (length bs) (length xs))) ≡ Err undrilled
  unfolding answered drill_given in_file puts mem some
  drilled_crowded u h = rw (refusal-crowded drill (drill_given u (length bs) (length xs)) (λ _. refl) refl refl h, ne_eqb undrilled.number 0 (crowded_refuses _))

  list-crowded : (u : Table) → most_cells < length u → list_after u bs (refusal drill (drill_given u (length bs) (length xs))) xs ≡ xs
  unfolding list_after drill_given in_file puts mem some
  list-crowded u h = rw (refusal-crowded drill (drill_given u (length bs) (length xs)) (λ _. refl) refl refl h, ne_eqb undrilled.number 0 (crowded_refuses _))

  drills_crowded : (u v : Table) → most_cells < length u → most_cells < length v → Drills u bs xs xs' d → Drills v bs xs xs' d
  drills_crowded u v p q g = record { answer = g.answer ∙ drilled_crowded u p ∙ sym (drilled_crowded v q); list = g.list ∙ list-crowded u p ∙ sym (list-crowded v q) }

module _ (t : List Record) (r : Columns) (e : r ≡ lent_columns t) where
  pub drill-lent : (bs xs xs' : List ℕ) (d : Result Drilled Refusal) → Drills (table_of r) bs xs xs' d → Drills (cells_of t) bs xs xs' d
  drill-lent bs xs xs' d h = of-records (λ u. Drills u bs xs xs' d) t (drills_crowded bs xs xs' d) (rw e at h)

-- From the columns of a lent table to its records: Frame answers the same. Nothing that a reader must believe stands here. Assumes nothing.
use Rattle.std.specs.Prelude.{◌≡◌, List, [], ◌∷◌, ℕ, ◌<◌, length, Option, Result, Err}
use Rattle.std.proofs.Math.Path.{refl}
use Rattle.std.proofs.Common.{sym, ◌∙◌}
use Rattle.plan.specs.Limits.{most_cells}
use Rattle.plan.specs.Lists.{mem, some}
use Rattle.plan.specs.Plan.{Table}
use Rattle.plan.specs.Columns.{table_of}
use Rattle.plan.specs.Records.{cells_of}
use Rattle.plan.specs.declared.Record.{Record}
use Rattle.plan.specs.declared.Columns.{Columns}
use Rattle.plan.specs.Questions.{scratch, in_file, puts, refusal, frame, frame_given}
use Rattle.plan.proofs.Laws.Crowded.{refusal-crowded, crowded_refuses}
use Rattle.plan.specs.declared.Refusal.{Refusal}
use Rattle.plan.proofs.Laws.Answered.{answered_some}
use Rattle.fitting.specs.Fitted as fitted
use Rattle.fitting.specs.Fitted.{Frames}
use Rattle.records.specs.Apart.{lent_columns}
use Rattle.records.proofs.Laws.Apart.{of-records}
use Rattle.entry_laws.proofs.Laws.Lent.{no}

module _ (f : ℕ) (s s' : List ℕ) (d : Result (Option ℕ) Refusal) where
  abbrev unfitted : Refusal
  unfitted = no (scratch (length s) ∷ [])

  fitted_crowded : (u : Table) → most_cells < length u → fitted.fitted_of u f (refusal frame (frame_given u f (length s))) ≡ Err unfitted
  unfolding fitted.fitted_of frame_given in_file puts mem some
  fitted_crowded u h = rw (refusal-crowded frame (frame_given u f (length s)) (λ _. refl) refl refl h) (answered_some unfitted _ (crowded_refuses _))

  frames-crowded : (u v : Table) → most_cells < length u → most_cells < length v → Frames u f s s' d → Frames v f s s' d
  frames-crowded u v p q g = record { answers = g.answers ∙ fitted_crowded u p ∙ sym (fitted_crowded v q); scratch = g.scratch }

module _ (t : List Record) (r : Columns) (e : r ≡ lent_columns t) where
  pub frame-lent : (f : ℕ) (s s' : List ℕ) (d : Result (Option ℕ) Refusal) → Frames (table_of r) f s s' d → Frames (cells_of t) f s s' d
  frame-lent f s s' d h = of-records (λ u. Frames u f s s' d) t (frames-crowded f s s' d) (rw e at h)

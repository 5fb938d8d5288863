-- From the columns of a lent table to its records: Mark answers the same. Nothing that a reader must believe stands here. Assumes nothing.
use Rattle.std.specs.Prelude.{◌≡◌, List, [], ◌∷◌, ℕ, ◌<◌, length, ℤ, Result, Err}
use Rattle.std.proofs.Math.Path.{refl}
use Rattle.std.proofs.Common.{sym, ◌∙◌}
use Rattle.plan.specs.Limits.{most_cells}
use Rattle.plan.specs.Lists.{mem, some}
use Rattle.plan.specs.Plan.{Table}
use Rattle.plan.specs.Columns.{table_of}
use Rattle.plan.specs.Records.{cells_of}
use Rattle.plan.specs.declared.Record.{Record}
use Rattle.plan.specs.declared.Columns.{Columns}
use Rattle.plan.specs.Questions.{scratch, in_file, puts, refusal, mark, mark_given}
use Rattle.plan.proofs.Laws.Answered.{answered_some}
use Rattle.plan.proofs.Laws.Crowded.{refusal-crowded, crowded_refuses}
use Rattle.plan.specs.declared.Refusal.{Refusal}
use Rattle.mark_spec.specs.Marked.{marked_of, Marks}
use Rattle.mark_spec.specs.declared.Marked.{Marked}
use Rattle.records.specs.Apart.{lent_columns}
use Rattle.records.proofs.Laws.Apart.{of-records}
use Rattle.entry_laws.proofs.Laws.Lent.{no}

module _ (ps : List ℤ) (al : ℕ) (s s' : List ℕ) (d : Result Marked Refusal) where
  abbrev unmarked : Refusal
  unmarked = no (scratch (length s) ∷ [])

  marked-crowded : (u : Table) → most_cells < length u → marked_of u ps al (refusal mark (mark_given u ps al (length s))) ≡ Err unmarked
  unfolding marked_of mark_given in_file puts mem some
  marked-crowded u h = rw (refusal-crowded mark (mark_given u ps al (length s)) (λ _. refl) refl refl h) (answered_some unmarked _ (crowded_refuses _))

  marks_crowded : (u v : Table) → most_cells < length u → most_cells < length v → Marks u ps al s s' d → Marks v ps al s s' d
  marks_crowded u v p q g = record { answers = g.answers ∙ marked-crowded u p ∙ sym (marked-crowded v q); scratch = g.scratch }

  pub mark-lent : (t : List Record) (r : Columns) → r ≡ lent_columns t → Marks (table_of r) ps al s s' d → Marks (cells_of t) ps al s s' d
  mark-lent t r e h = of-records (λ u. Marks u ps al s s' d) t marks_crowded (rw e at h)

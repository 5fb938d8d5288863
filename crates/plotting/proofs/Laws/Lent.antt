-- From the columns of a lent table to its records: the call answers the same. Nothing that a reader must believe stands here. Assumes nothing.
use Rattle.std.specs.Prelude.{◌≡◌, refl, List, [], ℕ, ◌<◌, length, ℤ, Result, Err}
use Rattle.std.proofs.Common.{sym, ◌∙◌}
use Rattle.plan.specs.Limits.{most_cells}
use Rattle.plan.specs.Lists.{mem, some}
use Rattle.plan.specs.Plan.{Table}
use Rattle.plan.specs.Columns.{table_of}
use Rattle.plan.specs.Records.{cells_of}
use Rattle.plan.specs.Questions.{in_file, puts, stroke, stroke_given}
use Rattle.plan.proofs.Laws.Crowded.{refusal-crowded, crowded_refuses}
use Rattle.plan.specs.declared.Columns.{Columns}
use Rattle.plan.specs.declared.Page.{Page}
use Rattle.plan.specs.declared.Record.{Record}
use Rattle.plan.specs.declared.Refusal.{Refusal}
use Rattle.plan.proofs.Laws.Answered.{answered_some}
use Rattle.pen.specs.declared.Stroke.{Stroke}
use Rattle.records.specs.Apart.{lent_columns}
use Rattle.records.proofs.Laws.Apart.{of-records}
use Rattle.strokes.specs.Stroked.{stroked_of}
use Rattle.entry_laws.proofs.Laws.Lent.{no}

stroke-crowded : (ps : List ℤ) (g : Page) (s : ℕ) (u : Table) → most_cells < length u → stroked_of u ps g s ≡ Err (no [])
unfolding stroked_of stroke_given in_file puts mem some
stroke-crowded ps g s u h = rw (refusal-crowded stroke (stroke_given u ps g s) (λ _. refl) refl refl h) (answered_some _ _ (crowded_refuses _))

pub stroke-lent : (t : List Record) (r : Columns) → r ≡ lent_columns t → (ps : List ℤ) (g : Page) (s : ℕ) (d : Result Stroke Refusal)
    → d ≡ stroked_of (table_of r) ps g s → d ≡ stroked_of (cells_of t) ps g s
stroke-lent t r e ps g s d h =
    of-records (λ u. d ≡ stroked_of u ps g s) t (λ u v p q k. k ∙ stroke-crowded ps g s u p ∙ sym (stroke-crowded ps g s v q)) (rw e at h)

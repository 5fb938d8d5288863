-- Report's answer, and what Read, Layout and Pool say of it. Assumes nothing.
use Rattle.std.specs.Prelude.{◌≡◌, List, [], ◌∷◌, ℕ, T, ℤ, length, Result, Ok, Err}
use Rattle.std.proofs.Common.{sym, ap, ◌∙◌, arith}
use Rattle.plan.specs.Questions.{none, layout, refusal, layout_given}
use Rattle.plan.proofs.Laws.Answered.{answered_none, answered_some}
use Rattle.plan.specs.declared.Record.{Record}
use Rattle.plan.specs.declared.Refusal.{Refusal}
use Rattle.planfile_spec.specs.Format.{trailer_of}
use Rattle.planfile_spec.proofs.Laws.File as Law
use Rattle.planfile_spec.proofs.Laws.ReadThenCalls.{read-then-layout}
use Rattle.layout.specs.Laid.{laid_of, positions_after, scratch_after, Lays}
use Rattle.season.specs.Report.{report}
use Rattle.season.specs.Pool.{sound}
use Rattle.season.proofs.Promised.{report-sound}
use Rattle.season.specs.declared.Report.{Report}
use Rattle.reporting.specs.Reporting.{file_table, figure_of, report_refusal, reported_of, table_left, scratch_left, positions_left, Reports}
use Rattle.reporting.proofs.Laws.Reporting.{room_enough, scratch-enough, positions_enough}
use Rattle.reporting.proofs.Laws.Folder.{as_read, real}
use Rattle.read_entry.specs.Read.{read_refusal, read_answered, table_after, Reads}

-- ---- the answer
module _ (f : List ℕ) (t t' : List Record) (s s' : List ℕ) (ps ps' : List ℤ) (r : Result Report Refusal) (g : Reports f t t' s s' ps ps' r) where
  abbrev why : Refusal
  why = report_refusal f (length t) (length s) (length ps)

  pub unchanged : ¬ (why.number ≡ 0) → (r ≡ Err why) × (t' ≡ t) × (s' ≡ s) × (ps' ≡ ps)
  unfolding reported_of table_left scratch_left positions_left
  unchanged z =
      let e : r ≡ Err why = g.answers ∙ answered_some why _ z in
      (e, g.table ∙ rw e, g.scratch ∙ rw e, g.positions ∙ rw e)

  module _ (e : why ≡ none) where
    z : why.number ≡ 0
    z = ap (λ (x : Refusal). x.number) e

    pub figures : r ≡ Ok (report (figure_of f ∷ []))
    unfolding reported_of
    figures = g.answers ∙ answered_none why _ z

    read-passes : read_refusal f (length t) ≡ none
    read-passes =
        sym (as_read f (length t) (length s) (length ps) (room_enough f (length t) (length s) (length ps) z) (scratch-enough f (length t) (length s) (length ps) z) (positions_enough f (length t) (length s) (length ps) z)) ∙ e

    -- as Read leaves the table,
    pub reads : Reads f t t' (Ok (record { count = (trailer_of f).count; allowance = (trailer_of f).allowance }))
    unfolding read_answered table_after table_left
    reads = record { answers = sym (answered_none (read_refusal f (length t)) _ (ap (λ (x : Refusal). x.number) read-passes)); table = g.table ∙ rw figures }

    laid : refusal layout (layout_given (file_table f) (trailer_of f).allowance (length s) (length ps)) ≡ none
    laid = read-then-layout f (length t) read-passes (length s) (length ps) (scratch-enough f (length t) (length s) (length ps) z) (positions_enough f (length t) (length s) (length ps) z)

    -- and as Layout leaves the scratch and the positions
    pub lays : Lays (file_table f) (trailer_of f).allowance s s' ps ps' (Ok (record { width = (figure_of f).width; rows = (figure_of f).rows }))
    unfolding laid_of positions_after scratch_after scratch_left positions_left figure_of
    lays = record {
      answers = sym (answered_none (refusal layout (layout_given (file_table f) (trailer_of f).allowance (length s) (length ps))) _ (ap (λ (x : Refusal). x.number) laid));
      positions = g.positions ∙ rw (figures, ← Law.cells-length f);
      scratch = g.scratch ∙ rw figures;
    }

    -- 22 does not refuse it
    pub passes_22 : T (sound (report (figure_of f ∷ [])))
    passes_22 = report-sound (figure_of f ∷ []) (real f (length t) (length s) (length ps) e) (omega arith)

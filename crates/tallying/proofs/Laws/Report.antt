-- From a draft to Report's answer: for the code. Nothing that a reader must believe stands here. Assumes nothing.
use Rattle.std.specs.Prelude.{◌≡◌, List, [], ◌∷◌, ℕ, ◌≤◌, ℤ, length, Result, Ok, Err, IsErrAnd}
use Rattle.std.proofs.Math.Path.{sym, ap}
use Rattle.std.proofs.Common.{◌∙◌, arith}
use Rattle.plan.specs.Limits.{most_cells}
use Rattle.plan.specs.Questions.{none}
use Rattle.plan.proofs.Laws.Answered.{answered_none, answered_some, refused_by, not_refused, answers_err}
use Rattle.plan.specs.declared.Record.{Record}
use Rattle.plan.specs.declared.Refusal.{Refusal}
use Rattle.planfile_spec.specs.Format.{trailer_of, entry}
use Rattle.planfile_spec.specs.Reading.{columns_of}
use Rattle.planfile_spec.proofs.Laws.Answer.{err_passes}
use Rattle.records.specs.Together.{as_reading, filled}
use Rattle.records.proofs.Laws.Together.{filled_cells}
use Rattle.season.specs.Report.{report}
use Rattle.season.specs.declared.Report.{Report}
use Rattle.reporting.specs.Reporting.{figure_of, report_refusal, reported_of, table_left, scratch_left, positions_left, file_plan, draft_of, report_of, Reports, Drafts}
use Rattle.reporting.proofs.Laws.Reporting.{room_enough, count_few}
use Rattle.reporting.specs.declared.Draft.{Draft}
use Rattle.entry_laws.proofs.Laws.Filled.{plan-records}

module _ (f : List ℕ) (t : List Record) (s s' : List ℕ) (ps ps' : List ℤ) where
  abbrev stop : Refusal
  stop = report_refusal f (length t) (length s) (length ps)

  -- ---- a question refuses the file
  pub refused_reports : (e : Refusal) (y : Result Report Refusal) → Drafts f (length t) s s' ps ps' (Err e) → IsErrAnd y (λ x. x ≡ e) → Reports f t t s s' ps ps' y
  unfolding reported_of table_left scratch_left positions_left report_of
  refused_reports e y g p =
      let a = answers_err (report (figure_of f ∷ [])) stop e y (err_passes stop (draft_of f) e g.answers) p in
      let q : y ≡ Err stop = a ∙ answered_some stop _ (refused_by stop (draft_of f) e g.answers).1 in
      record { answers = a; table = rw q; scratch = rw q g.scratch; positions = rw q g.positions }

  -- ---- none refuses it
  module _ (d : Draft) (g : Drafts f (length t) s s' ps ps' (Ok d)) where
    passed : stop.number ≡ 0
    passed = not_refused stop (draft_of f) d g.answers

    draft-is : d ≡ draft_of f
    draft-is = cc (g.answers ∙ answered_none stop (draft_of f) passed)

    count-is : d.plan.cells.columns.count ≡ (trailer_of f).count
    unfolding draft_of file_plan columns_of
    count-is = ap (λ (x : Draft). x.plan.cells.columns.count) draft-is

    pub draft_fits : (d.plan.cells.columns.count ≤ length t) × (d.plan.cells.columns.count ≤ most_cells)
    draft_fits =
        let r = room_enough f (length t) (length s) (length ps) passed in
        let n = count_few f (length t) (length s) (length ps) passed in
        (omega (arith, count-is), omega (arith, count-is))

    pub draft_reports : (t' : List Record) → t' ≡ filled (as_reading d.plan.cells) d.plan.cells.columns.count t → Reports f t t' s s' ps ps' (Ok d.report)
    unfolding reported_of table_left report_of scratch_left positions_left draft_of file_plan columns_of
    draft_reports t' h =
        record {
          answers = ap (λ (x : Draft). Ok x.report) draft-is ∙ sym (answered_none stop (report (figure_of f ∷ [])) passed);
          table =
              h ∙ ap (λ (x : Draft). filled (as_reading x.plan.cells) x.plan.cells.columns.count t) draft-is
              ∙ filled_cells (columns_of none (trailer_of f).allowance (trailer_of f).count (entry f)) (trailer_of f).count t
              ∙ plan-records f (count_few f (length t) (length s) (length ps) passed) t (room_enough f (length t) (length s) (length ps) passed);
          scratch = g.scratch;
          positions = g.positions;
        }

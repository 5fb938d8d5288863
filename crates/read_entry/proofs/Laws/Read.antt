-- From a plan to Read's answer: for the code. Nothing that a reader must believe stands here. Assumes nothing.
use Rattle.std.specs.Prelude.{◌≡◌, List, Result, Ok, Err, IsErrAnd, ℕ, ◌≤◌, leb, length}
use Rattle.std.proofs.Common.{sym, ap, ◌∙◌, leb→le}
use native.Mathlib.Omega.{arith}
use Rattle.plan.specs.Limits.{most_cells}
use Rattle.plan.specs.Questions.{none, asked}
use Rattle.plan.proofs.Laws.Questions.{both-none, asked_yes}
use Rattle.plan.proofs.Laws.Answered.{answered_none, answered_some, refused_by, not_refused, answers_err}
use Rattle.plan.specs.declared.Record.{Record}
use Rattle.plan.specs.declared.Refusal.{Refusal}
use Rattle.planfile_spec.specs.declared.PlanFile.{PlanFile}
use Rattle.planfile_spec.specs.Format.{trailer_of, entry}
use Rattle.planfile_spec.specs.Read.{Reading, plan_of, answer_of}
use Rattle.planfile_spec.specs.Reading.{columns_of, reading_of}
use Rattle.planfile_spec.specs.FileSteps.{header_refusal, body_refusal, file_refusal}
use Rattle.planfile_spec.proofs.Laws.File as Law
use Rattle.planfile_spec.proofs.Laws.Examined.{header_read}
use Rattle.planfile_spec.proofs.Laws.Answer.{read_answer, err_passes}
use Rattle.records.specs.Together.{as_reading, filled}
use Rattle.records.proofs.Laws.Together.{filled_cells}
use Rattle.entry_laws.proofs.Laws.Filled.{plan-records}
use Rattle.read_entry.specs.declared.ReadPlan.{ReadPlan}
use Rattle.read_entry.specs.Read.{read_refusal, read_answered, table_after, Reads}

module _ (f : List ℕ) (t : List Record) where
  abbrev stop : Refusal
  stop = read_refusal f (length t)

  abbrev plan : Reading
  plan = columns_of none (trailer_of f).allowance (trailer_of f).count (entry f)

  abbrev answer : ReadPlan
  answer = record { count = (trailer_of f).count; allowance = (trailer_of f).allowance }

  -- ---- a question refuses the file
  pub refused_reads : (e : Refusal) (y : Result ReadPlan Refusal) → Err e ≡ answer_of (reading_of f (length t)) → IsErrAnd y (λ d. d ≡ e) → Reads f t t y
  unfolding read_answered table_after
  refused_reads e y h p =
      let g = h ∙ read_answer f (length t) in
      let a = answers_err answer stop e y (err_passes stop (plan_of plan) e g) p in
      let q : y ≡ Err stop = a ∙ answered_some stop answer (refused_by stop (plan_of plan) e g).1 in
      record { answers = a; table = rw q }

  -- ---- none refuses it
  module _ (p : PlanFile) (h : Ok p ≡ answer_of (reading_of f (length t))) where
    passed : stop.number ≡ 0
    passed = not_refused stop (plan_of plan) p (h ∙ read_answer f (length t))

    plan-is : p ≡ plan_of plan
    plan-is = let e : Ok p ≡ Ok (plan_of plan) = h ∙ read_answer f (length t) ∙ answered_none stop (plan_of plan) passed in cc

    count-is : p.cells.columns.count ≡ (trailer_of f).count
    unfolding columns_of
    count-is = rw plan-is

    -- what the questions settle: the table's length, and the number of cells
    fits : (most_cells ≤ length t) × ((trailer_of f).count ≤ most_cells)
    unfolding file_refusal
    fits =
        let (a, b) = both-none (asked 1 (leb most_cells (length t)) 0) (file_refusal f) (ap (λ (x : Refusal). x.number) (sym (Law.read_refusal f (length t))) ∙ passed) in
        (leb→le most_cells (length t) (asked_yes 0 _ 0 a), (header_read f (both-none (header_refusal f) (body_refusal f) b).0).full.few)

    pub count_fits : (p.cells.columns.count ≤ length t) × (p.cells.columns.count ≤ most_cells)
    count_fits = rw count-is (let h = fits in (omega arith, h.1))

    pub plan_reads : (t' : List Record) → t' ≡ filled (as_reading p.cells) p.cells.columns.count t → Reads f t t' (Ok (record { count = p.cells.columns.count; allowance = p.allowance }))
    unfolding read_answered table_after columns_of
    plan_reads t' e =
        record {
          answers = rw plan-is (sym (answered_none stop answer passed));
          table = e ∙ rw plan-is (filled_cells plan (trailer_of f).count t ∙ plan-records f fits.1 t fits.0);
        }

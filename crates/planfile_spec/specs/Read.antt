-- What Read answers: a refusal, or a plan. Assumes nothing.
use Rattle.std.specs.Prelude.{List, ℕ, Result}
use Rattle.plan.specs.Questions.{none, answered}
use Rattle.plan.specs.declared.Columns.{Columns}
use Rattle.plan.specs.declared.Refusal.{Refusal}
use Rattle.planfile_spec.specs.declared.PlanFile.{PlanFile}

-- a refusal and no cell; or a refusal of 0 and 0, the allowance and the records in columns, zeros after them
pub record Reading : Type 0 where
  pub refusal : Refusal
  pub allowance : ℕ
  pub columns : Columns
  pub label_length : List ℕ
  pub label_start : List ℕ

-- the plan of a reading, and a plan as a reading that nothing refuses
abbrev pub plan_of : Reading → PlanFile
plan_of r = record { allowance = r.allowance; cells = record { columns = r.columns; label_length = r.label_length; label_start = r.label_start } }

abbrev pub reading : PlanFile → Reading
reading p = record { refusal = none; allowance = p.allowance; columns = p.cells.columns; label_length = p.cells.label_length; label_start = p.cells.label_start }

-- a reading as code answers it
abbrev pub answer_of : Reading → Result PlanFile Refusal
answer_of r = answered r.refusal (plan_of r)

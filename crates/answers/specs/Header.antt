-- THE STRUCTS OF include/kuzpalen.h, held against the header: a row for every case of every struct, its fields in the header's order; and what a struct says by the header's words. Assumes nothing.
use Rattle.std.specs.Prelude.{◌≡◌, refl, List, [], ◌∷◌, ℕ, zero, suc, ℤ, pos, negsuc, Float, Option as Optional, Some, None, Result, Ok, Err, ⊤}
use Rattle.std.proofs.Math.Option.{Option, none, some}
use Rattle.std.specs.Float.{binary64}
use Rattle.std.specs.Float.Ieee.{of_bits}
use Rattle.plan.specs.declared.Refusal.{Refusal}
use Rattle.plan.specs.declared.Measures.{Measures}
use Rattle.checker.specs.declared.Verdict.{Verdict}
use Rattle.checker.specs.declared.Verdict.TheVariants.{Kept, Broken}
use Rattle.ends.specs.declared.Ended.{Ended}
use Rattle.mark_spec.specs.declared.Marked.{Marked}
use Rattle.mark_spec.specs.Marked.{full_of, wide_of, broken_of}
use Rattle.mending.specs.declared.Mended.{Mended}
use Rattle.pen.specs.declared.Stroke.{Stroke}
use Rattle.pen.specs.declared.Stroke.TheVariants.{Move, Line, Lift}
use Rattle.following.specs.declared.Drilled.{Drilled}
use Rattle.following.specs.declared.Drilled.TheVariants.{Finished, Spent, Wrong, Full}
use Rattle.finishing_reach.specs.declared.Sides.{Sides}
use Rattle.read_entry.specs.declared.ReadPlan.{ReadPlan}
use Rattle.season.specs.Report.{nothing}
use Rattle.season.specs.declared.Report.{Report}
use Rattle.answers.specs.declared.ReadAnswer.{ReadAnswer}
use Rattle.answers.specs.declared.LayoutAnswer.{LayoutAnswer}
use Rattle.answers.specs.declared.CheckAnswer.{CheckAnswer}
use Rattle.answers.specs.declared.EndsAnswer.{EndsAnswer}
use Rattle.answers.specs.declared.ListAnswer.{ListAnswer}
use Rattle.answers.specs.declared.FrameAnswer.{FrameAnswer}
use Rattle.answers.specs.declared.MarkAnswer.{MarkAnswer}
use Rattle.answers.specs.declared.CopyAnswer.{CopyAnswer}
use Rattle.answers.specs.declared.MendAnswer.{MendAnswer}
use Rattle.answers.specs.declared.StrokeAnswer.{StrokeAnswer}
use Rattle.answers.specs.declared.StripAnswer.{StripAnswer}
use Rattle.answers.specs.declared.JoinAnswer.{JoinAnswer}
use Rattle.answers.specs.declared.DrillAnswer.{DrillAnswer}
use Rattle.answers.specs.declared.StartAnswer.{StartAnswer}
use Rattle.answers.specs.declared.StepAnswer.{StepAnswer}
use Rattle.answers.specs.declared.ReachAnswer.{ReachAnswer}
use Rattle.answers.specs.declared.ReportAnswer.{ReportAnswer}
use Rattle.answers.specs.Answers.{read_answer, laid_answer, check_answer, ends_answer, list_answer, frame_answer, mark_answer, copy_answer, mend_answer, pen_answer, stroke_answer, strip_answer, join_answer, drill_answer, start_answer, step_answer, reach_answer, report_answer}

-- ---- the rows

-- a refusal as an answer
abbrev pub refusing : {A : Type 0} → (number cell : ℕ) → Result A Refusal
refusing k c = Err (record { number = k; cell = c })

-- the fields of each struct, in the header's order
abbrev pub read : ReadAnswer → ℕ × ℕ × ℕ × ℕ
read r = (r.number, r.cell, r.allowance, r.count)

abbrev pub layout : LayoutAnswer → ℕ × ℕ × ℕ × ℕ
layout r = (r.number, r.cell, r.width, r.rows)

abbrev pub check : CheckAnswer → ℕ × ℕ × ℕ × ℕ × ℕ × ℕ × ℕ
check r = (r.number, r.cell, r.rule, r.a, r.b, r.width, r.rows)

abbrev pub ends : EndsAnswer → ℕ × ℕ × ℤ × ℤ × ℤ × ℤ
ends r = (r.number, r.cell, r.from_x, r.from_y, r.to_x, r.to_y)

abbrev pub listing : ListAnswer → ℕ × ℕ × ℕ
listing r = (r.number, r.cell, r.length)

abbrev pub frame : FrameAnswer → ℕ × ℕ × ℕ × ℕ
frame r = (r.number, r.cell, r.outcome, r.allowance)

abbrev pub mark : MarkAnswer → ℕ × ℕ × ℕ × ℕ × ℕ × ℕ × ℕ × ℕ × ℕ
mark r = (r.number, r.cell, r.outcome, r.rule, r.a, r.b, r.width, r.least, r.rows)

abbrev pub copy : CopyAnswer → ℕ × ℕ × ℕ
copy r = (r.number, r.cell, r.length)

abbrev pub mend : MendAnswer → ℕ × ℕ × ℕ × ℕ
mend r = (r.number, r.cell, r.length, r.lines)

abbrev pub stroke : StrokeAnswer → ℕ × ℕ × ℕ × Float × Float
stroke r = (r.number, r.cell, r.what, r.x, r.y)

abbrev pub strip : StripAnswer → ℕ × ℕ
strip r = (r.number, r.cell)

abbrev pub join : JoinAnswer → ℕ × ℕ × ℕ
join r = (r.number, r.cell, r.count)

abbrev pub drill : DrillAnswer → ℕ × ℕ × ℕ × ℕ × ℕ
drill r = (r.number, r.cell, r.outcome, r.used, r.records)

abbrev pub start : StartAnswer → ℕ × ℕ
start r = (r.number, r.cell)

abbrev pub step : StepAnswer → ℕ × ℕ × ℕ × ℕ
step r = (r.number, r.cell, r.outcome, r.finished)

abbrev pub reach : ReachAnswer → ℕ × ℕ × ℕ × ℕ
reach r = (r.number, r.cell, r.left, r.right)

abbrev pub folder : Report → ℕ × ℕ × ℕ × ℕ × ℕ × ℕ × ℕ × ℕ
folder f = (f.plans, f.cells, f.widths, f.areas, f.least, f.greatest, f.mean, f.rest)

abbrev pub report : ReportAnswer → ℕ × ℕ × (ℕ × ℕ × ℕ × ℕ × ℕ × ℕ × ℕ × ℕ)
report r = (r.number, r.cell, folder r.report)

-- a double by its bits
abbrev pub double : ℕ → Float
double = of_bits binary64

-- an answer, then the struct. 8 3 is a refusal by question 8 at cell 3; the codes are the header's KUZPALEN_FRAME_, MARK_, STROKE_, DRILL_ and STEP_ constants
pub rows :
    (read (read_answer (Ok (record { count = 9; allowance = 4 }))) ≡ (0, 0, 4, 9))
    × (read (read_answer (refusing 8 3)) ≡ (8, 3, 0, 0))
    × (layout (laid_answer (Ok (record { width = 9; rows = 4 }))) ≡ (0, 0, 9, 4))
    × (layout (laid_answer (refusing 8 3)) ≡ (8, 3, 0, 0))
    × (check (check_answer (Ok (Kept (record { width = 9; rows = 4 })))) ≡ (0, 0, 0, 0, 0, 9, 4))
    × (check (check_answer (Ok (Broken (record { rule = 5; a = 6; b = 7 })))) ≡ (0, 0, 5, 6, 7, 0, 0))
    × (check (check_answer (refusing 8 3)) ≡ (8, 3, 0, 0, 0, 0, 0))
    × (ends (ends_answer (Ok (record { from_x = pos 5; from_y = negsuc 6; to_x = pos 7; to_y = negsuc 9 }))) ≡ (0, 0, pos 5, negsuc 6, pos 7, negsuc 9))
    × (ends (ends_answer (refusing 8 3)) ≡ (8, 3, pos 0, pos 0, pos 0, pos 0))
    × (listing (list_answer (Ok 9)) ≡ (0, 0, 9))
    × (listing (list_answer (refusing 8 3)) ≡ (8, 3, 0))
    × (frame (frame_answer (Ok (Some 9))) ≡ (0, 0, 1, 9))
    × (frame (frame_answer (Ok None)) ≡ (0, 0, 2, 0))
    × (frame (frame_answer (refusing 8 3)) ≡ (8, 3, 0, 0))
    × (mark (mark_answer (Ok (full_of 9 4))) ≡ (0, 0, 1, 0, 0, 0, 9, 0, 4))
    × (mark (mark_answer (Ok (wide_of 9 7 4))) ≡ (0, 0, 2, 0, 0, 0, 9, 7, 4))
    × (mark (mark_answer (Ok (broken_of 5 6 7))) ≡ (0, 0, 3, 5, 6, 7, 0, 0, 0))
    × (mark (mark_answer (refusing 8 3)) ≡ (8, 3, 0, 0, 0, 0, 0, 0, 0))
    × (copy (copy_answer (Ok 9)) ≡ (0, 0, 9))
    × (copy (copy_answer (refusing 8 3)) ≡ (8, 3, 0))
    × (mend (mend_answer (Ok (record { file = 9; lines = 4 }))) ≡ (0, 0, 9, 4))
    × (mend (mend_answer (refusing 8 3)) ≡ (8, 3, 0, 0))
    × (stroke (stroke_answer (Ok (Move (double 9) (double 4)))) ≡ (0, 0, 1, double 9, double 4))
    × (stroke (stroke_answer (Ok (Line (double 9) (double 4)))) ≡ (0, 0, 2, double 9, double 4))
    × (stroke (stroke_answer (Ok Lift)) ≡ (0, 0, 3, double 0, double 0))
    × (stroke (stroke_answer (refusing 8 3)) ≡ (8, 3, 0, double 0, double 0))
    × (strip (strip_answer (Ok tt)) ≡ (0, 0))
    × (strip (strip_answer (refusing 8 3)) ≡ (8, 3))
    × (join (join_answer (Ok 9)) ≡ (0, 0, 9))
    × (join (join_answer (refusing 8 3)) ≡ (8, 3, 0))
    × (drill (drill_answer (Ok (Finished 9 4))) ≡ (0, 0, 1, 9, 4))
    × (drill (drill_answer (Ok (Spent 9 4))) ≡ (0, 0, 2, 9, 4))
    × (drill (drill_answer (Ok (Wrong 9 4))) ≡ (0, 0, 3, 9, 4))
    × (drill (drill_answer (Ok (Full 9 4))) ≡ (0, 0, 4, 9, 4))
    × (drill (drill_answer (refusing 8 3)) ≡ (8, 3, 0, 0, 0))
    × (start (start_answer (Ok tt)) ≡ (0, 0))
    × (start (start_answer (refusing 8 3)) ≡ (8, 3))
    × (step (step_answer (Ok (Some 9))) ≡ (0, 0, 1, 9))
    × (step (step_answer (Ok None)) ≡ (0, 0, 2, 0))
    × (step (step_answer (refusing 8 3)) ≡ (8, 3, 0, 0))
    × (reach (reach_answer (Ok (record { left = 9; right = 4 }))) ≡ (0, 0, 9, 4))
    × (reach (reach_answer (refusing 8 3)) ≡ (8, 3, 0, 0))
    × (report (report_answer (Ok (record { plans = 1; cells = 2; widths = 3; areas = 4; least = 5; greatest = 6; mean = 7; rest = 9 }))) ≡ (0, 0, (1, 2, 3, 4, 5, 6, 7, 9)))
    × (report (report_answer (refusing 8 3)) ≡ (8, 3, (0, 0, 0, 0, 0, 0, 0, 0)))
unfolding read_answer laid_answer check_answer ends_answer list_answer frame_answer mark_answer copy_answer mend_answer pen_answer stroke_answer strip_answer join_answer drill_answer start_answer step_answer reach_answer report_answer nothing
rows = (refl, refl, refl, refl, refl, refl, refl, refl, refl, refl, refl, refl, refl, refl, refl, refl, refl, refl, refl, refl, refl, refl, refl, refl, refl, refl, refl, refl, refl, refl, refl, refl, refl, refl, refl, refl, refl, refl, refl, refl, refl, refl, refl, refl)

-- ---- what a struct says: first whether it is a refusal, then by its code which case, then the fields of the case

-- "0, or the number of": 0 says the other thing, and any other number what it numbers, with its cell
unfoldable pub numbered : {A : Type 0} → (ℕ → ℕ → A) → (number cell : ℕ) → A → A
numbered this zero c other = other
numbered this (suc k) c other = this (suc k) c

-- the case that a code says, 1 the first; another code says nothing
unfoldable pub coded : {A : Type 0} → (code : ℕ) → List A → Option A
coded k [] = none
coded zero (a ∷ l) = none
coded (suc zero) (a ∷ l) = some a
coded (suc (suc k)) (a ∷ l) = coded (suc k) l

-- a refusal by its number and cell, else the case of the code; 1 for a struct that has no code
abbrev pub said : {A : Type 0} → (ℕ → ℕ → A) → (number cell code : ℕ) → List A → Option A
said refused k c code cases = numbered (λ k c. some (refused k c)) k c (coded code cases)

abbrev pub said_read : ReadAnswer → Option (Result ReadPlan Refusal)
said_read r = said refusing r.number r.cell 1 (Ok (record { count = r.count; allowance = r.allowance }) ∷ [])

abbrev pub said_layout : LayoutAnswer → Option (Result Measures Refusal)
said_layout r = said refusing r.number r.cell 1 (Ok (record { width = r.width; rows = r.rows }) ∷ [])

-- rule: 0 for "kept"
abbrev pub said_check : CheckAnswer → Option (Result Verdict Refusal)
said_check r = said refusing r.number r.cell 1 (Ok (numbered (λ k a. Broken (record { rule = k; a = a; b = r.b })) r.rule r.a (Kept (record { width = r.width; rows = r.rows }))) ∷ [])

abbrev pub said_ends : EndsAnswer → Option (Result Ended Refusal)
said_ends r = said refusing r.number r.cell 1 (Ok (record { from_x = r.from_x; from_y = r.from_y; to_x = r.to_x; to_y = r.to_y }) ∷ [])

abbrev pub said_list : ListAnswer → Option (Result ℕ Refusal)
said_list r = said refusing r.number r.cell 1 (Ok r.length ∷ [])

abbrev pub said_frame : FrameAnswer → Option (Result (Optional ℕ) Refusal)
said_frame r = said refusing r.number r.cell r.outcome (Ok (Some r.allowance) ∷ Ok None ∷ [])

abbrev pub said_mark : MarkAnswer → Option (Result Marked Refusal)
said_mark r = said refusing r.number r.cell r.outcome (Ok (full_of r.width r.rows) ∷ Ok (wide_of r.width r.least r.rows) ∷ Ok (broken_of r.rule r.a r.b) ∷ [])

abbrev pub said_copy : CopyAnswer → Option (Result ℕ Refusal)
said_copy r = said refusing r.number r.cell 1 (Ok r.length ∷ [])

abbrev pub said_mend : MendAnswer → Option (Result Mended Refusal)
said_mend r = said refusing r.number r.cell 1 (Ok (record { file = r.length; lines = r.lines }) ∷ [])

abbrev pub said_stroke : StrokeAnswer → Option (Result Stroke Refusal)
said_stroke r = said refusing r.number r.cell r.what (Ok (Move r.x r.y) ∷ Ok (Line r.x r.y) ∷ Ok Lift ∷ [])

abbrev pub said_strip : StripAnswer → Option (Result ⊤ Refusal)
said_strip r = said refusing r.number r.cell 1 (Ok tt ∷ [])

abbrev pub said_join : JoinAnswer → Option (Result ℕ Refusal)
said_join r = said refusing r.number r.cell 1 (Ok r.count ∷ [])

abbrev pub said_drill : DrillAnswer → Option (Result Drilled Refusal)
said_drill r = said refusing r.number r.cell r.outcome (Ok (Finished r.used r.records) ∷ Ok (Spent r.used r.records) ∷ Ok (Wrong r.used r.records) ∷ Ok (Full r.used r.records) ∷ [])

abbrev pub said_start : StartAnswer → Option (Result ⊤ Refusal)
said_start r = said refusing r.number r.cell 1 (Ok tt ∷ [])

abbrev pub said_step : StepAnswer → Option (Result (Optional ℕ) Refusal)
said_step r = said refusing r.number r.cell r.outcome (Ok (Some r.finished) ∷ Ok None ∷ [])

abbrev pub said_reach : ReachAnswer → Option (Result Sides Refusal)
said_reach r = said refusing r.number r.cell 1 (Ok (record { left = r.left; right = r.right }) ∷ [])

abbrev pub said_report : ReportAnswer → Option (Result Report Refusal)
said_report r = said refusing r.number r.cell 1 (Ok r.report ∷ [])

-- The answers of the calls as structs of numbers: a case's own numbers, and 0 for all that it does not have. Assumes nothing.
use Rattle.std.specs.Prelude.{◌≡◌, List, ℕ, ℤ, pos, Float, Option, Some, None, Result, Ok, Err, ⊤}
use Rattle.std.specs.Float.{binary64}
use Rattle.std.specs.Float.Ieee.{of_bits}
use Rattle.plan.specs.Plan.{Table}
use Rattle.plan.specs.declared.Record.{Record}
use Rattle.plan.specs.declared.Refusal.{Refusal}
use Rattle.plan.specs.declared.Measures.{Measures}
use Rattle.layout.specs.Laid.{Lays}
use Rattle.checker.specs.declared.Verdict.{Verdict}
use Rattle.checker.specs.declared.Verdict.TheVariants.{Kept, Broken}
use Rattle.ends.specs.declared.Ended.{Ended}
use Rattle.printing.specs.Printing.{Lists}
use Rattle.fitting.specs.Fitted.{Frames}
use Rattle.mark_spec.specs.Marked.{Marks}
use Rattle.mark_spec.specs.declared.Marked.{Marked}
use Rattle.mark_spec.specs.declared.Marked.TheVariants.{Full as FullMarks, Wide, Broken as BrokenMark}
use Rattle.copying.specs.Copied.{Copies}
use Rattle.mending.specs.Mending.{Mends}
use Rattle.mending.specs.declared.Mended.{Mended}
use Rattle.pen.specs.declared.Stroke.{Stroke}
use Rattle.pen.specs.declared.Stroke.TheVariants.{Move, Line, Lift}
use Rattle.strips.specs.Stripped.{Strips}
use Rattle.following.specs.Drilled.{Drills}
use Rattle.following.specs.declared.Drilled.{Drilled}
use Rattle.following.specs.declared.Drilled.TheVariants.{Finished, Spent, Wrong, Full}
use Rattle.finishing.specs.Finishing.{Starts}
use Rattle.finishing_reach.specs.Reaching.{Reaches}
use Rattle.finishing_step.specs.Stepping.{Steps}
use Rattle.finishing_reach.specs.declared.Sides.{Sides}
use Rattle.read_entry.specs.Read.{Reads}
use Rattle.read_entry.specs.declared.ReadPlan.{ReadPlan}
use Rattle.answers.specs.declared.ReadAnswer.{ReadAnswer}
use Rattle.answers.specs.declared.LayoutAnswer.{LayoutAnswer}
use Rattle.answers.specs.declared.CheckAnswer.{CheckAnswer}
use Rattle.answers.specs.declared.EndsAnswer.{EndsAnswer}
use Rattle.answers.specs.declared.ListAnswer.{ListAnswer}
use Rattle.answers.specs.declared.FrameAnswer.{FrameAnswer}
use Rattle.answers.specs.declared.MarkAnswer.{MarkAnswer}
use Rattle.answers.specs.declared.MendAnswer.{MendAnswer}
use Rattle.answers.specs.declared.CopyAnswer.{CopyAnswer}
use Rattle.answers.specs.declared.StrokeAnswer.{StrokeAnswer}
use Rattle.answers.specs.declared.StripAnswer.{StripAnswer}
use Rattle.answers.specs.declared.JoinAnswer.{JoinAnswer}
use Rattle.grafting.specs.Joins.{Joins}
use Rattle.answers.specs.declared.DrillAnswer.{DrillAnswer}
use Rattle.answers.specs.declared.StartAnswer.{StartAnswer}
use Rattle.answers.specs.declared.StepAnswer.{StepAnswer}
use Rattle.answers.specs.declared.ReachAnswer.{ReachAnswer}
use Rattle.season.specs.Report.{nothing}
use Rattle.season.specs.declared.Report.{Report}
use Rattle.reporting.specs.Reporting.{Reports}
use Rattle.answers.specs.declared.ReportAnswer.{ReportAnswer}

unfoldable pub read_answer : Result ReadPlan Refusal → ReadAnswer
read_answer (Ok p) = record { number = 0; cell = 0; allowance = p.allowance; count = p.count }
read_answer (Err r) = record { number = r.number; cell = r.cell; allowance = 0; count = 0 }

unfoldable pub laid_answer : Result Measures Refusal → LayoutAnswer
laid_answer (Ok m) = record { number = 0; cell = 0; width = m.width; rows = m.rows }
laid_answer (Err r) = record { number = r.number; cell = r.cell; width = 0; rows = 0 }

unfoldable pub check_answer : Result Verdict Refusal → CheckAnswer
check_answer (Ok (Kept m)) = record { number = 0; cell = 0; rule = 0; a = 0; b = 0; width = m.width; rows = m.rows }
check_answer (Ok (Broken x)) = record { number = 0; cell = 0; rule = x.rule; a = x.a; b = x.b; width = 0; rows = 0 }
check_answer (Err r) = record { number = r.number; cell = r.cell; rule = 0; a = 0; b = 0; width = 0; rows = 0 }

unfoldable pub ends_answer : Result Ended Refusal → EndsAnswer
ends_answer (Ok e) = record { number = 0; cell = 0; from_x = e.from_x; from_y = e.from_y; to_x = e.to_x; to_y = e.to_y }
ends_answer (Err r) = record { number = r.number; cell = r.cell; from_x = pos 0; from_y = pos 0; to_x = pos 0; to_y = pos 0 }

unfoldable pub list_answer : Result ℕ Refusal → ListAnswer
list_answer (Ok n) = record { number = 0; cell = 0; length = n }
list_answer (Err r) = record { number = r.number; cell = r.cell; length = 0 }

-- outcome 1 with the allowance, 2 for "none"
unfoldable pub frame_answer : Result (Option ℕ) Refusal → FrameAnswer
frame_answer (Ok (Some a)) = record { number = 0; cell = 0; outcome = 1; allowance = a }
frame_answer (Ok None) = record { number = 0; cell = 0; outcome = 2; allowance = 0 }
frame_answer (Err r) = record { number = r.number; cell = r.cell; outcome = 0; allowance = 0 }

-- outcome 1 for full marks, 2 for "wide", 3 for "broken"
unfoldable pub mark_answer : Result Marked Refusal → MarkAnswer
mark_answer (Ok (FullMarks m)) = record { number = 0; cell = 0; outcome = 1; rule = 0; a = 0; b = 0; width = m.width; least = 0; rows = m.rows }
mark_answer (Ok (Wide m l)) = record { number = 0; cell = 0; outcome = 2; rule = 0; a = 0; b = 0; width = m.width; least = l; rows = m.rows }
mark_answer (Ok (BrokenMark x)) = record { number = 0; cell = 0; outcome = 3; rule = x.rule; a = x.a; b = x.b; width = 0; least = 0; rows = 0 }
mark_answer (Err r) = record { number = r.number; cell = r.cell; outcome = 0; rule = 0; a = 0; b = 0; width = 0; least = 0; rows = 0 }

unfoldable pub copy_answer : Result ℕ Refusal → CopyAnswer
copy_answer (Ok n) = record { number = 0; cell = 0; length = n }
copy_answer (Err r) = record { number = r.number; cell = r.cell; length = 0 }

unfoldable pub mend_answer : Result Mended Refusal → MendAnswer
mend_answer (Ok m) = record { number = 0; cell = 0; length = m.file; lines = m.lines }
mend_answer (Err r) = record { number = r.number; cell = r.cell; length = 0; lines = 0 }

-- the float 0, where a case has no point
abbrev pub no_point : Float
no_point = of_bits binary64 0

-- 1 a move, 2 a line, 3 a lift
unfoldable pub pen_answer : Stroke → StrokeAnswer
pen_answer (Move x y) = record { number = 0; cell = 0; what = 1; x = x; y = y }
pen_answer (Line x y) = record { number = 0; cell = 0; what = 2; x = x; y = y }
pen_answer Lift = record { number = 0; cell = 0; what = 3; x = no_point; y = no_point }

unfoldable pub stroke_answer : Result Stroke Refusal → StrokeAnswer
stroke_answer (Ok s) = pen_answer s
stroke_answer (Err r) = record { number = r.number; cell = r.cell; what = 0; x = no_point; y = no_point }

-- outcome 1 for "finished", 2 for "spent", 3 for "wrong", 4 for "full"
unfoldable pub drill_answer : Result Drilled Refusal → DrillAnswer
drill_answer (Ok (Finished u n)) = record { number = 0; cell = 0; outcome = 1; used = u; records = n }
drill_answer (Ok (Spent u n)) = record { number = 0; cell = 0; outcome = 2; used = u; records = n }
drill_answer (Ok (Wrong u n)) = record { number = 0; cell = 0; outcome = 3; used = u; records = n }
drill_answer (Ok (Full u n)) = record { number = 0; cell = 0; outcome = 4; used = u; records = n }
drill_answer (Err r) = record { number = r.number; cell = r.cell; outcome = 0; used = 0; records = 0 }

-- a call of Read, as `Reads` has it, with the struct for its answer
pub record Filling (f : List ℕ) (t t' : List Record) (r : ReadAnswer) : Type 0 where
  pub read : Result ReadPlan Refusal
  pub reads : Reads f t t' read
  pub answers : r ≡ read_answer read

-- a call of Layout, as `Lays` has it, with the struct for its answer
pub record Laying (t : Table) (al : ℕ) (s s' : List ℕ) (ps ps' : List ℤ) (r : LayoutAnswer) : Type 0 where
  pub laid : Result Measures Refusal
  pub lays : Lays t al s s' ps ps' laid
  pub answers : r ≡ laid_answer laid

-- a call of List, as `Lists` has it, with the struct for its answer
pub record ListFilling (f out out' : List ℕ) (r : ListAnswer) : Type 0 where
  pub listed : Result ℕ Refusal
  pub lists : Lists f out out' listed
  pub answers : r ≡ list_answer listed

-- a call of Frame, as `Frames` has it, with the struct for its answer
pub record Framing (t : Table) (squares : ℕ) (s s' : List ℕ) (r : FrameAnswer) : Type 0 where
  pub fitted : Result (Option ℕ) Refusal
  pub frames : Frames t squares s s' fitted
  pub answers : r ≡ frame_answer fitted

-- a call of Mark, as `Marks` has it, with the struct for its answer
pub record Marking (t : Table) (ps : List ℤ) (al : ℕ) (s s' : List ℕ) (r : MarkAnswer) : Type 0 where
  pub marked : Result Marked Refusal
  pub marks : Marks t ps al s s' marked
  pub answers : r ≡ mark_answer marked

-- a call of Copy, as `Copies` has it, with the struct for its answer
pub record CopyFilling (rs : List Record) (letters : List ℕ) (al : ℕ) (out out' : List ℕ) (r : CopyAnswer) : Type 0 where
  pub copied : Result ℕ Refusal
  pub copies : Copies rs letters al out out' copied
  pub answers : r ≡ copy_answer copied

-- a call of Mend, as `Mends` has it, with the struct for its answer
pub record MendFilling (f out out' lines lines' : List ℕ) (r : MendAnswer) : Type 0 where
  pub mended : Result Mended Refusal
  pub mends : Mends f out out' lines lines' mended
  pub answers : r ≡ mend_answer mended

unfoldable pub strip_answer : Result ⊤ Refusal → StripAnswer
strip_answer (Ok v) = record { number = 0; cell = 0 }
strip_answer (Err r) = record { number = r.number; cell = r.cell }

-- a call of Strip, as `Strips` has it, with the struct for its answer
pub record Stripping (t : Table) (ps : List ℤ) (row first : ℕ) (bs bs' : List ℕ) (r : StripAnswer) : Type 0 where
  pub refused : Result ⊤ Refusal
  pub strips : Strips t ps row first bs bs' refused
  pub answers : r ≡ strip_answer refused

unfoldable pub join_answer : Result ℕ Refusal → JoinAnswer
join_answer (Ok n) = record { number = 0; cell = 0; count = n }
join_answer (Err r) = record { number = r.number; cell = r.cell; count = 0 }

-- a call of Join, as `Joins` has it, with the struct for its answer
pub record Joining (t u : List Record) (c : ℕ) (o o' : List Record) (r : JoinAnswer) : Type 0 where
  pub joined : Result ℕ Refusal
  pub joins : Joins t u c o o' joined
  pub answers : r ≡ join_answer joined

-- a call of a drill, as `Drills` has it, with the struct for its answer
pub record Drilling (t : Table) (bs xs xs' : List ℕ) (r : DrillAnswer) : Type 0 where
  pub drilled : Result Drilled Refusal
  pub drills : Drills t bs xs xs' drilled
  pub answers : r ≡ drill_answer drilled

-- document 02, E9
unfoldable pub start_answer : Result ⊤ Refusal → StartAnswer
start_answer (Ok u) = record { number = 0; cell = 0 }
start_answer (Err r) = record { number = r.number; cell = r.cell }

-- outcome 1 with the cell that was finished, 2 for "done"
unfoldable pub step_answer : Result (Option ℕ) Refusal → StepAnswer
step_answer (Ok (Some c)) = record { number = 0; cell = 0; outcome = 1; finished = c }
step_answer (Ok None) = record { number = 0; cell = 0; outcome = 2; finished = 0 }
step_answer (Err r) = record { number = r.number; cell = r.cell; outcome = 0; finished = 0 }

unfoldable pub reach_answer : Result Sides Refusal → ReachAnswer
reach_answer (Ok s) = record { number = 0; cell = 0; left = s.left; right = s.right }
reach_answer (Err r) = record { number = r.number; cell = r.cell; left = 0; right = 0 }

-- calls of Start, Step and Reach, as `Starts`, `Steps` and `Reaches` have them, with the structs for their answers
pub record Starting (t : Table) (al : ℕ) (xs xs' ms ms' : List ℕ) (r : StartAnswer) : Type 0 where
  pub started : Result ⊤ Refusal
  pub starts : Starts t al xs xs' ms ms' started
  pub answers : r ≡ start_answer started

pub record Stepping (t : Table) (al : ℕ) (xs xs' ms ms' : List ℕ) (ps ps' : List ℤ) (r : StepAnswer) : Type 0 where
  pub stepped : Result (Option ℕ) Refusal
  pub steps : Steps t al xs xs' ms ms' ps ps' stepped
  pub answers : r ≡ step_answer stepped

pub record Reaching (t : Table) (al : ℕ) (xs ms : List ℕ) (c : ℕ) (r : ReachAnswer) : Type 0 where
  pub reached : Result Sides Refusal
  pub reaches : Reaches t al xs ms c reached
  pub answers : r ≡ reach_answer reached

-- the report of no plan with a refusal
unfoldable pub report_answer : Result Report Refusal → ReportAnswer
report_answer (Ok r) = record { number = 0; cell = 0; report = r }
report_answer (Err r) = record { number = r.number; cell = r.cell; report = nothing }

-- a call of Report, as `Reports` has it, with the struct for its answer
pub record Reporting (f : List ℕ) (t t' : List Record) (s s' : List ℕ) (ps ps' : List ℤ) (r : ReportAnswer) : Type 0 where
  pub reported : Result Report Refusal
  pub reports : Reports f t t' s s' ps ps' reported
  pub answers : r ≡ report_answer reported

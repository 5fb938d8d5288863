-- WHAT C IS TOLD: by the words of include/kuzpalen.h the struct of a call says what the call answered, whatever it was lent. So a struct says one answer and no other, and two calls with one struct answered alike. Assumes nothing.
use Rattle.std.specs.Prelude.{◌≡◌, List, ℕ, ℤ}
use Rattle.std.proofs.Math.Option.{some}
use Rattle.plan.specs.Plan.{Table}
use Rattle.plan.specs.declared.Record.{Record}
use Rattle.plan.specs.declared.Page.{Page}
use Rattle.checker.specs.Checked.{checked_of}
use Rattle.ends.specs.Ended.{ended_of}
use Rattle.strokes.specs.Stroked.{stroked_of}
use Rattle.season.specs.Pool.{pool}
use Rattle.season.specs.declared.Report.{Report}
use Rattle.answers.specs.declared.ReadAnswer.{ReadAnswer}
use Rattle.answers.specs.declared.LayoutAnswer.{LayoutAnswer}
use Rattle.answers.specs.declared.ListAnswer.{ListAnswer}
use Rattle.answers.specs.declared.FrameAnswer.{FrameAnswer}
use Rattle.answers.specs.declared.MarkAnswer.{MarkAnswer}
use Rattle.answers.specs.declared.CopyAnswer.{CopyAnswer}
use Rattle.answers.specs.declared.MendAnswer.{MendAnswer}
use Rattle.answers.specs.declared.StripAnswer.{StripAnswer}
use Rattle.answers.specs.declared.JoinAnswer.{JoinAnswer}
use Rattle.answers.specs.declared.DrillAnswer.{DrillAnswer}
use Rattle.answers.specs.declared.StartAnswer.{StartAnswer}
use Rattle.answers.specs.declared.StepAnswer.{StepAnswer}
use Rattle.answers.specs.declared.ReachAnswer.{ReachAnswer}
use Rattle.answers.specs.declared.ReportAnswer.{ReportAnswer}
use Rattle.answers.specs.Answers.{check_answer, ends_answer, stroke_answer, report_answer, Filling, Laying, ListFilling, Framing, Marking, CopyFilling, MendFilling, Stripping, Joining, Drilling, Starting, Stepping, Reaching, Reporting}
use Rattle.answers.specs.Header.{said_read, said_layout, said_check, said_ends, said_list, said_frame, said_mark, said_copy, said_mend, said_stroke, said_strip, said_join, said_drill, said_start, said_step, said_reach, said_report}
use Rattle.answers.proofs.Laws.Promised as laws

pub read_says : {f : List ℕ} {t t' : List Record} {r : ReadAnswer} (c : Filling f t t' r) → said_read r ≡ some c.read
read_says c = laws.read_says c

pub layout_says : {t : Table} {al : ℕ} {s s' : List ℕ} {ps ps' : List ℤ} {r : LayoutAnswer} (c : Laying t al s s' ps ps' r) → said_layout r ≡ some c.laid
layout_says c = laws.layout_says c

pub check_says : (t : Table) (ps : List ℤ) (al : ℕ) → said_check (check_answer (checked_of t ps al)) ≡ some (checked_of t ps al)
check_says t ps al = laws.check_says t ps al

pub ends_says : (t : Table) (ps : List ℤ) (c : ℕ) → said_ends (ends_answer (ended_of t ps c)) ≡ some (ended_of t ps c)
ends_says t ps c = laws.ends_says t ps c

pub list_says : {f out out' : List ℕ} {r : ListAnswer} (c : ListFilling f out out' r) → said_list r ≡ some c.listed
list_says c = laws.list_says c

pub frame_says : {t : Table} {squares : ℕ} {s s' : List ℕ} {r : FrameAnswer} (c : Framing t squares s s' r) → said_frame r ≡ some c.fitted
frame_says c = laws.frame_says c

pub mark_says : {t : Table} {ps : List ℤ} {al : ℕ} {s s' : List ℕ} {r : MarkAnswer} (c : Marking t ps al s s' r) → said_mark r ≡ some c.marked
mark_says c = laws.mark_says c

pub copy_says : {rs : List Record} {letters : List ℕ} {al : ℕ} {out out' : List ℕ} {r : CopyAnswer} (c : CopyFilling rs letters al out out' r) → said_copy r ≡ some c.copied
copy_says c = laws.copy_says c

pub mend_says : {f out out' lines lines' : List ℕ} {r : MendAnswer} (c : MendFilling f out out' lines lines' r) → said_mend r ≡ some c.mended
mend_says c = laws.mend_says c

pub stroke_says : (t : Table) (ps : List ℤ) (g : Page) (s : ℕ) → said_stroke (stroke_answer (stroked_of t ps g s)) ≡ some (stroked_of t ps g s)
stroke_says t ps g s = laws.stroke_says t ps g s

pub strip_says : {t : Table} {ps : List ℤ} {row first : ℕ} {bs bs' : List ℕ} {r : StripAnswer} (c : Stripping t ps row first bs bs' r) → said_strip r ≡ some c.refused
strip_says c = laws.strip_says c

pub join_says : {t u : List Record} {k : ℕ} {o o' : List Record} {r : JoinAnswer} (c : Joining t u k o o' r) → said_join r ≡ some c.joined
join_says c = laws.join_says c

pub drill_says : {t : Table} {bs xs xs' : List ℕ} {r : DrillAnswer} (c : Drilling t bs xs xs' r) → said_drill r ≡ some c.drilled
drill_says c = laws.drill_says c

pub start_says : {t : Table} {al : ℕ} {xs xs' ms ms' : List ℕ} {r : StartAnswer} (c : Starting t al xs xs' ms ms' r) → said_start r ≡ some c.started
start_says c = laws.start_says c

pub step_says : {t : Table} {al : ℕ} {xs xs' ms ms' : List ℕ} {ps ps' : List ℤ} {r : StepAnswer} (c : Stepping t al xs xs' ms ms' ps ps' r) → said_step r ≡ some c.stepped
step_says c = laws.step_says c

pub reach_says : {t : Table} {al : ℕ} {xs ms : List ℕ} {k : ℕ} {r : ReachAnswer} (c : Reaching t al xs ms k r) → said_reach r ≡ some c.reached
reach_says c = laws.reach_says c

pub report_says : {f : List ℕ} {t t' : List Record} {s s' : List ℕ} {ps ps' : List ℤ} {r : ReportAnswer} (c : Reporting f t t' s s' ps ps' r) → said_report r ≡ some c.reported
report_says c = laws.report_says c

pub pool_says : (a b : Report) → said_report (report_answer (pool a b)) ≡ some (pool a b)
pool_says a b = laws.pool_says a b

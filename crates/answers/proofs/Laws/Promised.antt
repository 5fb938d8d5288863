-- For Promised: a refusal with its number, and what is answered otherwise, each said by its struct. Nothing that a reader must believe stands here. Assumes nothing.
use Rattle.std.specs.Prelude.{◌≡◌, refl, List, Bool, true, false, cond, ℕ, zero, suc, ◌≤◌, eqb, leb, ℤ, length, get_or, Option as Optional, Some, None, Result, Ok, Err}
use Rattle.std.proofs.Common.{sym, ap, ◌∙◌, subst, arith}
use Rattle.std.proofs.Math.Option.{Option, some}
use Rattle.std.proofs.Math.Dec.{eqb-suc-zero}
use Rattle.plan.specs.Plan.{Table, cells}
use Rattle.plan.specs.declared.Record.{Record}
use Rattle.plan.specs.declared.Page.{Page}
use Rattle.checker.specs.Checked.{checked_of}
use Rattle.ends.specs.Ended.{joined, ended_of}
use Rattle.strokes.specs.Stroked.{stroked_of}
use Rattle.season.specs.Pool.{pool}
use Rattle.season.specs.declared.Report.{Report}
use Rattle.answers.specs.declared.ReadAnswer.{ReadAnswer}
use Rattle.answers.specs.declared.LayoutAnswer.{LayoutAnswer}
use Rattle.answers.specs.declared.ListAnswer.{ListAnswer}
use Rattle.answers.specs.declared.FrameAnswer.{FrameAnswer}
use Rattle.answers.specs.declared.MarkAnswer.{MarkAnswer}
use Rattle.answers.specs.declared.CopyAnswer.{CopyAnswer}
use Rattle.answers.specs.declared.MendAnswer.{MendAnswer}
use Rattle.answers.specs.declared.StripAnswer.{StripAnswer}
use Rattle.answers.specs.declared.JoinAnswer.{JoinAnswer}
use Rattle.answers.specs.declared.DrillAnswer.{DrillAnswer}
use Rattle.answers.specs.declared.StartAnswer.{StartAnswer}
use Rattle.answers.specs.declared.StepAnswer.{StepAnswer}
use Rattle.answers.specs.declared.ReachAnswer.{ReachAnswer}
use Rattle.answers.specs.declared.ReportAnswer.{ReportAnswer}
use Rattle.plan.specs.declared.Refusal.{Refusal}
use Rattle.plan.specs.Questions as q
use Rattle.plan.specs.Records.{cells_of}
use Rattle.rules.specs.Placement.{Placement, placed}
use Rattle.rules.specs.Search.{Verdict, kept, broken}
use Rattle.rules.specs.Placement.{width, rows}
use Rattle.rules.specs.Verdict.{verdict, Answer, fine, faulty, answer}
use Rattle.rules.proofs.Laws.Verdict.{verdict-broken, fine-answer, faulty-answer}
use Rattle.least.specs.Frame.{Found, nowhere, found, least_allowance}
use Rattle.moves.specs.Drill.{Outcome, finished, spent, wrong, full, drill_of}
use Rattle.pen.specs.Strokes.{strokes}
use Rattle.content.specs.Clean.{copy_refusal}
use Rattle.graft.specs.Sequence.{join_refusal}
use Rattle.layout.specs.Laid.{laid_of}
use Rattle.checker.specs.Checked.{answered}
use Rattle.checker.specs.declared.Verdict.TheVariants.{Broken}
use Rattle.printing.specs.Printing.{listed_of}
use Rattle.fitting.specs.Fitted.{told, fitted_of}
use Rattle.mark_spec.specs.Marked.{full_of, wide_of, our_width, by_width, graded, marked_of}
use Rattle.copying.specs.Copied.{copied_of}
use Rattle.mending.specs.Mending.{mended_of, mend_refusal}
use Rattle.pen.specs.declared.Stroke.{Stroke}
use Rattle.pen.specs.declared.Stroke.TheVariants.{Move, Line, Lift}
use Rattle.grafting.specs.Joins.{join_answered}
use Rattle.following.specs.Drilled.{told_as, drill_told}
use Rattle.finishing_asks.specs.Asks.{start_no, step_no, reach_no}
use Rattle.finishing_reach.specs.declared.Sides.{Sides}
use Rattle.read_entry.specs.Read.{read_answered, read_refusal}
use Rattle.reporting.specs.Reporting.{reported_of, report_refusal}
use Rattle.season.specs.Pool.{pool_refusal}
use Rattle.answers.specs.Answers.{read_answer, laid_answer, check_answer, ends_answer, list_answer, frame_answer, mark_answer, copy_answer, mend_answer, pen_answer, stroke_answer, strip_answer, join_answer, drill_answer, start_answer, step_answer, reach_answer, report_answer, Filling, Laying, ListFilling, Framing, Marking, CopyFilling, MendFilling, Stripping, Joining, Drilling, Starting, Stepping, Reaching, Reporting}
use Rattle.answers.specs.Header.{refusing, numbered, coded, said_read, said_layout, said_check, said_ends, said_list, said_frame, said_mark, said_copy, said_mend, said_stroke, said_strip, said_join, said_drill, said_start, said_step, said_reach, said_report}

-- a number that is not 0 says what it numbers
by_number : {A : Type 0} (this : ℕ → ℕ → A) (k c : ℕ) (other : A) → 1 ≤ k → numbered this k c other ≡ this k c
unfolding numbered
by_number this zero c other h = absurd (omega arith)
by_number this (suc k) c other h = refl

-- an answer by the refusal or by what is given, told: where the struct says either, it says the answer
by-refusal : {A S : Type 0} (says : S → Option A) (tells : A → S) (refused : ℕ → ℕ → A) → ((k c : ℕ) → 1 ≤ k → says (tells (refused k c)) ≡ some (refused k c)) → (g : A) → says (tells g) ≡ some g
    → (n c : ℕ) → says (tells (cond (eqb n 0) g (refused n c))) ≡ some (cond (eqb n 0) g (refused n c))
by-refusal says tells refused h g e zero c = e
by-refusal says tells refused h g e (suc n) c = subst (λ b. says (tells (cond b g (refused (suc n) c))) ≡ some (cond b g (refused (suc n) c))) (sym (eqb-suc-zero n)) (h (suc n) c (omega arith))

-- the same of a call's struct s and answer a
answering : {A S : Type 0} (says : S → Option A) (tells : A → S) (refused : ℕ → ℕ → A) → ((k c : ℕ) → 1 ≤ k → says (tells (refused k c)) ≡ some (refused k c)) → (g : A) → says (tells g) ≡ some g
    → (r : Refusal) {s : S} {a : A} → s ≡ tells a → a ≡ cond (eqb r.number 0) g (refused r.number r.cell) → says s ≡ some a
answering says tells refused h g e r u v = ap says u ∙ ap (λ x. says (tells x)) v ∙ by-refusal says tells refused h g e r.number r.cell ∙ ap some (sym v)

-- the same of a call that answers by a Result
answering_by : {A S : Type 0} (says : S → Option (Result A Refusal)) (tells : Result A Refusal → S) → ((k c : ℕ) → 1 ≤ k → says (tells (refusing k c)) ≡ some (refusing k c)) → (v : A) → says (tells (Ok v)) ≡ some (Ok v)
    → (r : Refusal) {s : S} {a : Result A Refusal} → s ≡ tells a → a ≡ q.answered r v → says s ≡ some a
unfolding q.answered
answering_by says tells h v e r u w = answering says tells refusing h (Ok v) e r u w

pub read_says : {f : List ℕ} {t t' : List Record} {r : ReadAnswer} (c : Filling f t t' r) → said_read r ≡ some c.read
unfolding read_answered read_answer numbered coded
read_says {f} {t} c = answering_by said_read read_answer (λ k x h. by_number (λ k x. some (refusing k x)) k x _ h) _ refl (read_refusal f (length t)) c.answers c.reads.answers

pub layout_says : {t : Table} {al : ℕ} {s s' : List ℕ} {ps ps' : List ℤ} {r : LayoutAnswer} (c : Laying t al s s' ps ps' r) → said_layout r ≡ some c.laid
unfolding laid_of laid_answer numbered coded
layout_says {t} {al} {s} {s'} {ps} c = answering_by said_layout laid_answer (λ k x h. by_number (λ k x. some (refusing k x)) k x _ h) _ refl (q.refusal q.layout (q.layout_given t al (length s) (length ps))) c.answers c.lays.answers

-- check: "kept", and "broken" with a rule's number
abbrev Judged : Answer → Type 0
Judged x = said_check (check_answer (Ok (answered x))) ≡ some (Ok (answered x))

told-fine : (w h : ℤ) → Judged (fine w h)
unfolding answered check_answer numbered coded
told-fine w h = refl

told-faulty : (r a b : ℕ) → 1 ≤ r → Judged (faulty r a b)
unfolding answered check_answer numbered coded
told-faulty r a b h = ap (λ v. some (Ok v)) (by_number (λ r a. Broken (record { rule = r; a = a; b = b })) r a _ h)

judged : (t : Table) (p : Placement) (al : ℕ) → Judged (answer t p al)
judged t p al = go (verdict t p al) refl
  where
    go : (v : Verdict) → verdict t p al ≡ v → Judged (answer t p al)
    go kept e = subst Judged (sym (fine-answer t p al e)) (told-fine (width t p) (rows t p))
    go (broken r a b) e = subst Judged (sym (faulty-answer t p al r a b e)) (told-faulty r a b (verdict-broken t p al r a b e).rule_low)

pub check_says : (t : Table) (ps : List ℤ) (al : ℕ) → said_check (check_answer (checked_of t ps al)) ≡ some (checked_of t ps al)
unfolding checked_of check_answer numbered coded
check_says t ps al = answering_by said_check check_answer (λ k x h. by_number (λ k x. some (refusing k x)) k x _ h) _ (judged t (placed ps) al) (q.refusal q.check (q.check_given t al ps)) refl refl

pub ends_says : (t : Table) (ps : List ℤ) (c : ℕ) → said_ends (ends_answer (ended_of t ps c)) ≡ some (ended_of t ps c)
unfolding joined ended_of ends_answer numbered coded
ends_says t ps c = answering_by said_ends ends_answer (λ k x h. by_number (λ k x. some (refusing k x)) k x _ h) _ refl (q.refusal q.ends (q.ends_given t ps c)) refl refl

pub list_says : {f out out' : List ℕ} {r : ListAnswer} (c : ListFilling f out out' r) → said_list r ≡ some c.listed
unfolding listed_of list_answer numbered coded
list_says {f} {out} c = answering_by said_list list_answer (λ k x h. by_number (λ k x. some (refusing k x)) k x _ h) _ refl (q.refusal q.list (q.list_given (length out))) c.answers c.lists.answers

fit_told : (d : Found) → said_frame (frame_answer (Ok (told d))) ≡ some (Ok (told d))
unfolding told frame_answer numbered coded
fit_told nowhere = refl
fit_told (found a) = refl

pub frame_says : {t : Table} {squares : ℕ} {s s' : List ℕ} {r : FrameAnswer} (c : Framing t squares s s' r) → said_frame r ≡ some c.fitted
unfolding fitted_of frame_answer numbered coded
frame_says {t} {squares} {s} c = answering_by said_frame frame_answer (λ k x h. by_number (λ k x. some (refusing k x)) k x _ h) _ (fit_told (least_allowance t squares)) (q.refusal q.frame (q.frame_given t squares (length s))) c.answers c.frames.answers

width-told : (l w h : ℕ) (b : Bool) → said_mark (mark_answer (Ok (cond b (full_of w h) (wide_of w l h)))) ≡ some (Ok (cond b (full_of w h) (wide_of w l h)))
unfolding mark_answer numbered coded
width-told l w h true = refl
width-told l w h false = refl

by_width-told : (l w h : ℕ) → said_mark (mark_answer (Ok (by_width l w h))) ≡ some (Ok (by_width l w h))
unfolding by_width
by_width-told l w h = width-told l w h (leb w l)

graded-told : (l : ℕ) (a : Answer) → said_mark (mark_answer (Ok (graded l a))) ≡ some (Ok (graded l a))
unfolding graded mark_answer numbered coded
graded-told l (fine w h) = by_width-told l _ _
graded-told l (faulty r a b) = refl

pub mark_says : {t : Table} {ps : List ℤ} {al : ℕ} {s s' : List ℕ} {r : MarkAnswer} (c : Marking t ps al s s' r) → said_mark r ≡ some c.marked
unfolding marked_of mark_answer numbered coded
mark_says {t} {ps} {al} {s} c = answering_by said_mark mark_answer (λ k x h. by_number (λ k x. some (refusing k x)) k x _ h) _ (graded-told (our_width t al) (answer t (placed ps) al)) (q.refusal q.mark (q.mark_given t ps al (length s))) c.answers c.marks.answers

pub copy_says : {rs : List Record} {letters : List ℕ} {al : ℕ} {out out' : List ℕ} {r : CopyAnswer} (c : CopyFilling rs letters al out out' r) → said_copy r ≡ some c.copied
unfolding copied_of copy_answer numbered coded
copy_says {rs} {letters} {al} {out} c = answering_by said_copy copy_answer (λ k x h. by_number (λ k x. some (refusing k x)) k x _ h) _ refl (copy_refusal rs letters al (length out)) c.answers c.copies.answers

pub mend_says : {f out out' lines lines' : List ℕ} {r : MendAnswer} (c : MendFilling f out out' lines lines' r) → said_mend r ≡ some c.mended
unfolding mended_of mend_answer numbered coded
mend_says {f} {out} {out'} {lines} c = answering_by said_mend mend_answer (λ k x h. by_number (λ k x. some (refusing k x)) k x _ h) _ refl (mend_refusal f (length out) (length lines)) c.answers c.mends.answers

drawn : (d : Stroke) → said_stroke (stroke_answer (Ok d)) ≡ some (Ok d)
unfolding stroke_answer pen_answer numbered coded
drawn (Move x y) = refl
drawn (Line x y) = refl
drawn Lift = refl

pub stroke_says : (t : Table) (ps : List ℤ) (g : Page) (s : ℕ) → said_stroke (stroke_answer (stroked_of t ps g s)) ≡ some (stroked_of t ps g s)
unfolding stroked_of stroke_answer numbered coded
stroke_says t ps g s = answering_by said_stroke stroke_answer (λ k x h. by_number (λ k x. some (refusing k x)) k x _ h) _ (drawn (get_or (strokes t (placed ps) g) s Lift)) (q.refusal q.stroke (q.stroke_given t ps g s)) refl refl

pub strip_says : {t : Table} {ps : List ℤ} {row first : ℕ} {bs bs' : List ℕ} {r : StripAnswer} (c : Stripping t ps row first bs bs' r) → said_strip r ≡ some c.refused
unfolding strip_answer numbered coded
strip_says {t} {ps} c = answering_by said_strip strip_answer (λ k x h. by_number (λ k x. some (refusing k x)) k x _ h) tt refl (q.refusal q.strip (q.strip_given t ps)) c.answers c.strips.answers

pub join_says : {t u : List Record} {k : ℕ} {o o' : List Record} {r : JoinAnswer} (c : Joining t u k o o' r) → said_join r ≡ some c.joined
unfolding join_answered join_answer numbered coded
join_says {t} {u} {k} {o} c = answering_by said_join join_answer (λ k x h. by_number (λ k x. some (refusing k x)) k x _ h) _ refl (join_refusal (length o) (cells_of t) (cells_of u) k) c.answers c.joins.answers

drilled_told : (o : Outcome) (u n : ℕ) → said_drill (drill_answer (Ok (told_as o u n))) ≡ some (Ok (told_as o u n))
unfolding drill_answer numbered coded
drilled_told finished u n = refl
drilled_told spent u n = refl
drilled_told wrong u n = refl
drilled_told full u n = refl

pub drill_says : {t : Table} {bs xs xs' : List ℕ} {r : DrillAnswer} (c : Drilling t bs xs xs' r) → said_drill r ≡ some c.drilled
unfolding drill_told drill_answer numbered coded
drill_says {t} {bs} {xs} c = answering_by said_drill drill_answer (λ k x h. by_number (λ k x. some (refusing k x)) k x _ h) _ (drilled_told (drill_of t bs).outcome _ _) (q.refusal q.drill (q.drill_given t (length bs) (length xs))) c.answers c.drills.answer

pub start_says : {t : Table} {al : ℕ} {xs xs' ms ms' : List ℕ} {r : StartAnswer} (c : Starting t al xs xs' ms ms' r) → said_start r ≡ some c.started
unfolding start_answer numbered coded
start_says {t} {al} {xs} {xs'} {ms} c = answering_by said_start start_answer (λ k x h. by_number (λ k x. some (refusing k x)) k x _ h) tt refl (start_no t al (length xs) (length ms)) c.answers c.starts.answers

pub report_says : {f : List ℕ} {t t' : List Record} {s s' : List ℕ} {ps ps' : List ℤ} {r : ReportAnswer} (c : Reporting f t t' s s' ps ps' r) → said_report r ≡ some c.reported
unfolding reported_of report_answer numbered coded
report_says {f} {t} {t'} {s} {s'} {ps} c = answering_by said_report report_answer (λ k x h. by_number (λ k x. some (refusing k x)) k x _ h) _ refl (report_refusal f (length t) (length s) (length ps)) c.answers c.reports.answers

pub pool_says : (a b : Report) → said_report (report_answer (pool a b)) ≡ some (pool a b)
unfolding pool report_answer numbered coded
pool_says a b = answering_by said_report report_answer (λ k x h. by_number (λ k x. some (refusing k x)) k x _ h) _ refl (pool_refusal a b) refl refl

step_real : (n m : ℕ) (a : Result (Optional ℕ) Refusal) → (¬ (n ≡ 0) → a ≡ refusing n m) → (n ≡ 0 → (e : Refusal) → ¬ (a ≡ Err e)) → said_step (step_answer a) ≡ some a
unfolding step_answer numbered coded
step_real zero m (Ok (Some c)) h s = refl
step_real zero m (Ok None) h s = refl
step_real zero m (Err e) h s = absurd (s refl e refl)
step_real (suc n) m a h s = subst (λ a. said_step (step_answer a) ≡ some a) (sym (h (λ e. omega arith))) refl

pub step_says : {t : Table} {al : ℕ} {xs xs' ms ms' : List ℕ} {ps ps' : List ℤ} {r : StepAnswer} (c : Stepping t al xs xs' ms ms' ps ps' r) → said_step r ≡ some c.stepped
step_says {t} {al} {xs} {xs'} {ms} {ms'} {ps} c =
    let no : Refusal = step_no t al (length xs) (length ms) (length ps) in ap said_step c.answers ∙ step_real no.number no.cell c.stepped (λ z. (c.steps.refuses z).0) c.steps.says

reach_real : (n m i : ℕ) (a : Result Sides Refusal) → (¬ (n ≡ 0) → a ≡ refusing n m) → (n ≡ 0 → (e : Refusal) → a ≡ Err e → (e.number ≡ 20) × (e.cell ≡ i)) → said_reach (reach_answer a) ≡ some a
unfolding reach_answer numbered coded
reach_real zero m i (Ok x) h s = refl
reach_real zero m i (Err r) h s = let e : r.number ≡ 20 = (s refl r refl).0 in by_number (λ k x. some (refusing k x)) r.number r.cell _ (omega arith)
reach_real (suc n) m i a h s = subst (λ a. said_reach (reach_answer a) ≡ some a) (sym (h (λ e. omega arith))) refl

pub reach_says : {t : Table} {al : ℕ} {xs ms : List ℕ} {k : ℕ} {r : ReachAnswer} (c : Reaching t al xs ms k r) → said_reach r ≡ some c.reached
reach_says {t} {al} {xs} {ms} {k} c =
    let no : Refusal = reach_no t al (length xs) (length ms) (cells t) k in ap said_reach c.answers ∙ reach_real no.number no.cell k c.reached c.reaches.refuses c.reaches.says

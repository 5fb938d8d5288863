-- What the code of Read and Label answers, as a reading. Assumes nothing.
use Rattle.std.specs.Prelude.{◌≡◌, List, [], ◌∷◌, Result, Ok, Err, IsErrAnd, cond, ℕ, eqb, ltb, leb, ⊤}
use Rattle.std.proofs.Math.Path.{refl}
use Rattle.std.proofs.Common.{sym, ap, ◌∙◌, eq-eqb, ne_eqb}
use Rattle.std.proofs.Math.Decide.{ℕ_discrete}
use Rattle.plan.specs.Limits.{most_cells}
use Rattle.planfile_spec.specs.Format.{trailer_of, entry, file_given}
use Rattle.plan.specs.Questions.{to_fill, nothing, read, refusal, none, asked, answered, passed}
use Rattle.plan.proofs.Laws.Answered.{answered_none, answered_some, refused_by, not_refused, answers_err}
use Rattle.plan.specs.declared.Record.{Record}
use Rattle.plan.specs.declared.Refusal.{Refusal}
use Rattle.planfile_spec.specs.declared.PlanFile.{PlanFile}
use Rattle.planfile_spec.specs.Read.{Reading, plan_of, reading, answer_of}
use Rattle.planfile_spec.specs.Reading.{columns_of, reading_of, label_refusal}
use Rattle.planfile_spec.specs.FileSteps.{blank_reading, file_refusal, examined}
use Rattle.planfile_spec.proofs.Laws.Examined.{zero_of, examined-refused}
use Rattle.planfile_spec.proofs.Laws.Label.{read_short, label-stops, label-goes_on}

-- ---- a reading whose refusal is none where its number is 0
record Plain (r : Reading) : Type 0 where
  pub is_none : r.refusal.number ≡ 0 → r.refusal ≡ none

plain_ok : (r : Reading) → Plain r → (p : PlanFile) → Ok p ≡ answer_of r → reading p ≡ r
plain_ok r h p e =
    let z = not_refused r.refusal (plan_of r) p e in
    let q : Ok p ≡ Ok (plan_of r) = e ∙ answered_none r.refusal (plan_of r) z in
    let k : p ≡ plan_of r = cc in
    rw (k, h.is_none z)

chosen_plain : (r : Refusal) (al n : ℕ) (e : ℕ → Record) → Plain (cond (eqb r.number 0) (columns_of none al n e) (columns_of r 0 0 e))
unfolding columns_of
chosen_plain r al n e = go (ℕ_discrete r.number 0)
  where
    go : Dec (r.number ≡ 0) → Plain (cond (eqb r.number 0) (columns_of none al n e) (columns_of r 0 0 e))
    go (yes z) = rw (eq-eqb r.number 0 z) (record { is_none = λ h. refl })
    go (no z) = rw (ne_eqb r.number 0 z) (record { is_none = λ h. absurd (z h) })

-- ---- in the arm for a plan that was read or examined, the plan is the reading
pub read_plan : (f : List ℕ) (room : ℕ) (p : PlanFile) → Ok p ≡ answer_of (reading_of f room) → reading p ≡ reading_of f room
unfolding reading_of
read_plan f room p e = plain_ok (reading_of f room) (chosen_plain _ _ _ _) p e

pub examined_plan : (f : List ℕ) (p : PlanFile) → Ok p ≡ answer_of (examined f) → reading p ≡ examined f
unfolding examined
examined_plan f p e = plain_ok (examined f) (chosen_plain _ _ _ _) p e

-- ---- in the arm for a refusal, it is that of the reading
pub read_refused : (f : List ℕ) (room : ℕ) (r : Refusal) → Err r ≡ answer_of (reading_of f room) → (r ≡ (reading_of f room).refusal) × ¬ (r.number ≡ 0)
read_refused f room r e =
    let h = refused_by (reading_of f room).refusal (plan_of (reading_of f room)) r e in
    (h.0, λ z. h.1 (zero_of _ _ h.0 z))

-- ---- the same, handed on by `?`
pub err_passes : {A : Type 0} (r : Refusal) (v : A) (e : Refusal) → Err e ≡ answered r v → Err e ≡ passed r
err_passes r v e h = let g = refused_by r v e h in ap Err g.0 ∙ sym (answered_some r tt g.1)

-- Read's answer by its refusal alone
pub read_answer : (f : List ℕ) (room : ℕ) → let r = refusal read (file_given f (to_fill room ∷ []) nothing) in answer_of (reading_of f room) ≡ answered r (plan_of (columns_of none (trailer_of f).allowance (trailer_of f).count (entry f)))
unfolding reading_of columns_of
read_answer f room =
    let r = refusal read (file_given f (to_fill room ∷ []) nothing) in
    let p = columns_of none (trailer_of f).allowance (trailer_of f).count (entry f) in
    let b = columns_of r 0 0 (entry f) in
    elim (ℕ_discrete r.number 0) [
      | yes z ↦ rw (eq-eqb r.number 0 z) (answered_none none (plan_of p) refl ∙ sym (answered_none r (plan_of p) z))
      | no z ↦ rw (ne_eqb r.number 0 z) (answered_some r (plan_of b) z ∙ sym (answered_some r (plan_of p) z))
    ]

-- ---- what the code of Read answers
pub records-plan : (p : PlanFile) (al n : ℕ) (e : ℕ → Record) → p ≡ plan_of (columns_of none al n e) → reading p ≡ columns_of none al n e
unfolding columns_of
records-plan p al n e q = ap reading q

pub answers_plan : (p : PlanFile) → Ok p ≡ answer_of (reading p)
answers_plan p = sym (answered_none none (plan_of (reading p)) refl)

module _ (f : List ℕ) (r e : Refusal) (y : Result PlanFile Refusal) (h : Err e ≡ passed r) (p : IsErrAnd y (λ d. d ≡ e)) where
  answers_blank : y ≡ answer_of (blank_reading r)
  unfolding columns_of
  answers_blank = answers_err (plan_of (blank_reading r)) r e y h p

  some_number : ¬ (r.number ≡ 0)
  some_number = (refused_by r tt e h).1

  pub short_read : (room : ℕ) → r ≡ asked 1 (leb most_cells room) 0 → y ≡ answer_of (reading_of f room)
  short_read room q = answers_blank ∙ ap answer_of (read_short f room r q some_number)

  pub examined_err : r ≡ file_refusal f → y ≡ answer_of (examined f)
  examined_err q = answers_blank ∙ ap answer_of (examined-refused f r q some_number)

-- ---- what the code of Label's refusal answers
module _ (f : List ℕ) (c : ℕ) where
  pub label_err : (e : Refusal) (y : Result ⊤ Refusal) → Err e ≡ answer_of (examined f) → IsErrAnd y (λ d. d ≡ e) → y ≡ passed (label_refusal f c)
  label_err e y h p =
      let r = examined f in
      answers_err tt r.refusal e y (err_passes r.refusal (plan_of r) e h) p ∙ ap passed (label-stops f c r refl (refused_by r.refusal (plan_of r) e h).1)

  pub label_ok : (p : PlanFile) → Ok p ≡ answer_of (examined f) → asked 16 (ltb c p.cells.columns.count) 0 ≡ label_refusal f c
  label_ok p e = label-goes_on f c (reading p) (examined_plan f p e) refl

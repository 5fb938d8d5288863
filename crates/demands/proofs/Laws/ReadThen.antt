-- Read's answer, and what Label and Layout say of what it gave. Assumes nothing.
use Rattle.std.specs.Prelude.{◌≡◌, List, ◌++◌, ℕ, ◌+◌, ◌-◌, ◌*◌, ◌≤◌, ◌<◌, get_or, take, drop, Result, Ok, Err}
use Rattle.std.proofs.Common.{sym, ap, ◌∙◌, arith}
use Rattle.std.proofs.Math.Nat.{zero-add}
use Rattle.std.proofs.Math.ListN.{length, get_or-append}
use Rattle.std.proofs.Math.Seq.{take-append_seam}
use Rattle.plan.specs.Limits.{scratch_size}
use Rattle.plan.proofs.Laws.Columns.{get_or_from}
use Rattle.plan.specs.Records.{cells_of}
use Rattle.plan.specs.Questions.{none, layout, refusal, layout_given}
use Rattle.plan.proofs.Laws.Answered.{not_refused, answered_none, answered_some}
use Rattle.plan.proofs.Laws.Questions.{both-none}
use Rattle.plan.specs.declared.Record.{Record}
use Rattle.plan.specs.declared.Refusal.{Refusal}
use Rattle.planfile_spec.specs.Format.{trailer_of, entry, records_of}
use Rattle.planfile_spec.specs.Reading.{label_refusal}
use Rattle.planfile_spec.specs.FileSteps.{file_refusal}
use Rattle.planfile_spec.proofs.Laws.File as Law
use Rattle.planfile_spec.proofs.Laws.Examined.{zero_of}
use Rattle.planfile_spec.proofs.Laws.ReadThen.{file-label, file-layout, part_of_record}
use Rattle.read_entry.specs.declared.ReadPlan.{ReadPlan}
use Rattle.read_entry.specs.Read.{read_refusal, read_answered, table_after, Reads}
use Rattle.label_entry.specs.Label.{label_of}
use Rattle.demands.specs.Outcomes.{plan_of}

-- ---- the answer
module _ (f : List ℕ) (t t' : List Record) (r : Result ReadPlan Refusal) (l : Reads f t t' r) where
  abbrev why : Refusal
  why = read_refusal f (length t)

  pub gives : why ≡ none → (r ≡ plan_of (trailer_of f).count (trailer_of f).allowance) × (t' ≡ records_of f ++ drop (trailer_of f).count t)
  unfolding read_answered table_after
  gives z = let e : r ≡ plan_of (trailer_of f).count (trailer_of f).allowance = l.answers ∙ answered_none why _ (ap (λ (x : Refusal). x.number) z) in (e, l.table ∙ rw e)

  pub unchanged : ¬ (why.number ≡ 0) → (r ≡ Err why) × (t' ≡ t)
  unfolding read_answered table_after
  unchanged z = let e : r ≡ Err why = l.answers ∙ answered_some why _ z in (e, l.table ∙ rw e)

-- ---- what an answer with a plan says
in_ok : {x y : ReadPlan} → ◌≡◌ {A = Result ReadPlan Refusal} (Ok x) (Ok y) → x ≡ y
in_ok e = cc

accepted : (f : List ℕ) (n al : ℕ) (r : Refusal) → plan_of n al ≡ read_answered f r → (r.number ≡ 0) × (n ≡ (trailer_of f).count) × (al ≡ (trailer_of f).allowance)
unfolding read_answered
accepted f n al r e =
    let z = not_refused r _ _ e in
    let q = in_ok (e ∙ answered_none r _ z) in
    (z, ap (λ (p : ReadPlan). p.count) q, ap (λ (p : ReadPlan). p.allowance) q)

module _ (f : List ℕ) (t t' : List Record) (n al : ℕ) (l : Reads f t t' (plan_of n al)) where
  pub told : ((read_refusal f (length t)).number ≡ 0) × (n ≡ (trailer_of f).count) × (al ≡ (trailer_of f).allowance)
  told = accepted f n al (read_refusal f (length t)) l.answers

  passes : (file_refusal f).number ≡ 0
  passes = (both-none _ (file_refusal f) (zero_of _ _ (Law.read_refusal f (length t)) told.0)).1

  filled : t' ≡ records_of f ++ drop n t
  unfolding table_after
  filled = l.table

  -- the records lent on: the first n
  pub first-records : take n t' ≡ records_of f
  first-records = let e : n ≡ length (records_of f) = told.1 ∙ sym (Law.records-length f) in rw (filled, e) (take-append_seam (records_of f) _)

  record_there : (c : ℕ) → c < n → (d : Record) → get_or t' c d ≡ entry f c
  unfolding records_of
  record_there c h d =
      let i : c < length (records_of f) = omega (arith, told.1, Law.records-length f) in
      let k : c < (trailer_of f).count = omega (arith, told.1) in
      rw filled (get_or-append (records_of f) _ d c i) ∙ rw zero-add at (get_or_from (entry f) d 0 (trailer_of f).count c k)

  pub then-label : (c : ℕ) → c < n → (d : Record) → (label_refusal f c ≡ none) × (label_of f c ≡ take (get_or t' c d).label_length (drop (get_or t' c d).label_start f))
  then-label c h d =
      let k = file-label f passes c (omega (arith, told.1)) in
      let p = part_of_record f c k in
      let e : (entry f c).label_start + (entry f c).label_length - (entry f c).label_start ≡ (entry f c).label_length = omega arith in
      (k, rw (p, record_there c h d, e))

  pub then-layout : (s p : ℕ) → scratch_size ≤ s → 2 * n ≤ p → refusal layout (layout_given (cells_of (take n t')) al s p) ≡ none
  then-layout s p a b = rw (first-records, told.2) (file-layout f passes s p a (omega (arith, told.1)))

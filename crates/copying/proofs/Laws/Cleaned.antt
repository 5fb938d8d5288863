-- The clean copy of a plan file, as the code comes to it. Assumes nothing.
use Rattle.std.specs.Prelude.{◌≡◌, List, [], ◌∷◌, ◌++◌, Result, Ok, Err, IsErrAnd, map, ℕ, zero, suc, ◌+◌, ◌≤◌, ◌<◌, length, take}
use Rattle.std.proofs.Math.Path.{refl}
use Rattle.std.proofs.Common.{sym, ap, ◌∙◌}
use native.Mathlib.Omega.{arith}
use Rattle.std.proofs.Math.Decide.{ℕ_discrete}
use borrow.Author.Tests.{eq-eqb, ne_eqb}
use Rattle.std.proofs.Math.ListN.{drop}
use Rattle.plan.specs.Limits.{most_cells, most_file, trailer_size}
use Rattle.plan.specs.Lists.{from}
use Rattle.plan.specs.Records.{cells_of}
use Rattle.plan.specs.Columns.{table_of}
use Rattle.plan.specs.Questions.{to_fill, nothing, none, read, refusal}
use Rattle.plan.proofs.Laws.Questions.{both-none}
use Rattle.plan.specs.declared.Record.{Record}
use Rattle.plan.specs.declared.Lettered.{Lettered}
use Rattle.plan.specs.declared.Refusal.{Refusal}
use Rattle.planfile_spec.specs.Read.{Reading, plan_of, answer_of}
use Rattle.planfile_spec.specs.Format.{trailer_of, entry, records_of, file_given}
use Rattle.planfile_spec.specs.Reading.{columns_of, reading_of}
use Rattle.planfile_spec.specs.FileSteps.{header_refusal, body_refusal, file_refusal}
use Rattle.planfile_spec.proofs.Laws.File.{read_refusal}
use Rattle.planfile_spec.proofs.Laws.Examined.{Headed, header_read, column-at, same-table}
use Rattle.records.specs.Apart.{row_at, records_in}
use Rattle.content.specs.Content.{letters_of, file_content}
use Rattle.content.specs.Clean.{copy, file_copy, copy_refusal}
use Rattle.content.proofs.Promised.{read_copied}
use Rattle.content.proofs.Laws.Promised.{copy_passed, copy_small}
use Rattle.planfile_spec.proofs.Laws.Answer.{read_answer, err_passes}
use Rattle.plan.proofs.Laws.Answered.{answered_none, answered_some, refused_by, answers_err}
use Rattle.copying.specs.Copied.{copied_of, output_after, Copies, cleaned_of, cleaned_after, size, Cleans}

-- the records of a reading, with their labels
abbrev pub lettered : Reading → Lettered
lettered p = record { columns = p.columns; label_length = p.label_length; label_start = p.label_start }

pub rows_same : (g e : ℕ → Record) (k d : ℕ) → ((c : ℕ) → k ≤ c → c < k + d → g c ≡ e c) → map g (from k d) ≡ map e (from k d)
unfolding from
rows_same g e k zero h = refl
rows_same g e k (suc d) h = cc (h k (omega arith) (omega arith), rows_same g e (suc k) d (λ c p q. h c (omega arith) (omega arith)))

-- the copy of what is read is the copy of the file
copy-file : (f : List ℕ) → copy (records_of f) (letters_of f) (trailer_of f).allowance ≡ file_copy f
unfolding file_content
copy-file f = refl

module _ (f : List ℕ) where
  abbrev pub why : Refusal
  why = refusal read (file_given f (to_fill most_cells ∷ []) nothing)

  abbrev pub plan : Reading
  plan = columns_of none (trailer_of f).allowance (trailer_of f).count (entry f)

  pub refused_reading : ¬ (why.number ≡ 0) → (reading_of f most_cells).refusal ≡ why
  unfolding reading_of columns_of
  refused_reading z = rw (ne_eqb why.number 0 z) refl

  pub passed_reading : why.number ≡ 0 → reading_of f most_cells ≡ plan
  unfolding reading_of
  passed_reading z = rw (eq-eqb why.number 0 z) refl

  pub none-refused : plan.refusal.number ≡ 0
  unfolding columns_of
  none-refused = refl

  pub plan_allowance : plan.allowance ≡ (trailer_of f).allowance
  unfolding columns_of
  plan_allowance = refl

  written_is : why.number ≡ 0 → (out out' : List ℕ) (d : Result ℕ Refusal) → d ≡ Ok (length (file_copy f)) → out' ≡ file_copy f ++ drop (length (file_copy f)) out → length (file_copy f) ≤ most_file → Cleans f out out' d
  unfolding cleaned_of cleaned_after size
  written_is z out out' d a b h = record { answers = a ∙ sym (answered_none why _ z); output = rw a b; suffices = rw a h }

  -- ---- of a file that Read accepts
  module _ (z : why.number ≡ 0) where
    pub headed : Headed f
    unfolding file_refusal
    headed = header_read f (both-none (header_refusal f) (body_refusal f) (both-none _ (file_refusal f) (ap (λ (x : Refusal). x.number) (sym (read_refusal f most_cells)) ∙ z)).1).0

    plan-row : (c : ℕ) → c < (trailer_of f).count → row_at (lettered plan) c ≡ entry f c
    unfolding columns_of
    plan-row c l =
        let h : (trailer_of f).count ≤ most_cells = headed.full.few in
        rw (
          column-at (λ c. (entry f c).parent) _ c h l,
          column-at (λ c. (entry f c).kind) _ c h l,
          column-at (λ c. (entry f c).width) _ c h l,
          column-at (λ c. (entry f c).depth) _ c h l,
          column-at (λ c. (entry f c).rank) _ c h l,
          column-at (λ c. (entry f c).label_length) _ c h l,
          column-at (λ c. (entry f c).label_start) _ c h l,
        ) refl

    plan-count : plan.columns.count ≡ (trailer_of f).count
    unfolding columns_of
    plan-count = refl

    pub plan-records : records_in (lettered plan) ≡ records_of f
    unfolding records_in records_of
    plan-records = rw plan-count (rows_same (row_at (lettered plan)) (entry f) 0 (trailer_of f).count (λ c p q. plan-row c (omega arith)))

    copied_is : (out out' : List ℕ) (d : Result ℕ Refusal) → most_file ≤ length out → Copies (records_of f) (letters_of f) (trailer_of f).allowance out out' d → Cleans f out out' d
    unfolding copied_of output_after
    copied_is out out' d room g =
        let q : (copy_refusal (records_of f) (letters_of f) (trailer_of f).allowance (length out)).number ≡ 0 = read_copied f most_cells (length out) z room in
        let a : d ≡ Ok (length (file_copy f)) = g.answers ∙ answered_none _ _ q ∙ rw (copy-file f) refl in
        let b : out' ≡ file_copy f ++ drop (length (file_copy f)) out = g.output ∙ rw (a, copy-file f) refl in
        let s = copy_small (records_of f) (letters_of f) (trailer_of f).allowance (copy_passed (records_of f) (letters_of f) (trailer_of f).allowance (length out) q).1 in
        written_is z out out' d a b (rw (copy-file f) at s)

  -- ---- of one that it refuses
  pub clean-refused : (out : List ℕ) (e : Refusal) (y : Result ℕ Refusal) → Err e ≡ answer_of (reading_of f most_cells) → IsErrAnd y (λ d. d ≡ e) → Cleans f out out y
  unfolding cleaned_of cleaned_after size
  clean-refused out e y h p =
      let g = h ∙ read_answer f most_cells in
      let a = answers_err (length (file_copy f)) why e y (err_passes why (plan_of plan) e g) p in
      let q : y ≡ Err why = a ∙ answered_some why (length (file_copy f)) (refused_by why (plan_of plan) e g).1 in
      record { answers = a; output = rw q refl; suffices = rw q (omega arith) }

  -- ---- as the code has the reading
  module _ (p : Reading) (e : p ≡ reading_of f most_cells) where
    pub passes : p.refusal.number ≡ 0 → why.number ≡ 0
    passes z = go (ℕ_discrete why.number 0)
      where
        go : Dec (why.number ≡ 0) → why.number ≡ 0
        go (yes y) = y
        go (no y) = absurd (y (ap (λ (x : Refusal). x.number) (sym (ap (λ (x : Reading). x.refusal) e ∙ refused_reading y)) ∙ z))

    module _ (z : p.refusal.number ≡ 0) where
      pub clean-long : trailer_size ≤ length f
      clean-long = omega (arith, (headed (passes z)).long)

      pub clean-begin : (trailer_of f).begin ≤ length f
      clean-begin = omega (arith, (headed (passes z)).full.exact)

      plan-is : p ≡ plan
      plan-is = e ∙ passed_reading (passes z)

      -- the records, the table and the allowance of the reading are the file's
      pub clean-records : records_in (lettered p) ≡ records_of f
      clean-records = ap (λ (x : Reading). records_in (lettered x)) plan-is ∙ plan-records (passes z)

      pub clean-table : table_of p.columns ≡ cells_of (records_of f)
      clean-table = ap (λ (x : Reading). table_of x.columns) plan-is ∙ same-table f (headed (passes z))

      pub clean_allowance : p.allowance ≡ (trailer_of f).allowance
      clean_allowance = ap (λ (x : Reading). x.allowance) plan-is ∙ plan_allowance

      pub clean_copied : (letters : List ℕ) (al : ℕ) → letters ≡ take (trailer_of f).begin f → al ≡ p.allowance → (out out' : List ℕ) (d : Result ℕ Refusal) → most_file ≤ length out
          → Copies (records_in (lettered p)) letters al out out' d → Cleans f out out' d
      clean_copied letters al l a out out' d room g =
          let s : letters ≡ letters_of f = unfold letters_of in l in
          copied_is (passes z) out out' d room (rw (clean-records, s, a ∙ clean_allowance) at g)

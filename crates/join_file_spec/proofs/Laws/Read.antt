-- A file that Read accepts: what the writer asks of its records and label bytes, and where its labels stand. Nothing that a reader must believe stands here. Assumes nothing.
use Rattle.std.specs.Prelude.{◌≡◌, ℕ, zero, suc, ◌+◌, ◌-◌, ◌≤◌, ◌<◌, leb, length, get_or, drop}
use Rattle.std.proofs.Math.Path.{refl, sym, ap}
use Rattle.std.proofs.Common.{◌∙◌, arith, ne_eqb, take-append-drop}
use mathlib.Core.List.{List, [], ◌∷◌}
use Rattle.std.proofs.Math.Nat.{zero-add}
use Rattle.std.proofs.Math.Decide.{ℕ_discrete}
use Rattle.std.proofs.Math.Dec.{leb→le}
use Rattle.std.proofs.Math.ListN.{take, get_or-map}
use Rattle.std.proofs.lemmas.List.{length-map}
use Rattle.std.proofs.Math.Seq.{length-take-le}
use Rattle.plan.specs.Limits.{between, most_cells, least_file, most_file}
use Rattle.plan.proofs.Laws.Columns.{get_or_from}
use Rattle.plan.specs.Records.{bare}
use Rattle.plan.specs.Questions.{to_fill, nothing, read, refusal, asked}
use Rattle.plan.proofs.Laws.Questions.{both-none, asked_yes}
use Rattle.plan.proofs.Laws.Steps.{and_right}
use Rattle.plan.specs.declared.Record.{Record}
use Rattle.plan.specs.declared.Refusal.{Refusal}
use Rattle.planfile_spec.specs.Format.{trailer_of, entry, records_of, file_given}
use Rattle.planfile_spec.specs.Reading.{columns_of, reading_of, label_part}
use Rattle.planfile_spec.specs.FileSteps.{formed_refusal, header_refusal, body_refusal, file_refusal}
use Rattle.planfile_spec.proofs.Laws.File.{records-length, read_refusal}
use Rattle.planfile_spec.proofs.Laws.Examined.{Headed, header_read}
use Rattle.planfile_spec.proofs.Laws.ReadThen.{file-label, part_of_record}
use Rattle.planfile.specs.Subslice.{bytes_in}
use Rattle.content.specs.Content.{Item, text_of, item_of, content, letters_of, file_content}
use Rattle.content.proofs.Laws.Promised.{file-written}
use Rattle.join_file_spec.proofs.Laws.Contents.{AllInside, text-first}
use Rattle.join_file_spec.proofs.Laws.Asked.{Parts, parts, rows_inside}

-- ---- from Read's answer to the questions
module _ (f : List ℕ) where
  abbrev stop : Refusal
  stop = refusal read (file_given f (to_fill most_cells ∷ []) nothing)

  refused_reading : ¬ (stop.number ≡ 0) → (reading_of f most_cells).refusal ≡ stop
  unfolding reading_of columns_of
  refused_reading y = rw (ne_eqb stop.number 0 y) refl

  stop_zero : (reading_of f most_cells).refusal.number ≡ 0 → Dec (stop.number ≡ 0) → stop.number ≡ 0
  stop_zero z (yes y) = y
  stop_zero z (no y) = absurd (y (ap (λ (x : Refusal). x.number) (sym (refused_reading y)) ∙ z))

  pub read-passes : (reading_of f most_cells).refusal.number ≡ 0 → (file_refusal f).number ≡ 0
  read-passes z =
      let y = stop_zero z (ℕ_discrete stop.number 0) in
      (both-none _ (file_refusal f) (ap (λ (x : Refusal). x.number) (sym (read_refusal f most_cells)) ∙ y)).1

-- ---- what they establish
abbrev no_record : Record
no_record = record { parent = 0; kind = 0; width = 0; depth = 0; rank = 0; label_length = 0; label_start = 0 }

abbrev pub no_item : Item
no_item = record { cell = record { parent = 0; kind = 0; width = 0; depth = 0; rank = 0 }; text = [] }

inside-at : (n : ℕ) (rs : List Record) (i : ℕ) → AllInside n rs → i < length rs → (get_or rs i no_record).label_start + (get_or rs i no_record).label_length ≤ n
inside-at n [] i h l = absurd (omega arith)
inside-at n (r ∷ rs) zero h l = h.0
inside-at n (r ∷ rs) (suc i) h l = inside-at n rs i h.1 (omega arith)

module _ (f : List ℕ) (z : (file_refusal f).number ≡ 0) where
  header : (header_refusal f).number ≡ 0
  unfolding file_refusal
  header = (both-none (header_refusal f) (body_refusal f) z).0

  pub headed : Headed f
  headed = header_read f header

  pub file_short : length f ≤ most_file
  unfolding header_refusal formed_refusal
  file_short =
      let (formed, five) = both-none (formed_refusal f) _ header in
      let (two, rest) = both-none (asked 2 (between least_file most_file (length f)) 0) _ formed in
      leb→le (length f) most_file (and_right (leb least_file (length f)) _ (asked_yes 1 (between least_file most_file (length f)) 0 two))

  pub begin-inside : (trailer_of f).begin ≤ length f
  begin-inside = omega (arith, headed.full.exact)

  pub letters-long : length (letters_of f) ≡ (trailer_of f).begin
  unfolding letters_of
  letters-long = length-take-le (trailer_of f).begin f begin-inside

  pub file-parts : Parts (records_of f) (letters_of f) (trailer_of f).allowance
  file-parts = parts (records_of f) (letters_of f) (trailer_of f).allowance (file-written f z)

  pub all-inside : AllInside (length (letters_of f)) (records_of f)
  all-inside = rows_inside _ (length (letters_of f)) 0 (records_of f) file-parts.rows

  -- ---- its labels
  module _ (i : ℕ) (h : i < (trailer_of f).count) where
    record_is : get_or (records_of f) i no_record ≡ entry f i
    unfolding records_of
    record_is = rw zero-add at (get_or_from (entry f) no_record 0 (trailer_of f).count i h)

    pub record_inside : (get_or (records_of f) i no_record).label_start + (get_or (records_of f) i no_record).label_length ≤ length (letters_of f)
    record_inside = inside-at (length (letters_of f)) (records_of f) i all-inside (omega (arith, records-length f))

    entry-inside : (entry f i).label_start + (entry f i).label_length ≤ length (letters_of f)
    entry-inside = rw record_is at record_inside

    whole-text : take (entry f i).label_length (drop (entry f i).label_start f) ≡ text_of (letters_of f) (entry f i)
    unfolding letters_of text_of
    whole-text =
        ap (λ (x : List ℕ). take (entry f i).label_length (drop (entry f i).label_start x)) (sym (take-append-drop (trailer_of f).begin f))
        ∙ text-first (letters_of f) (drop (trailer_of f).begin f) (entry f i) entry-inside

    -- what Label lends is the text of the content
    pub label_text : bytes_in f (label_part f i) ≡ text_of (letters_of f) (entry f i)
    label_text =
        let s = (entry f i).label_start in
        let l = (entry f i).label_length in
        let e : s + l - s ≡ l = omega arith in
        rw (part_of_record f i (file-label f z i h), e) whole-text

    item-is : get_or (file_content f).items i no_item ≡ item_of (letters_of f) (entry f i)
    unfolding file_content content item_of text_of bare
    item-is = get_or-map (item_of (letters_of f)) (records_of f) i no_record ∙ ap (item_of (letters_of f)) record_is

    pub label-item : bytes_in f (label_part f i) ≡ (get_or (file_content f).items i no_item).text
    unfolding item_of
    label-item = label_text ∙ sym (ap (λ (x : Item). x.text) item-is)

-- ---- its content
pub items-count : (f : List ℕ) → length (file_content f).items ≡ (trailer_of f).count
unfolding file_content content
items-count f = length-map (records_of f) (item_of (letters_of f)) ∙ records-length f

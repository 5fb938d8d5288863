-- The answers of Read and Label from the plan examined; a label lies inside the file. Assumes nothing.
use Rattle.std.specs.Prelude.{◌≡◌, List, [], ◌∷◌, ℕ, ◌+◌, ◌*◌, ◌≤◌, ◌<◌, leb, ltb, length}
use Rattle.std.proofs.Math.Path.{refl, sym}
use Rattle.std.proofs.Common.{ap, ◌∙◌, arith, leb→le, ltb→lt}
use Rattle.std.proofs.Math.Decide.{ℕ_discrete}
use borrow.Author.Tests.{eq-eqb, ne_eqb}
use Rattle.plan.specs.Limits.{most_cells, most_label, trailer_size}
use Rattle.plan.specs.Forms.{form_of, record_size, widest}
use Rattle.plan.proofs.Laws.Form as forms
use Rattle.plan.specs.Questions.{to_fill, nothing, none, read, refusal, asked, or_else}
use Rattle.plan.proofs.Laws.Questions.{first-none, first_some, both-none, asked_yes, each_none}
use Rattle.plan.specs.Steps.{cell_refusal}
use Rattle.plan.proofs.Laws.Steps.{and_right}
use Rattle.plan.specs.declared.Record.{Record}
use Rattle.plan.specs.declared.Refusal.{Refusal}
use Rattle.plan.specs.declared.forms.Form.{Form}
use Rattle.planfile_spec.specs.Read.{Reading}
use Rattle.planfile_spec.specs.declared.Part.{Part}
use Rattle.planfile_spec.specs.declared.Trailer.{Trailer}
use Rattle.planfile_spec.specs.Format.{trailer_of, form, record_at, entry, file_given}
use Rattle.planfile_spec.specs.Reading.{column, columns_of, reading_of, label_refusal, label_part}
use Rattle.planfile_spec.specs.FileSteps.{inside, record_refusal, entry_refusal, blank_reading, header_refusal, body_refusal, file_refusal, examined}
use Rattle.planfile_spec.proofs.Laws.File.{read_refusal, label_refusal-is}
use Rattle.planfile_spec.proofs.Laws.Examined.{zero_of, Headed, header_read}

-- ---- Read
module _ (f : List ℕ) (room : ℕ) (r : Refusal) (e : r ≡ asked 1 (leb most_cells room) 0) where
  abbrev whole : Refusal
  whole = refusal read (file_given f (to_fill room ∷ []) nothing)

  pub read_short : ¬ (r.number ≡ 0) → blank_reading r ≡ reading_of f room
  unfolding reading_of columns_of column
  read_short z =
      let w : whole ≡ r = read_refusal f room ∙ first_some _ _ (λ q. z (zero_of _ _ (sym e) q)) ∙ sym e in
      rw (w, ne_eqb r.number 0 z)

  pub read-on : r.number ≡ 0 → examined f ≡ reading_of f room
  unfolding reading_of examined
  read-on z =
      let w : whole ≡ file_refusal f = read_refusal f room ∙ first-none _ _ (zero_of _ _ e z) in
      rw w

-- ---- Label's refusal
module _ (f : List ℕ) where
  examined-first : (x : Refusal) → or_else (examined f).refusal x ≡ or_else (file_refusal f) x
  unfolding examined columns_of
  examined-first x = go (ℕ_discrete (file_refusal f).number 0)
    where
      go : Dec ((file_refusal f).number ≡ 0) → or_else (examined f).refusal x ≡ or_else (file_refusal f) x
      go (yes z) = rw (eq-eqb (file_refusal f).number 0 z) (first-none none x refl ∙ sym (first-none (file_refusal f) x z))
      go (no z) = rw (ne_eqb (file_refusal f).number 0 z)

  examined-count : (examined f).refusal.number ≡ 0 → (examined f).columns.count ≡ (trailer_of f).count
  unfolding examined columns_of
  examined-count z = go (ℕ_discrete (file_refusal f).number 0)
    where
      go : Dec ((file_refusal f).number ≡ 0) → (examined f).columns.count ≡ (trailer_of f).count
      go (yes q) = rw (eq-eqb (file_refusal f).number 0 q)
      go (no q) = absurd (q (rw (ne_eqb (file_refusal f).number 0 q) at z))

  module _ (c : ℕ) (p : Reading) (e : p ≡ examined f) where
    pub label-stops : ¬ (p.refusal.number ≡ 0) → p.refusal ≡ label_refusal f c
    label-stops z = sym (label_refusal-is f c ∙ sym (examined-first _) ∙ rw (← e) (first_some p.refusal _ z))

    pub label-goes_on : p.refusal.number ≡ 0 → asked 16 (ltb c p.columns.count) 0 ≡ label_refusal f c
    label-goes_on z =
        let n : p.columns.count ≡ (trailer_of f).count = ap (λ (x : Reading). x.columns.count) e ∙ examined-count (ap (λ (x : Reading). x.refusal.number) (sym e) ∙ z) in
        rw n (sym (label_refusal-is f c ∙ sym (examined-first _) ∙ rw (← e) (first-none p.refusal _ z)))

-- ---- Label
-- a record that question 9 passes
pub record Labelled (f : List ℕ) (c : ℕ) : Type 0 where
  pub headed : Headed f
  pub is : c < (trailer_of f).count
  pub inside_file : (entry f c).label_start + (entry f c).label_length ≤ length f

record_inside : (form : Form) (begin c p k w d l s : ℕ) → (record_refusal form begin c p k w d l s).number ≡ 0 → s + l ≤ begin
unfolding record_refusal
record_inside form begin c p k w d l s e =
    let (a, r) = both-none (cell_refusal (widest form) c p k w d) _ e in
    let (b, q) = both-none (asked 9 (inside begin l s) c) _ r in
    leb→le (s + l) begin (and_right (leb l most_label) _ (asked_yes 8 (inside begin l s) c b))

pub label-read : (f : List ℕ) (c : ℕ) → (label_refusal f c).number ≡ 0 → Labelled f c
unfolding file_refusal body_refusal
label-read f c z =
    let (files, named) = both-none (file_refusal f) _ (zero_of _ _ (label_refusal-is f c) z) in
    let (header, body) = both-none (header_refusal f) (body_refusal f) files in
    let (records, rest) = both-none _ _ body in
    let i : c < (trailer_of f).count = ltb→lt c _ (asked_yes 15 _ 0 named) in
    let h = header_read f header in
    let r = record_inside (form f) (trailer_of f).begin c _ _ _ _ (entry f c).label_length (entry f c).label_start (each_none (entry_refusal f) (trailer_of f).count records c i) in
    record { headed = h; is = i; inside_file = omega (arith, h.full.exact) }

pub part_none : (f : List ℕ) (c : ℕ) → ¬ ((label_refusal f c).number ≡ 0) → label_part f c ≡ record { start = 0; end = 0 }
unfolding label_part
part_none f c z = rw (ne_eqb (label_refusal f c).number 0 z)

module _ (f : List ℕ) (c : ℕ) (r : Refusal) (e : r ≡ label_refusal f c) where
  pub part-refused : ¬ (r.number ≡ 0) → ◌≡◌ {A = Part} (record { start = 0; end = 0 }) (label_part f c)
  part-refused z = sym (part_none f c (λ q. z (zero_of _ _ (sym e) q)))

  pub part_given : r.number ≡ 0 → (x : Record) → x ≡ entry f c
      → ◌≡◌ {A = Part} (record { start = x.label_start; end = x.label_start + x.label_length }) (label_part f c)
  unfolding label_part
  part_given z x q = rw (← e, eq-eqb r.number 0 z, q)

-- the part lies in the file
pub part-inside : (f : List ℕ) (c : ℕ) → ((label_part f c).start ≤ (label_part f c).end) × ((label_part f c).end ≤ length f)
unfolding label_part
part-inside f c = go (ℕ_discrete (label_refusal f c).number 0)
  where
    go : Dec ((label_refusal f c).number ≡ 0) → ((label_part f c).start ≤ (label_part f c).end) × ((label_part f c).end ≤ length f)
    go (yes z) = rw (eq-eqb (label_refusal f c).number 0 z) (omega arith, (label-read f c z).inside_file)
    go (no z) = rw (ne_eqb (label_refusal f c).number 0 z) (omega arith, omega arith)

-- the same, as the code has it
module _ (f : List ℕ) (c : ℕ) (r : Refusal) (e : r ≡ label_refusal f c) (z : r.number ≡ 0) where
  labelled : Labelled f c
  labelled = label-read f c (zero_of r _ e z)

  pub trailer_there : trailer_size ≤ length f
  trailer_there = omega (arith, labelled.headed.long)

  module _ (t : Trailer) (q : t ≡ trailer_of f) where
    -- the cell's record stands in the file
    pub record_there : (c < most_cells) × (t.begin + record_size (form_of t.mark) * c + record_size (form_of t.mark) ≤ length f)
    record_there =
        let h = labelled.headed.full in
        let i = labelled.is in
        rw q (omega (arith, h.few), omega (arith, h.exact, forms.record_inside (record_size (form f)) c (trailer_of f).count i))

    pub record_is : record_at (form_of t.mark) f (t.begin + record_size (form_of t.mark) * c) ≡ entry f c
    unfolding entry
    record_is = rw q

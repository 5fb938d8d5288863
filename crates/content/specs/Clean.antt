-- Document 02, E4: THE CLEAN COPY, the plan file of a content, with labels in cell order, back to back, none shared, no byte unused. Assumes nothing.
use Rattle.std.specs.Prelude.{List, [], ◌∷◌, ◌++◌, map, Bool, true, ◌&&◌, cond, ℕ, ◌+◌, ◌/◌, ◌%◌, eqb, leb, length, replicate}
use Rattle.plan.specs.Limits.{old_width, old_mark, wide_mark, trailer_size}
use Rattle.plan.specs.Forms.{record_size}
use Rattle.plan.specs.Records.{cells_of}
use Rattle.plan.specs.Questions.{copy_given, refusal}
use Rattle.plan.specs.Questions as asked
use Rattle.plan.specs.declared.Record.{Record}
use Rattle.plan.specs.declared.Refusal.{Refusal}
use Rattle.plan.specs.declared.forms.Form.{Form}
use Rattle.plan.specs.declared.forms.Form.TheVariants.{Old, Wide}
use Rattle.planfile_spec.specs.declared.Trailer.{Trailer}
use Rattle.planfile_spec.specs.Fields.{set_record, set_trailer}
use Rattle.planfile_spec.specs.Format.{label_in}
use Rattle.content.specs.Content.{Item, Content, content, file_content}

-- ---- the form (document 02, E7 and E13): old where every width fits it and every rank is 0, the root's too
unfoldable pub narrow : Item → Bool
narrow i = leb i.cell.width old_width && eqb i.cell.rank 0

unfoldable pub all_narrow : List Item → Bool
all_narrow [] = true
all_narrow (i ∷ is) = narrow i && all_narrow is

unfoldable pub form_for : List Item → Form
form_for is = cond (all_narrow is) Old Wide

unfoldable pub mark_of : Form → ℕ
mark_of Old = old_mark
mark_of Wide = wide_mark

-- ---- the labels, back to back
unfoldable pub labels : List Item → List ℕ
labels [] = []
labels (i ∷ is) = i.text ++ labels is

-- ---- the records: each label begins where the one before ends, so that an empty one begins where a next one would
unfoldable pub record_of : Item → (start : ℕ) → Record
record_of i s =
    record {
      parent = i.cell.parent;
      kind = i.cell.kind;
      width = i.cell.width;
      depth = i.cell.depth;
      rank = i.cell.rank;
      label_length = length i.text;
      label_start = s;
    }

unfoldable pub entries : (start : ℕ) → List Item → List Record
entries s [] = []
entries s (i ∷ is) = record_of i s ∷ entries (s + length i.text) is

-- the bytes of a record and of the trailer: the fields set at the places where the reader has them
unfoldable pub record_bytes : Form → Record → List ℕ
record_bytes form r = set_record form (replicate (record_size form) 0) 0 r

unfoldable pub records_bytes : Form → List Record → List ℕ
records_bytes form [] = []
records_bytes form (r ∷ rs) = record_bytes form r ++ records_bytes form rs

unfoldable pub trailer_bytes : Trailer → List ℕ
trailer_bytes t = set_trailer (replicate trailer_size 0) 0 t

-- ---- THE clean copy of a content
unfoldable pub clean_end : Content → Trailer
clean_end c = record { begin = length (labels c.items); count = length c.items; allowance = c.allowance; mark = mark_of (form_for c.items) }

unfoldable pub clean : Content → List ℕ
clean c = labels c.items ++ (records_bytes (form_for c.items) (entries 0 c.items) ++ trailer_bytes (clean_end c))

-- of a table, its label bytes and an allowance; of a file
abbrev pub copy : List Record → (letters : List ℕ) → (allowance : ℕ) → List ℕ
copy rs letters al = clean (content rs letters al)

abbrev pub file_copy : List ℕ → List ℕ
file_copy f = clean (file_content f)

-- ---- the writer's refusal, into an output of so many bytes: 1, 4 (of n), 5 to 10 (against the lent label bytes), 11 to 14
unfoldable pub copy_refusal : List Record → (letters : List ℕ) → (allowance output : ℕ) → Refusal
copy_refusal rs letters al room = refusal asked.copy (copy_given (cells_of rs) (map label_in rs) letters al room)

-- a number of two bytes, before the bytes l
abbrev pub two : ℕ → List ℕ → List ℕ
two n l = n % 256 ∷ n / 256 ∷ l

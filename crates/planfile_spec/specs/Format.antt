-- Document 01, "File", with the wide form of document 02, E7: what the bytes of a plan file say. Every definition is total; the questions say which files are plans. Assumes nothing.
use Rattle.std.specs.Prelude.{List, [], map, ℕ, ◌+◌, ◌-◌, ◌*◌, length, take}
use Rattle.plan.specs.Limits.{trailer_size}
use Rattle.plan.specs.Forms.{form_of, record_size}
use Rattle.plan.specs.Lists.{from}
use Rattle.plan.specs.Records.{cells_of}
use Rattle.plan.specs.Questions.{Buffer, absent, Subject, Label, file, Given}
use Rattle.plan.specs.declared.Record.{Record}
use Rattle.plan.specs.declared.forms.Form.{Form}
use Rattle.planfile_spec.specs.declared.Trailer.{Trailer}
use Rattle.planfile_spec.specs.Fields.{number_at, parent_place, kind_place, width_place, depth_place, length_place, rank_place, start_place, begin_place, count_place, allowance_place, mark_place}

-- the trailer, the last 8 bytes, which points back
unfoldable pub trailer_of : List ℕ → Trailer
trailer_of f =
    let at = length f - trailer_size in
    record { begin = number_at begin_place f at; count = number_at count_place f at; allowance = number_at allowance_place f at; mark = number_at mark_place f at }

-- the mark decides the form
abbrev pub form : List ℕ → Form
form f = form_of (trailer_of f).mark

-- the record at a place
unfoldable pub record_at : Form → List ℕ → ℕ → Record
record_at form f at =
    record {
      parent = number_at (parent_place form) f at;
      kind = number_at (kind_place form) f at;
      width = number_at (width_place form) f at;
      depth = number_at (depth_place form) f at;
      rank = number_at (rank_place form) f at;
      label_length = number_at (length_place form) f at;
      label_start = number_at (start_place form) f at;
    }

-- record c of the file
abbrev pub place : List ℕ → ℕ → ℕ
place f c = (trailer_of f).begin + record_size (form f) * c

unfoldable pub entry : List ℕ → ℕ → Record
entry f c = record_at (form f) f (place f c)

unfoldable pub records_of : List ℕ → List Record
records_of f = map (entry f) (from 0 (trailer_of f).count)

abbrev pub label_in : Record → Label
label_in r = record { start = r.label_start; size = r.label_length }

-- what a call on a file is given: the file, the table to fill, if there is one, and the cell named, if one is
unfoldable pub file_given : List ℕ → List Buffer → Subject → Given
file_given f buffers subject =
    record {
      source = file (record {
        size = length f;
        mark = (trailer_of f).mark;
        begin = (trailer_of f).begin;
        letters = take (trailer_of f).begin f;
        labels = map label_in (records_of f);
      });
      table = cells_of (records_of f);
      allowance = (trailer_of f).allowance;
      buffers = buffers;
      positions = absent;
      coordinates = [];
      subject = subject;
    }

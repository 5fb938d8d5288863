-- Document 02, E11: the bytes of records whose boxes are mended. Every definition computes. Assumes nothing.
use Rattle.std.specs.Prelude.{◌≢◌, List, cond, ℕ, zero, suc, ◌+◌, ◌*◌}
use Rattle.plan.specs.Forms.{record_size}
use Rattle.plan.specs.declared.Record.{Record}
use Rattle.plan.specs.declared.forms.Form.{Form}
use Rattle.planfile_spec.specs.Fields.{Place, nowhere, byte, two, set_number, width_place, depth_place}
use Rattle.mending_boxes.specs.Boxes.{least_width, narrow, flat}

-- a record r whose bytes begin at a place: "raises each such width to label length plus border and each depth 0 to 1"
unfoldable pub raise_width : Form → (at : ℕ) → Record → List ℕ → List ℕ
raise_width form at r b = cond (narrow r) (set_number (width_place form) b at (least_width r.kind r.label_length)) b

unfoldable pub raise_depth : Form → (at : ℕ) → Record → List ℕ → List ℕ
raise_depth form at r b = cond (flat r) (set_number (depth_place form) b at 1) b

unfoldable pub mend_record : Form → (at : ℕ) → Record → List ℕ → List ℕ
mend_record form at r b = raise_depth form at r (raise_width form at r b)

-- the first n records from begin on, e of them
unfoldable pub mend_records : Form → (begin : ℕ) → (ℕ → Record) → List ℕ → ℕ → List ℕ
mend_records form begin e b zero = b
mend_records form begin e b (suc n) = mend_record form (begin + record_size form * n) (e n) (mend_records form begin e b n)

-- byte i is no byte of a number at a place, from `at` on
abbrev pub Beside : Place → (at i : ℕ) → Type 0
Beside nowhere at i = Unit {0}
Beside (byte k) at i = i ≢ at + k
Beside (two k) at i = (i ≢ at + k) × (i ≢ at + k + 1)

-- nor a width or depth byte of the record at `at`
pub record Off (form : Form) (at i : ℕ) : Type 0 where
  pub width : Beside (width_place form) at i
  pub depth : Beside (depth_place form) at i

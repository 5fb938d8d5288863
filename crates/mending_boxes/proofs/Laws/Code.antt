-- From what each function has to what it promises: for the code. Nothing that a reader must believe stands here. Assumes nothing.
use Rattle.std.specs.Prelude.{◌≡◌, true, false, List, length}
use Rattle.std.proofs.Math.Path.{refl}
use Rattle.std.proofs.Common.{sym, ◌∙◌}
use Prim.Native.Nat.{ℕ, suc, ◌+◌, ◌*◌, ◌≤◌, ◌<◌}
use native.Mathlib.Omega.{arith}
use Rattle.whole.proofs.Laws.Says.{holds}
use Rattle.plan.specs.Limits.{most_cells}
use Rattle.plan.specs.Forms.{record_size}
use Rattle.plan.proofs.Laws.Form.{record_inside}
use Rattle.plan.specs.Kinds.{about}
use Rattle.plan.specs.declared.Record.{Record}
use Rattle.plan.specs.declared.forms.Form.{Form}
use Rattle.plan.specs.declared.forms.Form.TheVariants.{Old, Wide}
use Rattle.plan.specs.declared.kinds.Kind.{Kind}
use Rattle.std.specs.Prelude.{Option}
use Rattle.std.specs.Prelude.{Some}
use Rattle.planfile_spec.specs.Fields.{set_number, width_place, depth_place}
use Rattle.planfile_spec.specs.Format.{form, record_at}
use Rattle.mending_boxes.specs.Boxes.{least_width, narrow, flat, new_width, new_depth}
use Rattle.mending_boxes.specs.Raised.{raise_width, raise_depth, mend_record, mend_records}
use Rattle.mending_boxes.proofs.Laws.Boxes.{least_small, says_cramped, mendable_short}
use Rattle.mending_boxes.proofs.Laws.Bytes.{mends_length}

-- ---- one box
pub least_known : (k n : ℕ) (l : Option Kind) (r : Kind) → l ≡ about k → l ≡ Some r → n + r.border ≡ least_width k n
unfolding least_width
least_known k n l r e q = let d : about k ≡ Some r = sym e ∙ q in rw (d, least_width)

module _ (r : Record) where
  pub new_width-raised : {w : ℕ} → narrow r ≡ true → w ≡ least_width r.kind r.label_length → w ≡ new_width r
  unfolding new_width
  new_width-raised e q = q ∙ rw e refl

  pub new_width-left : narrow r ≡ false → r.width ≡ new_width r
  unfolding new_width
  new_width-left e = rw e refl

  pub new_depth-raised : flat r ≡ true → 1 ≡ new_depth r
  unfolding new_depth
  new_depth-raised e = rw e refl

  pub new_depth-left : flat r ≡ false → r.depth ≡ new_depth r
  unfolding new_depth
  new_depth-left e = rw e refl

  -- the new width is a byte
  pub least-byte : {w : ℕ} → narrow r ≡ true → w ≡ least_width r.kind r.label_length → w < 256
  least-byte e q =
      let p = holds (says_cramped r.kind r.label_length r.width) e in
      omega (arith, q, least_small r.kind r.label_length, mendable_short r.kind r.label_length p.0)

  module _ (form : Form) (at : ℕ) (b : List ℕ) where
    pub width-put : {o : List ℕ} {w : ℕ} → narrow r ≡ true → w ≡ least_width r.kind r.label_length → o ≡ set_number (width_place form) b at w → o ≡ raise_width form at r b
    unfolding raise_width
    width-put e q p = p ∙ rw (e, q) refl

    pub width-kept : narrow r ≡ false → b ≡ raise_width form at r b
    unfolding raise_width
    width-kept e = rw e refl

    pub depth_put : {o : List ℕ} → flat r ≡ true → o ≡ set_number (depth_place form) b at 1 → o ≡ raise_depth form at r b
    unfolding raise_depth
    depth_put e p = p ∙ rw e refl

    pub depth_kept : flat r ≡ false → b ≡ raise_depth form at r b
    unfolding raise_depth
    depth_kept e = rw e refl

-- a record of either form has so many bytes
pub old_room : {form : Form} {n : ℕ} (at : ℕ) → form ≡ Old → at + record_size form ≤ n → at + 8 ≤ n
unfolding record_size
old_room at e h = rw e at h

pub wide_room : {form : Form} {n : ℕ} (at : ℕ) → form ≡ Wide → at + record_size form ≤ n → at + 10 ≤ n
unfolding record_size
wide_room at e h = rw e at h

-- ---- records
pub record_mended : (form : Form) (at : ℕ) (x : Record) (b : List ℕ) (r : Record) {o p : List ℕ} → r ≡ x → o ≡ raise_width form at r b → p ≡ raise_depth form at r o → p ≡ mend_record form at x b
unfolding mend_record
record_mended form at x b r e u v = v ∙ rw (u, e) refl

pub place-room : (form : Form) (begin c n size : ℕ) → c < n → n ≤ most_cells → begin + record_size form * n ≤ size → (c < most_cells) × (begin + record_size form * c + record_size form ≤ size)
place-room form begin c n size l h r = (omega arith, omega (arith, record_inside (record_size form) c n l))

module _ (form : Form) (begin : ℕ) (f b : List ℕ) where
  abbrev each : ℕ → Record
  each c = record_at form f (begin + record_size form * c)

  pub mends_start : b ≡ mend_records form begin each b 0
  unfolding mend_records
  mends_start = refl

  pub mends_next : (c : ℕ) {at : ℕ} {o p : List ℕ} → o ≡ mend_records form begin each b c → at ≡ begin + record_size form * c → p ≡ mend_record form at (record_at form f at) o → p ≡ mend_records form begin each b (c + 1)
  unfolding mend_records
  mends_next c e a q = let s : c + 1 ≡ suc c = omega arith in rw s (q ∙ rw (a, e) refl)

  pub mends_as_long : (c : ℕ) {o : List ℕ} → o ≡ mend_records form begin each b c → length o ≡ length b
  mends_as_long c e = rw e (mends_length form begin each b c)

  pub mends_end : (c n : ℕ) {o : List ℕ} → o ≡ mend_records form begin each b c → c ≤ n → n ≤ c → o ≡ mend_records form begin each b n
  mends_end c n e h g = let s : c ≡ n = omega arith in rw s at e

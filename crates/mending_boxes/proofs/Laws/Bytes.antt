-- The bytes of records that are mended, one after the other: which stay, and what the records say then. Assumes nothing.
use Rattle.std.specs.Prelude.{◌≡◌, ◌≢◌, List, Bool, set}
use Rattle.std.proofs.Math.Path.{refl, sym, ap}
use Rattle.std.proofs.Common.{◌∙◌, arith, length-set, get_or-set_same, get_or-set_other}
use Rattle.std.proofs.Math.Bool.{true, false, cond}
use Prim.Native.Nat.{ℕ, zero, suc, ◌+◌, ◌*◌, ◌/◌, ◌%◌, ◌≤◌, ◌<◌}
use Rattle.std.proofs.Math.Decide.{ℕ_discrete}
use Rattle.std.proofs.Math.ListN.{length, get_or}
use Rattle.plan.specs.Forms.{record_size}
use Rattle.plan.specs.declared.Record.{Record}
use Rattle.plan.specs.declared.forms.Form.{Form}
use Rattle.plan.specs.declared.forms.Form.TheVariants.{Old, Wide}
use Rattle.planfile_spec.specs.Fields.{Place, nowhere, byte, two, pair, set_pair, number_at, set_number, parent_place, kind_place, width_place, depth_place, length_place, rank_place, start_place}
use Rattle.planfile_spec.specs.Format.{record_at}
use Rattle.mending_boxes.specs.Boxes.{least_width, narrow, flat, new_width, new_depth}
use Rattle.mending_boxes.specs.Raised.{raise_width, raise_depth, mend_record, mend_records, Beside, Off}
use Rattle.mending_boxes.proofs.Laws.Boxes.{Sound, mended_record}

-- ---- one number set
set-length : (p : Place) (b : List ℕ) (at v : ℕ) → length (set_number p b at v) ≡ length b
unfolding set_number set_pair
set-length nowhere b at v = refl
set-length (byte k) b at v = length-set b (at + k) v
set-length (two k) b at v = simp length-set

set-beside : (p : Place) (b : List ℕ) (at v i : ℕ) → Beside p at i → get_or (set_number p b at v) i 0 ≡ get_or b i 0
unfolding set_number set_pair
set-beside nowhere b at v i h = refl
set-beside (byte k) b at v i h = get_or-set_other b (at + k) i v 0 h
set-beside (two k) b at v i h = get_or-set_other (set b (at + k) (v % 256)) (at + k + 1) i (v / 256) 0 h.1 ∙ get_or-set_other b (at + k) i (v % 256) 0 h.0

-- bytes up to its end; read back, and another number read
unfoldable Ends : Place → ℕ
Ends nowhere = 0
Ends (byte k) = k + 1
Ends (two k) = k + 2

set-read : (p : Place) (b : List ℕ) (at v : ℕ) → 1 ≤ Ends p → at + Ends p ≤ length b → number_at p (set_number p b at v) at ≡ v
unfolding set_number set_pair number_at pair Ends
set-read nowhere b at v s h = absurd (omega arith)
set-read (byte k) b at v s h = get_or-set_same b (at + k) v 0 (omega arith)
set-read (two k) b at v s h =
    let low = set b (at + k) (v % 256) in
    let a : get_or (set low (at + k + 1) (v / 256)) (at + k) 0 ≡ v % 256 = get_or-set_other low (at + k + 1) (at + k) (v / 256) 0 (omega arith) ∙ get_or-set_same b (at + k) (v % 256) 0 (omega arith) in
    let c : get_or (set low (at + k + 1) (v / 256)) (at + k + 1) 0 ≡ v / 256 = get_or-set_same low (at + k + 1) (v / 256) 0 (simp length-set (omega arith)) in
    rw (a, c) (omega arith)

-- a number none of whose bytes is another's
abbrev Clear : Place → Place → Type 0
Clear p nowhere = Unit {0}
Clear p (byte k) = (at : ℕ) → Beside p at (at + k)
Clear p (two k) = (at : ℕ) → Beside p at (at + k) × Beside p at (at + k + 1)

set-clear : (p q : Place) (b : List ℕ) (at v : ℕ) → Clear p q → number_at q (set_number p b at v) at ≡ number_at q b at
unfolding number_at pair
set-clear p nowhere b at v h = refl
set-clear p (byte k) b at v h = set-beside p b at v (at + k) (h at)
set-clear p (two k) b at v h = rw (set-beside p b at v (at + k) (h at).0, set-beside p b at v (at + k + 1) (h at).1) refl

-- the record with another width, and with another depth
abbrev widened : Record → ℕ → Record
widened r w = record { parent = r.parent; kind = r.kind; width = w; depth = r.depth; rank = r.rank; label_length = r.label_length; label_start = r.label_start }

abbrev deepened : Record → ℕ → Record
deepened r d = record { parent = r.parent; kind = r.kind; width = r.width; depth = d; rank = r.rank; label_length = r.label_length; label_start = r.label_start }

width_read : (form : Form) (at w : ℕ) (b : List ℕ) → at + record_size form ≤ length b → record_at form (set_number (width_place form) b at w) at ≡ widened (record_at form b at) w
unfolding record_at record_size parent_place kind_place width_place depth_place length_place rank_place start_place Ends
width_read Old at w b h =
    let p : Place = byte 3 in
    rw (set-read p b at w (omega arith) (omega arith), set-clear p (two 0) b at w (λ at. (omega arith, omega arith)), set-clear p (byte 2) b at w (λ at. omega arith), set-clear p (byte 4) b at w (λ at. omega arith), set-clear p nowhere b at w tt, set-clear p (byte 5) b at w (λ at. omega arith), set-clear p (two 6) b at w (λ at. (omega arith, omega arith))) refl
width_read Wide at w b h =
    let p : Place = two 4 in
    rw (set-read p b at w (omega arith) (omega arith), set-clear p (two 0) b at w (λ at. ((omega arith, omega arith), (omega arith, omega arith))), set-clear p (byte 2) b at w (λ at. (omega arith, omega arith)), set-clear p (byte 3) b at w (λ at. (omega arith, omega arith)), set-clear p (byte 7) b at w (λ at. (omega arith, omega arith)), set-clear p (byte 6) b at w (λ at. (omega arith, omega arith)), set-clear p (two 8) b at w (λ at. ((omega arith, omega arith), (omega arith, omega arith)))) refl

depth_read : (form : Form) (at d : ℕ) (b : List ℕ) → at + record_size form ≤ length b → record_at form (set_number (depth_place form) b at d) at ≡ deepened (record_at form b at) d
unfolding record_at record_size parent_place kind_place width_place depth_place length_place rank_place start_place Ends
depth_read Old at d b h =
    let p : Place = byte 4 in
    rw (set-read p b at d (omega arith) (omega arith), set-clear p (two 0) b at d (λ at. (omega arith, omega arith)), set-clear p (byte 2) b at d (λ at. omega arith), set-clear p (byte 3) b at d (λ at. omega arith), set-clear p nowhere b at d tt, set-clear p (byte 5) b at d (λ at. omega arith), set-clear p (two 6) b at d (λ at. (omega arith, omega arith))) refl
depth_read Wide at d b h =
    let p : Place = byte 3 in
    rw (set-read p b at d (omega arith) (omega arith), set-clear p (two 0) b at d (λ at. (omega arith, omega arith)), set-clear p (byte 2) b at d (λ at. omega arith), set-clear p (two 4) b at d (λ at. (omega arith, omega arith)), set-clear p (byte 7) b at d (λ at. omega arith), set-clear p (byte 6) b at d (λ at. omega arith), set-clear p (two 8) b at d (λ at. (omega arith, omega arith))) refl

-- ---- one record mended
module _ (form : Form) (at : ℕ) (r : Record) (b : List ℕ) where
  raise_width-length : length (raise_width form at r b) ≡ length b
  unfolding raise_width
  raise_width-length = go (narrow r)
    where
      go : (n : Bool) → length (cond n (set_number (width_place form) b at (least_width r.kind r.label_length)) b) ≡ length b
      go true = set-length (width_place form) b at _
      go false = refl

  raise_depth-length : length (raise_depth form at r b) ≡ length b
  unfolding raise_depth
  raise_depth-length = go (flat r)
    where
      go : (n : Bool) → length (cond n (set_number (depth_place form) b at 1) b) ≡ length b
      go true = set-length (depth_place form) b at 1
      go false = refl

  raise_width-off : (i : ℕ) → Off form at i → get_or (raise_width form at r b) i 0 ≡ get_or b i 0
  unfolding raise_width
  raise_width-off i o = go (narrow r)
    where
      go : (n : Bool) → get_or (cond n (set_number (width_place form) b at (least_width r.kind r.label_length)) b) i 0 ≡ get_or b i 0
      go true = set-beside (width_place form) b at _ i o.width
      go false = refl

  raise_depth-off : (i : ℕ) → Off form at i → get_or (raise_depth form at r b) i 0 ≡ get_or b i 0
  unfolding raise_depth
  raise_depth-off i o = go (flat r)
    where
      go : (n : Bool) → get_or (cond n (set_number (depth_place form) b at 1) b) i 0 ≡ get_or b i 0
      go true = set-beside (depth_place form) b at 1 i o.depth
      go false = refl

module _ (form : Form) (at : ℕ) (r : Record) (b : List ℕ) where
  pub mend-length : length (mend_record form at r b) ≡ length b
  unfolding mend_record
  mend-length = raise_depth-length form at r (raise_width form at r b) ∙ raise_width-length form at r b

  pub mend-off : (i : ℕ) → Off form at i → get_or (mend_record form at r b) i 0 ≡ get_or b i 0
  unfolding mend_record
  mend-off i o = raise_depth-off form at r (raise_width form at r b) i o ∙ raise_width-off form at r b i o

  pub mend-sound : Sound r → mend_record form at r b ≡ b
  unfolding mend_record raise_width raise_depth
  mend-sound s = rw (s.wide, s.deep) refl

  module _ (room : at + record_size form ≤ length b) (is : record_at form b at ≡ r) where
    raised-read : record_at form (raise_width form at r b) at ≡ widened r (new_width r)
    unfolding raise_width new_width
    raised-read = go (narrow r)
      where
        go : (n : Bool) → record_at form (cond n (set_number (width_place form) b at (least_width r.kind r.label_length)) b) at ≡ widened r (cond n (least_width r.kind r.label_length) r.width)
        go true = width_read form at _ b room ∙ ap (λ (x : Record). widened x (least_width r.kind r.label_length)) is
        go false = is

    pub mend-read : record_at form (mend_record form at r b) at ≡ mended_record r
    unfolding mend_record raise_depth new_depth
    mend-read = go (flat r)
      where
        go : (n : Bool) → record_at form (cond n (set_number (depth_place form) (raise_width form at r b) at 1) (raise_width form at r b)) at
            ≡ record { parent = r.parent; kind = r.kind; width = new_width r; depth = cond n 1 r.depth; rank = r.rank; label_length = r.label_length; label_start = r.label_start }
        go true = depth_read form at 1 (raise_width form at r b) (rw (raise_width-length form at r b) room) ∙ ap (λ (x : Record). deepened x 1) raised-read
        go false = raised-read

-- ---- the records of two lists of bytes
-- as many bytes as a record has, the same
pub record_same : (form : Form) (at : ℕ) (f g : List ℕ) → ((k : ℕ) → k < record_size form → get_or g (at + k) 0 ≡ get_or f (at + k) 0) → record_at form g at ≡ record_at form f at
unfolding record_at number_at pair record_size parent_place kind_place width_place depth_place length_place rank_place start_place
record_same Old at f g h =
    let z7 : at + 7 ≡ at + 6 + 1 = omega arith in
    let z1 : at + 1 ≡ at + 0 + 1 = omega arith in
    let h1 : get_or g (at + 0 + 1) 0 ≡ get_or f (at + 0 + 1) 0 = rw z1 at (h 1 (omega arith)) in
    let h7 : get_or g (at + 6 + 1) 0 ≡ get_or f (at + 6 + 1) 0 = rw z7 at (h 7 (omega arith)) in
    rw (h 0 (omega arith), h1, h 2 (omega arith), h 3 (omega arith), h 4 (omega arith), h 5 (omega arith), h 6 (omega arith), h7) refl
record_same Wide at f g h =
    let z5 : at + 5 ≡ at + 4 + 1 = omega arith in
    let z9 : at + 9 ≡ at + 8 + 1 = omega arith in
    let z1 : at + 1 ≡ at + 0 + 1 = omega arith in
    let h1 : get_or g (at + 0 + 1) 0 ≡ get_or f (at + 0 + 1) 0 = rw z1 at (h 1 (omega arith)) in
    let h5 : get_or g (at + 4 + 1) 0 ≡ get_or f (at + 4 + 1) 0 = rw z5 at (h 5 (omega arith)) in
    let h9 : get_or g (at + 8 + 1) 0 ≡ get_or f (at + 8 + 1) 0 = rw z9 at (h 9 (omega arith)) in
    rw (h 0 (omega arith), h1, h 2 (omega arith), h 3 (omega arith), h 4 (omega arith), h5, h 6 (omega arith), h 7 (omega arith), h 8 (omega arith), h9) refl

-- a byte of record c is no box byte of another
pub apart : (form : Form) (begin b c k : ℕ) → b ≢ c → k < record_size form → Off form (begin + record_size form * b) (begin + record_size form * c + k)
unfolding record_size width_place depth_place
apart Old begin b c k n h = record { width = omega arith; depth = omega arith }
apart Wide begin b c k n h = record { width = (omega arith, omega arith); depth = omega arith }

-- nor is one after the records
pub after : (form : Form) (begin b n i : ℕ) → b < n → begin + record_size form * n ≤ i → Off form (begin + record_size form * b) i
unfolding record_size width_place depth_place
after Old begin b n i l h = record { width = omega arith; depth = omega arith }
after Wide begin b n i l h = record { width = (omega arith, omega arith); depth = omega arith }

-- a byte of a record that is none of its width or depth is none of another's
beside_old : (begin b c k : ℕ) → k < 8 → k ≢ 3 → k ≢ 4 → Off Old (begin + record_size Old * b) (begin + record_size Old * c + k)
unfolding record_size width_place depth_place
beside_old begin b c k l p q = record { width = omega arith; depth = omega arith }

beside-wide : (begin b c k : ℕ) → k < 10 → k ≢ 3 → k ≢ 4 → k ≢ 5 → Off Wide (begin + record_size Wide * b) (begin + record_size Wide * c + k)
unfolding record_size width_place depth_place
beside-wide begin b c k l p q r = record { width = (omega arith, omega arith); depth = omega arith }

-- all of a record but its width and its depth
pub record_boxed : (form : Form) (begin c : ℕ) (f g : List ℕ)
    → ((i : ℕ) → ((b : ℕ) → Off form (begin + record_size form * b) i) → get_or g i 0 ≡ get_or f i 0)
    → (record_at form g (begin + record_size form * c)).width ≡ (record_at form f (begin + record_size form * c)).width
    → (record_at form g (begin + record_size form * c)).depth ≡ (record_at form f (begin + record_size form * c)).depth
    → record_at form g (begin + record_size form * c) ≡ record_at form f (begin + record_size form * c)
unfolding record_at number_at pair record_size parent_place kind_place width_place depth_place length_place rank_place start_place
record_boxed Old begin c f g h w d =
    let off : (k : ℕ) → k < 8 → k ≢ 3 → k ≢ 4 → get_or g (begin + 8 * c + k) 0 ≡ get_or f (begin + 8 * c + k) 0 = λ k l p q. h (begin + 8 * c + k) (λ b. beside_old begin b c k l p q) in
    let z1 : begin + 8 * c + 1 ≡ begin + 8 * c + 0 + 1 = omega arith in
    let z7 : begin + 8 * c + 7 ≡ begin + 8 * c + 6 + 1 = omega arith in
    let h1 : get_or g (begin + 8 * c + 0 + 1) 0 ≡ get_or f (begin + 8 * c + 0 + 1) 0 = rw z1 at (off 1 (omega arith) (omega arith) (omega arith)) in
    let h7 : get_or g (begin + 8 * c + 6 + 1) 0 ≡ get_or f (begin + 8 * c + 6 + 1) 0 = rw z7 at (off 7 (omega arith) (omega arith) (omega arith)) in
    rw (off 0 (omega arith) (omega arith) (omega arith), h1, off 2 (omega arith) (omega arith) (omega arith), w, d, off 5 (omega arith) (omega arith) (omega arith), off 6 (omega arith) (omega arith) (omega arith), h7) refl
record_boxed Wide begin c f g h w d =
    let off : (k : ℕ) → k < 10 → k ≢ 3 → k ≢ 4 → k ≢ 5 → get_or g (begin + 10 * c + k) 0 ≡ get_or f (begin + 10 * c + k) 0 = λ k l p q r. h (begin + 10 * c + k) (λ b. beside-wide begin b c k l p q r) in
    let z1 : begin + 10 * c + 1 ≡ begin + 10 * c + 0 + 1 = omega arith in
    let z9 : begin + 10 * c + 9 ≡ begin + 10 * c + 8 + 1 = omega arith in
    let h1 : get_or g (begin + 10 * c + 0 + 1) 0 ≡ get_or f (begin + 10 * c + 0 + 1) 0 = rw z1 at (off 1 (omega arith) (omega arith) (omega arith) (omega arith)) in
    let h9 : get_or g (begin + 10 * c + 8 + 1) 0 ≡ get_or f (begin + 10 * c + 8 + 1) 0 = rw z9 at (off 9 (omega arith) (omega arith) (omega arith) (omega arith)) in
    rw (off 0 (omega arith) (omega arith) (omega arith) (omega arith), h1, off 2 (omega arith) (omega arith) (omega arith) (omega arith), w, d, off 6 (omega arith) (omega arith) (omega arith) (omega arith), off 7 (omega arith) (omega arith) (omega arith) (omega arith), off 8 (omega arith) (omega arith) (omega arith) (omega arith), h9) refl

-- ---- n records mended
module _ (form : Form) (begin : ℕ) (e : ℕ → Record) (f : List ℕ) where
  abbrev here : ℕ → ℕ
  here c = begin + record_size form * c

  pub mends_length : (n : ℕ) → length (mend_records form begin e f n) ≡ length f
  unfolding mend_records
  mends_length zero = refl
  mends_length (suc n) = mend-length form (here n) (e n) (mend_records form begin e f n) ∙ mends_length n

  pub mends_off : (n i : ℕ) → ((c : ℕ) → c < n → Off form (here c) i) → get_or (mend_records form begin e f n) i 0 ≡ get_or f i 0
  unfolding mend_records
  mends_off zero i h = refl
  mends_off (suc n) i h =
      mend-off form (here n) (e n) (mend_records form begin e f n) i (h n (omega arith)) ∙ mends_off n i (λ c l. h c (omega arith))

  pub mends_sound : (n : ℕ) → ((c : ℕ) → c < n → Sound (e c)) → mend_records form begin e f n ≡ f
  unfolding mend_records
  mends_sound zero h = refl
  mends_sound (suc n) h = mend-sound form (here n) (e n) (mend_records form begin e f n) (h n (omega arith)) ∙ mends_sound n (λ c l. h c (omega arith))

  -- a record not yet mended
  mends_later : (n c : ℕ) → n ≤ c → record_at form (mend_records form begin e f n) (here c) ≡ record_at form f (here c)
  mends_later n c l = record_same form (here c) f (mend_records form begin e f n) (λ k h. mends_off n (here c + k) (λ b j. apart form begin b c k (omega arith) h))

  -- and one that is
  pub mends_read : ((c : ℕ) → e c ≡ record_at form f (here c)) → (n c : ℕ) → c < n → here c + record_size form ≤ length f → record_at form (mend_records form begin e f n) (here c) ≡ mended_record (e c)
  unfolding mend_records
  mends_read is zero c l room = absurd (omega arith)
  mends_read is (suc n) c l room = go (ℕ_discrete c n) (λ j. mends_read is n c j room)
    where
      go : Dec (c ≡ n) → (c < n → record_at form (mend_records form begin e f n) (here c) ≡ mended_record (e c))
          → record_at form (mend_record form (here n) (e n) (mend_records form begin e f n)) (here c) ≡ mended_record (e c)
      go (yes q) k =
          rw q (mend-read form (here n) (e n) (mend_records form begin e f n) (rw (q, ← mends_length n) at room) (mends_later n n (omega arith) ∙ sym (is n)))
      go (no q) k =
          record_same form (here c) (mend_records form begin e f n) (mend_record form (here n) (e n) (mend_records form begin e f n)) (λ j h. mend-off form (here n) (e n) (mend_records form begin e f n) (here c + j) (apart form begin n c j (λ z. q (sym z)) h))
          ∙ k (omega arith)

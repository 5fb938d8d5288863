-- COPY REFUSES NONE OF A JOINED PLAN: its questions 4 to 14, put to the records of two plans joined. Nothing that a reader must believe stands here. Assumes nothing.
use Rattle.std.specs.Prelude.{◌≡◌, refl, List, [], ◌∷◌, ◌++◌, map, ℕ, zero, suc, ◌+◌, ◌≤◌, ◌<◌, T, leb, ltb}
use Rattle.std.proofs.Common.{sym, ◌∙◌, le→leb, lt→ltb}
use Rattle.std.proofs.Math.Path.{ap}
use native.Mathlib.Omega.{arith}
use Rattle.std.proofs.Math.ListN.{length, length-map, length-append}
use Rattle.plan.specs.Limits.{between, most_cells, most_label, most_allowance, most_file}
use Rattle.plan.specs.Forms.{widest}
use Rattle.plan.specs.Plan.{Table}
use Rattle.plan.specs.Records.{bare, cells_of}
use Rattle.plan.specs.Questions.{lower, asked, every}
use Rattle.plan.specs.Steps.{cell_refusal, tree_refusal}
use Rattle.plan.proofs.Laws.Questions.{both-none, asked_yes}
use Rattle.plan.proofs.Laws.Steps.{lower-read}
use Rattle.plan.specs.declared.Record.{Record}
use Rattle.plan.specs.declared.Refusal.{Refusal}
use Rattle.plan.specs.declared.forms.Form.{Form}
use Rattle.plan.specs.declared.forms.Form.TheVariants.{Wide}
use Rattle.planfile_spec.specs.FileSteps.{inside, record_refusal}
use Rattle.content.specs.Clean.{copy_refusal}
use Rattle.content.proofs.Laws.Asked.{row_refusal, rows_refusal, copy_steps, copy-asks}
use Rattle.content.proofs.Laws.Fine.{letter, zero_none, asked_zero, and_both, every_append, cell_zero, Sound, row-sound}
use Rattle.graft.specs.Joined.{raised, hung, hung_behind, record_under, joined, joined_records}
use Rattle.graft.specs.Sequence.{join_refusal, counted, part_refusal}
use Rattle.graft.proofs.Theorems.{joined-cells}
use Rattle.graft.proofs.Laws.Hung.{length_behind}
use Rattle.graft.proofs.Laws.Joined.{length-joined}
use Rattle.graft.proofs.Laws.Sequence.{join-puts, accepted}
use Rattle.join_file_spec.proofs.Laws.Contents.{father, moved, AllInside, moved-cells}

-- ---- one record, under another number, with another parent and its label elsewhere
row_again : (form : Form) (room c p k w d l s room' c' p' s' : ℕ) → Sound form room' c' p' k w d l s' → T (lower c p) → s + l ≤ room → (record_refusal form room c p k w d l s).number ≡ 0
unfolding record_refusal
row_again form room c p k w d l s room' c' p' s' h low fits =
    zero_none (cell_refusal (widest form) c p k w d) _
    (cell_zero (widest form) c p k w d (record { is_lower = low; is_known = h.cell.is_known; is_sized = h.cell.is_sized }))
    (zero_none (asked 9 (inside room l s) c) _
    (asked_zero 8 _ c (and_both (leb l most_label) _ (le→leb _ _ h.short) (le→leb _ _ fits)))
    (asked_zero 9 _ c h.fitting))

lower_show : (c p : ℕ) → p < c → T (lower c p)
unfolding lower
lower_show zero p h = absurd (omega arith)
lower_show (suc m) p h = lt→ltb p (suc m) h

-- what is known of a record that passes
abbrev sound_of : (form : Form) (room c : ℕ) (r : Record) → (row_refusal form room c r).number ≡ 0 → Sound form room c r.parent r.kind r.width r.depth r.label_length r.label_start
sound_of form room c r e = row-sound form room c r.parent r.kind r.width r.depth r.label_length r.label_start e

-- ---- runs of records: one behind the other, among more label bytes, raised, hung
rows_append : (form : Form) (room c : ℕ) (a b : List Record) → (rows_refusal form room c a).number ≡ 0 → (rows_refusal form room (c + length a) b).number ≡ 0 → (rows_refusal form room c (a ++ b)).number ≡ 0
unfolding rows_refusal
rows_append form room c [] b p q = let e : c + 0 ≡ c = omega arith in rw e at q
rows_append form room c (r ∷ a) b p q =
    let (x, y) = both-none (row_refusal form room c r) _ p in
    let e : c + suc (length a) ≡ suc c + length a = omega arith in
    zero_none (row_refusal form room c r) _ x (rows_append form room (suc c) a b y (rw e at q))

rows_roomier : (form : Form) (room more c : ℕ) (rs : List Record) → room ≤ more → (rows_refusal form room c rs).number ≡ 0 → (rows_refusal form more c rs).number ≡ 0
unfolding rows_refusal
rows_roomier form room more c [] h e = refl
rows_roomier form room more c (r ∷ rs) h e =
    let (x, y) = both-none (row_refusal form room c r) _ e in
    let s = sound_of form room c r x in
    zero_none (row_refusal form more c r) _
    (row_again form more c r.parent r.kind r.width r.depth r.label_length r.label_start room c r.parent r.label_start s s.cell.is_lower (omega (arith, s.within)))
    (rows_roomier form room more (suc c) rs h y)

rows-raised : (form : Form) (room more n k j : ℕ) (us : List Record) → 1 ≤ j → k + room ≤ more → (rows_refusal form room j us).number ≡ 0
    → (rows_refusal form more (n + j) (map (raised father record_under n) (map (moved k) us))).number ≡ 0
unfolding rows_refusal raised record_under moved
rows-raised form room more n k j [] o h e = refl
rows-raised form room more n k j (r ∷ us) o h e =
    let (x, y) = both-none (row_refusal form room j r) _ e in
    let s = sound_of form room j r x in
    let low : r.parent < j = lower-read j r.parent o s.cell.is_lower in
    let q : suc (n + j) ≡ n + suc j = omega arith in
    zero_none _ _
    (row_again form more (n + j) (n + r.parent) r.kind r.width r.depth r.label_length (k + r.label_start) room j r.parent r.label_start s (lower_show (n + j) (n + r.parent) (omega arith)) (omega (arith, s.within)))
    (rw q (rows-raised form room more n k (suc j) us (omega arith) h y))

rows-hung : (form : Form) (room more n k c : ℕ) (us : List Record) → c < n → k + room ≤ more → (rows_refusal form room 0 us).number ≡ 0
    → (rows_refusal form more n (hung father record_under n c (map (moved k) us))).number ≡ 0
unfolding rows_refusal hung record_under moved
rows-hung form room more n k c [] l h e = refl
rows-hung form room more n k c (r ∷ us) l h e =
    let (x, y) = both-none (row_refusal form room 0 r) _ e in
    let s = sound_of form room 0 r x in
    let q : n + 1 ≡ suc n = omega arith in
    zero_none _ _
    (row_again form more n c r.kind r.width r.depth r.label_length (k + r.label_start) room 0 r.parent r.label_start s (lower_show n c l) (omega (arith, s.within)))
    (rw q at (rows-raised form room more n k 1 us (omega arith) h y))

-- labels stand in the label bytes
pub rows_inside : (form : Form) (room c : ℕ) (rs : List Record) → (rows_refusal form room c rs).number ≡ 0 → AllInside room rs
unfolding rows_refusal
rows_inside form room c [] e = tt
rows_inside form room c (r ∷ rs) e =
    let (x, y) = both-none (row_refusal form room c r) _ e in
    ((sound_of form room c r x).within, rows_inside form room (suc c) rs y)

-- ---- what the writer's questions of one plan establish
pub record Parts (rs : List Record) (ls : List ℕ) (al : ℕ) : Type 0 where
  pub printable : T (every letter ls)
  pub rows : (rows_refusal Wide (length ls) 0 rs).number ≡ 0
  pub last : (asked 14 (leb al most_allowance) 0).number ≡ 0

pub parts : (rs : List Record) (ls : List ℕ) (al : ℕ) → (copy_steps rs ls al).number ≡ 0 → Parts rs ls al
unfolding copy_steps
parts rs ls al e =
    let (a, r) = both-none (asked 4 (between 1 most_cells (length rs)) 0) _ e in
    let (b, s) = both-none (asked 5 (every letter ls) 0) _ r in
    let (d, u) = both-none (rows_refusal Wide (length ls) 0 rs) _ s in
    let (t, l) = both-none (tree_refusal (cells_of rs)) _ u in
    record { printable = asked_yes 4 (every letter ls) 0 b; rows = d; last = l }

-- ---- of two plans that the writer would write, and that Join joins
module _ (rs us : List Record) (ls ms : List ℕ) (al bl c : ℕ) (p : Parts rs ls al) (q : Parts us ms bl) (z : (join_refusal most_cells (cells_of rs) (cells_of us) c).number ≡ 0) where
  abbrev T₁ : Table
  T₁ = cells_of rs

  abbrev U₁ : Table
  U₁ = cells_of us

  abbrev vs : List Record
  vs = map (moved (length ls)) us

  abbrev J : List Record
  J = joined_records rs vs c

  cells-length : (xs : List Record) → length (cells_of xs) ≡ length xs
  unfolding cells_of
  cells-length xs = length-map xs bare

  table_is : cells_of J ≡ joined T₁ U₁ c
  table_is = joined-cells rs vs c ∙ ap (λ (u : Table). joined T₁ u c) (moved-cells (length ls) us)

  count : length J ≡ length rs + length us
  unfolding joined_records
  count = length_behind father record_under rs vs c ∙ ap (λ (k : ℕ). length rs + k) (length-map us (moved (length ls)))

  named : c < length rs
  named = omega (arith, (accepted most_cells T₁ U₁ c z).named, cells-length rs)

  counted_yes : T (between 1 most_cells (length J))
  counted_yes =
      let h = accepted most_cells T₁ U₁ c z in
      and_both (leb 1 (length J)) _ (le→leb 1 (length J) (omega (arith, count, named)))
      (le→leb (length J) most_cells (omega (arith, count, h.few, length-joined T₁ U₁ c, cells-length rs, cells-length us)))

  tree : (tree_refusal (joined T₁ U₁ c)).number ≡ 0
  tree =
      let (one, r1) = both-none (asked 1 (leb most_cells most_cells) 0) _ (ap (λ (x : Refusal). x.number) (sym (join-puts most_cells T₁ U₁ c)) ∙ z) in
      let (first, r2) = both-none (part_refusal T₁) _ r1 in
      let (second, r3) = both-none (part_refusal U₁) _ r2 in
      let (named, r4) = both-none (asked 16 (ltb c (length T₁)) 0) _ r3 in
      (both-none (counted (length (joined T₁ U₁ c))) _ r4).1

  rows-joined : (rows_refusal Wide (length (ls ++ ms)) 0 J).number ≡ 0
  unfolding joined_records hung_behind
  rows-joined =
      let n = length-append ls ms in
      let e : 0 + length rs ≡ length rs = omega arith in
      rows_append Wide (length (ls ++ ms)) 0 rs (hung father record_under (length rs) c vs) (rows_roomier Wide (length ls) (length (ls ++ ms)) 0 rs (omega arith) p.rows)
      (rw e (rows-hung Wide (length ms) (length (ls ++ ms)) (length rs) (length ls) c us named (omega arith) q.rows))

  pub joined-steps : (copy_steps (joined_records rs (map (moved (length ls)) us) c) (ls ++ ms) al).number ≡ 0
  unfolding copy_steps
  joined-steps =
      zero_none (asked 4 (between 1 most_cells (length J)) 0) _ (asked_zero 3 _ 0 counted_yes)
      (zero_none (asked 5 (every letter (ls ++ ms)) 0) _ (asked_zero 4 _ 0 (every_append letter ls ms p.printable q.printable))
      (zero_none (rows_refusal Wide (length (ls ++ ms)) 0 J) _ rows-joined
      (zero_none (tree_refusal (cells_of J)) _ (ap (λ (t : Table). (tree_refusal t).number) table_is ∙ tree) p.last)))

  pub joined_copied : (room : ℕ) → most_file ≤ room → (copy_refusal (joined_records rs (map (moved (length ls)) us) c) (ls ++ ms) al room).number ≡ 0
  joined_copied room h =
      ap (λ (x : Refusal). x.number) (copy-asks J (ls ++ ms) al room)
      ∙ zero_none (asked 1 (leb most_file room) 0) _ (asked_zero 0 _ 0 (le→leb most_file room h)) joined-steps

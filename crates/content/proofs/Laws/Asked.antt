-- The writer's refusal, as its code puts the questions: 6 to 10 record by record, as a file's are put. Assumes nothing.
use Rattle.std.specs.Prelude.{◌≡◌, refl, List, [], ◌∷◌, map, ℕ, zero, suc, ◌+◌, ◌<◌, leb, length, get_or}
use Rattle.std.proofs.Math.Path.{ap}
use Rattle.std.proofs.Common.{◌∙◌, arith, zero-add}
use Rattle.std.proofs.Math.ListN.{length-map, get_or-map}
use Rattle.plan.specs.Limits.{between, most_cells, most_allowance, most_file, first_letter, last_letter}
use Rattle.plan.specs.Forms.{widest}
use Rattle.plan.specs.Lists.{from, some, mem}
use Rattle.plan.specs.Plan.{Cell, Table, blank, parent, kind, box_width, box_depth}
use Rattle.plan.specs.Records.{bare, cells_of}
use Rattle.plan.specs.Questions.{Given, no_label, parent_lower, kind_known, box_sized, label_inside, label_fits, children_allowed, level_low, rows_few, Step, each, sequence, puts, put, with_each, kept, number, enough, roomy, all_roomy, in_file, on_labels, widest_in, every, holds, none, asked, or_else, at_each, ask, ask_all, take_step, take_steps, copy_given}
use Rattle.plan.specs.Questions as calls
use Rattle.plan.specs.Steps.{cell_refusal, tree_refusal}
use Rattle.plan.proofs.Laws.Questions.{each_same}
use Rattle.plan.proofs.Laws.Kept.{asked_last, asked_true, none_first, and_true, or_assoc, refusal-kept, turn_ends, turn_once, turn_tree}
use Rattle.plan.specs.declared.Record.{Record}
use Rattle.plan.specs.declared.Refusal.{Refusal}
use Rattle.plan.specs.declared.forms.Form.{Form}
use Rattle.plan.specs.declared.forms.Form.TheVariants.{Wide}
use Rattle.planfile_spec.specs.Format.{label_in}
use Rattle.planfile_spec.specs.FileSteps.{record_refusal}
use Rattle.content.specs.Clean.{copy_refusal}

-- questions 6 to 10 at a record, against so many label bytes; and at each of a run of them, from cell c on
abbrev pub row_refusal : (form : Form) (room c : ℕ) → Record → Refusal
row_refusal form room c r = record_refusal form room c r.parent r.kind r.width r.depth r.label_length r.label_start

unfoldable pub rows_refusal : (form : Form) (room c : ℕ) → List Record → Refusal
rows_refusal form room c [] = none
rows_refusal form room c (r ∷ rs) = let x = rows_refusal form room (suc c) rs in or_else (row_refusal form room c r) x

-- 4 to 14
unfoldable pub copy_steps : List Record → (letters : List ℕ) → (allowance : ℕ) → Refusal
copy_steps rs letters al =
    or_else (asked 4 (between 1 most_cells (length rs)) 0)
    (or_else (asked 5 (every (between first_letter last_letter) letters) 0)
    (or_else (rows_refusal Wide (length letters) 0 rs) (or_else (tree_refusal (cells_of rs)) (asked 14 (leb al most_allowance) 0))))

-- the records that a function gives, and those of a list
pub each_row : (form : Form) (room : ℕ) (e : ℕ → Record) (k d : ℕ) → at_each (λ c. row_refusal form room c (e c)) k d ≡ rows_refusal form room k (map e (from k d))
unfolding at_each rows_refusal from
each_row form room e k zero = refl
each_row form room e k (suc d) = ap (λ (x : Refusal). or_else (row_refusal form room k (e k)) x) (each_row form room e (suc k) d)

no_record : Record
no_record = record { parent = 0; kind = 0; width = 0; depth = 0; rank = 0; label_length = 0; label_start = 0 }

rows_each : (form : Form) (room k : ℕ) (e : ℕ → Record) (rs : List Record) → ((c : ℕ) → c < length rs → e (k + c) ≡ get_or rs c no_record) → at_each (λ c. row_refusal form room c (e c)) k (length rs) ≡ rows_refusal form room k rs
unfolding at_each rows_refusal
rows_each form room k e [] h = refl
rows_each form room k e (r ∷ rs) h =
    let z : k + 0 ≡ k = omega arith in
    let a : e k ≡ r = rw z at (h 0 (omega arith)) in
    cc (a, rows_each form room (suc k) e rs (λ c l. let q : k + suc c ≡ suc k + c = omega arith in rw q at (h (suc c) (omega arith))))

module _ (rs : List Record) (letters : List ℕ) (al room : ℕ) where
  abbrev t : Table
  t = cells_of rs

  abbrev g : Given
  g = copy_given t (map label_in rs) letters al room

  cells-length : length t ≡ length rs
  unfolding cells_of
  cells-length = length-map rs bare

  cell_is : (c : ℕ) → get_or t c blank ≡ bare (get_or rs c no_record)
  unfolding cells_of bare blank no_record
  cell_is c = get_or-map bare rs c no_record

  label_is : (c : ℕ) → get_or (map label_in rs) c no_label ≡ label_in (get_or rs c no_record)
  unfolding no_record
  label_is c = get_or-map label_in rs c no_record

  parent_is : (c : ℕ) → parent t c ≡ (get_or rs c no_record).parent
  unfolding parent bare
  parent_is c = ap (λ (x : Cell). x.parent) (cell_is c)

  kind-is : (c : ℕ) → kind t c ≡ (get_or rs c no_record).kind
  unfolding kind bare
  kind-is c = ap (λ (x : Cell). x.kind) (cell_is c)

  width_is : (c : ℕ) → box_width t c ≡ (get_or rs c no_record).width
  unfolding box_width bare
  width_is c = ap (λ (x : Cell). x.width) (cell_is c)

  depth_is : (c : ℕ) → box_depth t c ≡ (get_or rs c no_record).depth
  unfolding box_depth bare
  depth_is c = ap (λ (x : Cell). x.depth) (cell_is c)

  at_row : (c : ℕ) → ask_all g (parent_lower ∷ kind_known ∷ box_sized ∷ label_inside ∷ label_fits ∷ []) c ≡ row_refusal Wide (length letters) c (get_or rs c no_record)
  unfolding ask_all ask holds number on_labels widest_in widest copy_given cell_refusal record_refusal
  at_row c = rw (parent_is c, kind-is c, width_is c, depth_is c, label_is c) (simp (or_assoc, asked_last 9))

  rows_turn : at_each (ask_all g (parent_lower ∷ kind_known ∷ box_sized ∷ label_inside ∷ label_fits ∷ [])) 0 (length t) ≡ rows_refusal Wide (length letters) 0 rs
  rows_turn =
      rw cells-length (each_same _ (λ c. row_refusal Wide (length letters) c (get_or rs c no_record)) (length rs) (λ c h. at_row c)
      ∙ rows_each Wide (length letters) 0 (λ c. get_or rs c no_record) rs (λ c h. rw zero-add refl))

  turn_body : (ss : List Step) → take_steps g (each (parent_lower ∷ kind_known ∷ box_sized ∷ label_inside ∷ label_fits ∷ []) ∷ each (children_allowed ∷ []) ∷ each (level_low ∷ []) ∷ each (rows_few ∷ []) ∷ ss)
      ≡ or_else (rows_refusal Wide (length letters) 0 rs) (or_else (tree_refusal t) (take_steps g ss))
  unfolding take_steps take_step copy_given
  turn_body ss = cc (rows_turn, turn_tree g ss)

  pub copy-asks : copy_refusal rs letters al room ≡ or_else (asked 1 (leb most_file room) 0) (copy_steps rs letters al)
  unfolding copy_refusal copy_steps kept put with_each sequence number puts mem some from ask holds roomy all_roomy enough in_file on_labels copy_given
  copy-asks =
      refusal-kept calls.copy g
      ∙ simp (turn_once g, turn_body, turn_ends g, cells-length, asked_true 0 0, none_first, and_true, or_assoc, asked_last 13 (leb al most_allowance) 0)

-- What List prints is what Read, Layout and Label give. Nothing that a reader must believe stands here. Assumes nothing.
use Rattle.std.specs.Prelude.{◌≡◌, ℕ, zero, suc, ◌+◌, ◌≤◌, ◌<◌, leb, ℤ, length, take, drop, Result, Ok}
use Rattle.std.proofs.Math.Path.{refl, sym, ap}
use Rattle.std.proofs.Common.{◌∙◌, arith}
use mathlib.Core.List.{List, ◌++◌, map, append-nil}
use borrow.Author.Tests.{eq-eqb, ne_eqb, le-leb}
use Rattle.whole.specs.Whole.{plus}
use Rattle.plan.specs.Limits.{most_cells}
use Rattle.plan.specs.Lists.{from}
use Rattle.plan.specs.Plan.{Table, Is}
use Rattle.plan.specs.Records.{cells_of}
use Rattle.plan.specs.Questions.{none, asked, or_else, list, refusal, list_given}
use Rattle.plan.proofs.Laws.Kept.{asked_true, none_first}
use Rattle.plan.proofs.Laws.Answered.{refused_by}
use Rattle.plan.proofs.Laws.Questions.{both-none}
use Rattle.plan.specs.declared.Record.{Record}
use Rattle.plan.specs.declared.Refusal.{Refusal}
use Rattle.rules.specs.Placement.{Placement, placed, Agree, width, rows}
use Rattle.contours.specs.Sheet.{sheet}
use Rattle.planfile_spec.specs.Read.{Reading}
use Rattle.planfile_spec.specs.Format.{trailer_of, entry}
use Rattle.planfile_spec.specs.Reading.{columns_of, reading_of}
use Rattle.planfile_spec.specs.FileSteps.{header_refusal, body_refusal, file_refusal}
use Rattle.planfile_spec.proofs.Laws.File as Law
use Rattle.planfile_spec.proofs.Laws.Examined.{zero_of, Headed, header_read, same-table}
use Rattle.layout.specs.Laid.{Lays}
use Rattle.layout.proofs.Laws.Laid.{sheet-wide, sheet-deep}
use Rattle.listing.specs.Printed.{Bytes, sheet_line, refused_line, lines_joined}
use Rattle.printing.specs.Printing.{Lists, read_table, first_line, cell_of, listing_of, text_of, cells_text, Taken}
use Rattle.printing.proofs.Laws.Taken.{text-plan}
use Rattle.read_entry.specs.Read.{read_refusal, read_answered, Reads}
use Rattle.label_entry.specs.Label.{label_of}
use Rattle.demands.specs.Outcomes.{sheet_of, plan_of, refusing, printed_cell, printed_sheet}
use Rattle.demands.proofs.Laws.Layout.{sheet-written}
use Rattle.demands.proofs.Laws.List as listing
use Rattle.demands.proofs.Laws.ReadThen.{told, first-records}

map_same : (f g : ℕ → Bytes) (k d : ℕ) → ((c : ℕ) → k ≤ c → c < k + d → f c ≡ g c) → map f (from k d) ≡ map g (from k d)
unfolding from
map_same f g k zero h = refl
map_same f g k (suc d) h = cc (h k (omega arith) (omega arith), map_same f g (suc k) d (λ c p q. h c (omega arith) (omega arith)))

-- the lines of a plan that is read, from the table and any positions that are its sheet
module _ (p : Reading) (f : Bytes) (t : Table) (n al w h : ℕ) (q : Placement)
    (en : p.columns.count ≡ n) (ea : p.allowance ≡ al) (et : read_table p ≡ t) (ew : w ≡ plus (width t (sheet t al))) (eh : h ≡ plus (rows t (sheet t al))) (long : length t ≡ n) (agree : Agree t q (sheet t al)) where
  line_same : first_line p ≡ sheet_line n al w h
  unfolding first_line
  line_same = rw (et, ea, en, ew, eh)

  cell_same : (c : ℕ) → Is t c → cell_of p f c ≡ printed_cell t q (label_of f) c
  unfolding cell_of printed_cell
  cell_same c i = rw (et, ea, (agree c i).0, (agree c i).1)

  lines_same : first_line p ++ cells_text p f p.columns.count ≡ printed_sheet t n al w h q (label_of f)
  unfolding cells_text printed_sheet lines_joined
  lines_same =
      let e : map (cell_of p f) (from 0 n) ≡ map (printed_cell t q (label_of f)) (from 0 n) = map_same (cell_of p f) (printed_cell t q (label_of f)) 0 n (λ c a b. cell_same c (omega (arith, long))) in
      ap (λ (l : Bytes). l ++ cells_text p f p.columns.count) line_same ∙ ap (λ (k : ℕ). sheet_line n al w h ++ cells_text p f k) en ∙ ap (λ (ls : List Bytes). sheet_line n al w h ++ lines_joined ls) e

-- ---- a file that no question from 2 on refuses, and one that some does
module _ (f : Bytes) where
  read-most : read_refusal f most_cells ≡ file_refusal f
  read-most = Law.read_refusal f most_cells ∙ ap (λ (x : Refusal). or_else x (file_refusal f)) (asked_true 0 0) ∙ none_first (file_refusal f)

  read-enough : (room : ℕ) → most_cells ≤ room → read_refusal f room ≡ file_refusal f
  read-enough room l = let c : asked 1 (leb most_cells room) 0 ≡ none = rw (le-leb most_cells room l) (asked_true 0 0) in Law.read_refusal f room ∙ rw c (none_first (file_refusal f))

  abbrev plan : Reading
  plan = columns_of none (trailer_of f).allowance (trailer_of f).count (entry f)

  module _ (z : (file_refusal f).number ≡ 0) where
    taken : Taken plan f
    unfolding reading_of columns_of
    taken = record { is = let e : (read_refusal f most_cells).number ≡ 0 = zero_of _ _ (sym read-most) z in rw (eq-eqb (read_refusal f most_cells).number 0 e); passes = refl }

    headed : Headed f
    unfolding file_refusal
    headed = header_read f (both-none (header_refusal f) (body_refusal f) z).0

  refused-text : (p : Reading) → p ≡ reading_of f most_cells → ¬ (p.refusal.number ≡ 0) → text_of f ≡ refused_line p.refusal.number p.refusal.cell
  unfolding text_of listing_of lines_joined
  refused-text p e z = rw (← e, ne_eqb p.refusal.number 0 z) (append-nil (refused_line p.refusal.number p.refusal.cell))

  text-refused : (r : Refusal) → read_refusal f most_cells ≡ r → ¬ (r.number ≡ 0) → text_of f ≡ refused_line r.number r.cell
  unfolding reading_of columns_of
  text-refused r e z = refused-text (columns_of r 0 0 (entry f)) (rw (e, ne_eqb r.number 0 z)) z

module _ (f : Bytes) (t t' : List Record) (n al : ℕ) (g : Reads f t t' (plan_of n al)) (s s' : List ℕ) (ps ps' : List ℤ) (w h : ℕ) (l : Lays (cells_of (take n t')) al s s' ps ps' (sheet_of w h)) where
  passes : (file_refusal f).number ≡ 0
  passes = (both-none _ (file_refusal f) (zero_of _ _ (Law.read_refusal f (length t)) (told f t t' n al g).0)).1

  cells_are : read_table (plan f) ≡ cells_of (take n t')
  cells_are = same-table f (headed f passes) ∙ ap cells_of (sym (first-records f t t' n al g))

  long : length (cells_of (take n t')) ≡ n
  long = ap (λ (rs : List Record). length (cells_of rs)) (first-records f t t' n al g) ∙ Law.cells-length f ∙ sym (told f t t' n al g).1

  text-is : text_of f ≡ printed_sheet (cells_of (take n t')) n al w h (placed ps') (label_of f)
  unfolding columns_of
  text-is =
      sym (text-plan (plan f) f (taken f passes))
      ∙ lines_same (plan f) f (cells_of (take n t')) n al w h (placed ps') (sym (told f t t' n al g).1) (sym (told f t t' n al g).2) cells_are
      (ap plus (sheet-wide (cells_of (take n t')) al s s' ps ps' _ l)) (ap plus (sheet-deep (cells_of (take n t')) al s s' ps ps' _ l)) long (sheet-written (cells_of (take n t')) al s s' ps ps' w h l)

  pub prints : (out out' : Bytes) (r : Result ℕ Refusal) → Lists f out out' r → refusal list (list_given (length out)) ≡ none
      → (r ≡ Ok (length (printed_sheet (cells_of (take n t')) n al w h (placed ps') (label_of f))))
      × (out' ≡ printed_sheet (cells_of (take n t')) n al w h (placed ps') (label_of f) ++ drop (length (printed_sheet (cells_of (take n t')) n al w h (placed ps') (label_of f))) out)
  prints out out' r a z = let k = listing.gives f out out' r a z in (rw text-is at k.answers, rw text-is at k.bytes)

-- Read refuses
refused-is : (f : Bytes) (k c : ℕ) (r : Refusal) → refusing k c ≡ read_answered f r → (¬ (r.number ≡ 0)) × (r.number ≡ k) × (r.cell ≡ c)
unfolding read_answered
refused-is f k c r e = let (q, n) = refused_by r _ (record { number = k; cell = c }) e in (n, ap (λ (x : Refusal). x.number) (sym q), ap (λ (x : Refusal). x.cell) (sym q))

pub prints_refusal : (f : Bytes) (t t' : List Record) (k c : ℕ) → Reads f t t' (refusing k c) → most_cells ≤ length t → (out out' : Bytes) (r : Result ℕ Refusal) → Lists f out out' r → refusal list (list_given (length out)) ≡ none
    → (r ≡ Ok (length (refused_line k c))) × (out' ≡ refused_line k c ++ drop (length (refused_line k c)) out)
prints_refusal f t t' k c g room out out' r a z =
    let (some, ek, ec) = refused-is f k c (file_refusal f) (g.answers ∙ ap (read_answered f) (read-enough f (length t) room)) in
    let e : text_of f ≡ refused_line k c = text-refused f (file_refusal f) (read-most f) some ∙ rw (ek, ec) in
    let l = listing.gives f out out' r a z in
    (rw e at l.answers, rw e at l.bytes)

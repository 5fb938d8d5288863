-- A label that Label gives has at most 40 bytes; the lines, from what the code has; our sheet, from what is drawn. Assumes nothing.
use Rattle.std.specs.Prelude.{◌≡◌, List, ℕ, ◌+◌, ◌*◌, ◌≤◌, ◌<◌, leb, ℤ, pos, length, get_or}
use Rattle.std.proofs.Common.{ap, arith, leb→le, ltb→lt, length-take, eq-eqb, ne_eqb}
use Rattle.std.proofs.Math.Decide.{ℕ_discrete}
use Rattle.plan.specs.Limits.{most_cells, most_label}
use Rattle.plan.specs.Forms.{widest}
use Rattle.plan.proofs.Laws.Columns.{table-length, width-at, depth_at}
use Rattle.plan.specs.Questions.{asked}
use Rattle.plan.proofs.Laws.Questions.{both-none, asked_yes, each_none}
use Rattle.plan.specs.Steps.{cell_refusal}
use Rattle.plan.proofs.Laws.Steps.{and_left}
use Rattle.rules.specs.Placement.{placed}
use Rattle.positions.proofs.Laws.Written.{written_agree}
use Rattle.plan.specs.declared.Measures.{Measures}
use Rattle.layout.specs.Laid.{Drawn}
use Rattle.plan.specs.declared.forms.Form.{Form}
use Rattle.planfile_spec.specs.Read.{Reading}
use Rattle.planfile_spec.specs.Format.{trailer_of, form, entry}
use Rattle.planfile_spec.specs.Reading.{label_refusal, label_part}
use Rattle.planfile_spec.specs.FileSteps.{inside, record_refusal, entry_refusal, header_refusal, body_refusal, file_refusal}
use Rattle.planfile_spec.proofs.Laws.File.{label_refusal-is}
use Rattle.planfile_spec.proofs.Laws.Examined.{zero_of}
use Rattle.listing.specs.Printed.{Bytes, sheet_line, cell_line}
use Rattle.printing.specs.Printing.{label_bytes, read_table, ours, first_line, cell_of, Placed, Measured}

-- a label
record_short : (form : Form) (begin c p k w d l s : ℕ) → (record_refusal form begin c p k w d l s).number ≡ 0 → l ≤ most_label
unfolding record_refusal
record_short form begin c p k w d l s e =
    let (a, r) = both-none (cell_refusal (widest form) c p k w d) _ e in
    let (b, q) = both-none (asked 9 (inside begin l s) c) _ r in
    leb→le l most_label (and_left (leb l most_label) _ (asked_yes 8 (inside begin l s) c b))

entry_short : (f : Bytes) (c : ℕ) → (label_refusal f c).number ≡ 0 → (entry f c).label_length ≤ most_label
unfolding file_refusal body_refusal
entry_short f c z =
    let (files, named) = both-none (file_refusal f) _ (zero_of _ _ (label_refusal-is f c) z) in
    let (header, body) = both-none (header_refusal f) (body_refusal f) files in
    let (records, rest) = both-none _ _ body in
    let i : c < (trailer_of f).count = ltb→lt c _ (asked_yes 15 _ 0 named) in
    record_short (form f) (trailer_of f).begin c _ _ _ _ (entry f c).label_length (entry f c).label_start (each_none (entry_refusal f) (trailer_of f).count records c i)

pub label_short : (f : Bytes) (c : ℕ) → length (label_bytes f c) ≤ most_label
unfolding label_part
label_short f c = go (ℕ_discrete (label_refusal f c).number 0)
  where
    go : Dec ((label_refusal f c).number ≡ 0) → length (label_bytes f c) ≤ most_label
    go (yes z) = rw (eq-eqb (label_refusal f c).number 0 z, length-take) (omega (arith, entry_short f c z))
    go (no z) = rw (ne_eqb (label_refusal f c).number 0 z) (omega arith)

-- ---- the lines, from what the code has
pub first-is : (p : Reading) (w h : ℕ) → Measured p w h → sheet_line p.columns.count p.allowance w h ≡ first_line p
unfolding first_line
first-is p w h m = rw (m.wide, m.deep)

pub cell_is : (p : Reading) (f : Bytes) (ps : List ℤ) (c : ℕ) → c < p.columns.count → Placed p ps
    → cell_line c (get_or ps (2 * c) (pos 0)) (get_or ps (2 * c + 1) (pos 0)) (get_or p.columns.width c 0) (get_or p.columns.depth c 0) (label_bytes f c) ≡ cell_of p f c
unfolding cell_of placed
cell_is p f ps c h d =
    let t = p.columns in
    let i : c < length (read_table p) = omega (arith, table-length t.parent t.kind t.width t.depth t.rank t.count) in
    let (x, y) = d.agree c i in
    rw (x, y, width-at t.parent t.kind t.width t.depth t.rank t.count c h, depth_at t.parent t.kind t.width t.depth t.rank t.count c h)

-- ---- our sheet, from what is drawn
module _ (p : Reading) (few : p.columns.count ≤ most_cells) {s' : List ℕ} {ps ps' : List ℤ} {r : Measures} (d : Drawn (read_table p) p.allowance s' ps ps' r) where
  pub drawn_placed : 2 * most_cells ≤ length ps' → Placed p ps'
  drawn_placed room = record { few = few; room = omega arith; agree = rw d.positions (written_agree (ours p) (read_table p) ps) }

  pub drawn_measured : Measured p r.width r.rows
  drawn_measured = record { small = few; wide = ap (λ (m : Measures). m.width) d.answers; deep = ap (λ (m : Measures). m.rows) d.answers }

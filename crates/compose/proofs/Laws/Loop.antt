-- What the loop over the lines rests on: what is left to read, the cells so far, and the label bytes so far. Assumes nothing.
use Rattle.std.specs.Prelude.{◌≡◌, List, [], ◌∷◌, ◌++◌, ℕ, suc, ◌+◌, ◌≤◌, ◌<◌, length, get_or, take, drop}
use Rattle.std.proofs.Math.Path.{refl}
use Rattle.std.proofs.Common.{ap, ◌∙◌, arith, length-append, length-drop, drop-drop, take_at, drop_at, length-take-le, take_all, lt-ltb, le-ltb}
use Rattle.std.proofs.lemmas.List.Edits.{sets, sets-eq}
use Rattle.std.proofs.lemmas.List.{take-append-le, drop-append-le}
use Rattle.plan.specs.Limits.{most_cells}
use Rattle.plan.specs.declared.Record.{Record}
use Rattle.listing.specs.Printed.{Bytes}
use Rattle.content.specs.Content.{Item, text_of}
use Rattle.outline_spec.specs.Understood.{cell, wrong, Cells, faulty, items, line, lines, with_cell, cells}
use Rattle.outline_spec.specs.declared.Fault.{Fault}
use Rattle.outline_spec.specs.declared.Fault.TheVariants.{ManyCells}
use Rattle.compose.specs.Steps.{line_long}
use Rattle.compose.specs.Prefixed.{prefixed}
use Rattle.compose_fields.proofs.Laws.Parts.{from_place, past_end}
use Rattle.compose.proofs.Laws.Lines.{lines_cons}

-- ---- cells before what is still to be read
pub prefixed_last : (is : List Item) (i : Item) (x : Cells) → prefixed (is ++ (i ∷ [])) x ≡ prefixed is (with_cell i x)
unfolding prefixed
prefixed_last [] i x = refl
prefixed_last (j ∷ is) i x = ap (with_cell j) (prefixed_last is i x)

pub prefixed-fault : (is : List Item) (n : ℕ) (f : Fault) → prefixed is (faulty n f) ≡ faulty n f
unfolding prefixed with_cell
prefixed-fault [] n f = refl
prefixed-fault (j ∷ is) n f = ap (with_cell j) (prefixed-fault is n f)

pub prefixed-all : (is js : List Item) → prefixed is (items js) ≡ items (is ++ js)
unfolding prefixed with_cell
prefixed-all [] js = refl
prefixed-all (j ∷ is) js = ap (with_cell j) (prefixed-all is js)

-- ---- the next line
module _ (c : ℕ) (seen : List ℕ) (b : Bytes) (bs : List Bytes) where
  pub cells_many : most_cells ≤ c → cells c seen (b ∷ bs) ≡ faulty (c + 2) ManyCells
  unfolding cells
  cells_many h = rw (le-ltb c most_cells h, cells) refl

  pub cells-wrong : c < most_cells → (f : Fault) → line c seen b ≡ wrong f → cells c seen (b ∷ bs) ≡ faulty (c + 2) f
  unfolding cells
  cells-wrong h f e = rw (lt-ltb c most_cells h, cells, e, cells) refl

  pub cells-more : c < most_cells → (l : ℕ) (i : Item) → line c seen b ≡ cell l i → cells c seen (b ∷ bs) ≡ with_cell i (cells (suc c) (seen ++ (l ∷ [])) bs)
  unfolding cells
  cells-more h l i e = rw (lt-ltb c most_cells h, cells, e, cells) refl

-- the line from a place on that is not the end, and the lines after it
pub lines_from : (text : Bytes) (at : ℕ) → at < length text
    → lines (drop at text) ≡ take (line_long (drop at text)) (drop at text) ∷ lines (drop (at + line_long (drop at text) + 1) text)
lines_from text at h =
    let n = line_long (drop at text) in
    let e : drop at text ≡ get_or text at 0 ∷ drop (at + 1) text = from_place text at h in
    let q : lines (drop at text) ≡ take n (drop at text) ∷ lines (drop n (drop (at + 1) text)) = rw e (lines_cons (get_or text at 0) (drop (at + 1) text)) in
    let k : at + 1 + n ≡ at + n + 1 = omega arith in
    let d : drop n (drop (at + 1) text) ≡ drop (at + n + 1) text = drop-drop n (at + 1) text ∙ ap (λ i. drop i text) k in
    q ∙ ap (λ t. take n (drop at text) ∷ lines t) d

pub lines_none : (text : Bytes) (at : ℕ) → length text ≤ at → lines (drop at text) ≡ []
unfolding lines
lines_none text at h = rw (past_end text at h) refl

-- ---- the label bytes so far, and one label more
pub base_more : (letters label : List ℕ) (used : ℕ) → used + length label ≤ length letters → take (used + length label) (sets letters used label) ≡ take used letters ++ label
base_more letters label used h =
    let n : length (take used letters) ≡ used = length-take-le used letters (omega arith) in
    let e : sets letters used label ≡ (take used letters ++ label) ++ drop (used + length label) letters = sets-eq label letters used h in
    let k : length (take used letters ++ label) ≡ used + length label = length-append (take used letters) label ∙ rw n refl in
    ap (take (used + length label)) e ∙ take_at (take used letters ++ label) (drop (used + length label) letters) (used + length label) k

-- a label that was there stays
pub text-kept : (base label : List ℕ) (r : Record) → r.label_start + r.label_length ≤ length base → text_of (base ++ label) r ≡ text_of base r
unfolding text_of
text-kept base label r h =
    let k : r.label_length ≤ length (drop r.label_start base) = rw (length-drop r.label_start base) (omega arith) in
    rw (drop-append-le r.label_start base label (omega arith), take-append-le r.label_length (drop r.label_start base) label k) refl

-- and a new one is what was put behind them
pub text_new : (base label : List ℕ) (r : Record) → r.label_start ≡ length base → r.label_length ≡ length label → text_of (base ++ label) r ≡ label
unfolding text_of
text_new base label r s n = rw (s, n, drop_at base label (length base) refl) (take_all (length label) label (omega arith))

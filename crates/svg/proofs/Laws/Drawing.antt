-- The drawing, part by part, as the code writes it. Nothing that a reader must believe stands here. Assumes nothing.
use Rattle.std.specs.Prelude.{◌≡◌, refl, List, [], ◌∷◌, ◌++◌, Bool, true, false, not, T, ℕ, ◌+◌, ◌-◌, ◌*◌, ◌≤◌, ◌<◌, Float, ℤ, pos, length, get_or, take, replicate}
use Rattle.std.proofs.Common.{sym, ◌∙◌, ap, subst, append-nil, append_assoc, add-one, arith, take-suc, take_all}
use borrow.Author.Tests.{eq-eqb, ne_eqb}
use Rattle.whole.specs.Whole.{plus}
use Rattle.plan.specs.Limits.{most_cells, scratch_size}
use Rattle.plan.specs.Fit.{Fit}
use Rattle.plan.specs.Near.{Near}
use Rattle.plan.specs.Pages.{fair}
use Rattle.plan.specs.Questions.{strokes_of}
use Rattle.plan.proofs.Laws.Columns.{table-length}
use Rattle.plan.specs.declared.Page.{Page}
use Rattle.plan.specs.declared.Refusal.{Refusal}
use Rattle.plan.specs.Columns.{table_of}
use Rattle.plan.proofs.Laws.Tables.{length-is, count-some}
use Rattle.plan.specs.declared.Columns.{Columns}
use Rattle.rules.specs.Placement.{Placement, placed, width, rows}
use Rattle.least.proofs.Laws.Columns.{sheet-inside}
use Rattle.positions.specs.Written.{written}
use Rattle.positions.proofs.Laws.Written.{written_agree}
use Rattle.layout.specs.Laid.{Drawn}
use Rattle.plan.specs.declared.Measures.{Measures}
use Rattle.planfile_spec.specs.Read.{Reading}
use Rattle.planfile_spec.specs.Reading.{reading_of}
use Rattle.listing.specs.Printed.{Bytes, refused_line}
use Rattle.listing.specs.Put.{Put}
use Rattle.listing.proofs.Laws.Put.{then, put-none}
use Rattle.printing.specs.Printing.{Taken, read_table, ours, label_bytes}
use Rattle.printing.proofs.Laws.Taken.{taken_few, taken_drawable}
use Rattle.pen.specs.declared.Stroke.{Stroke}
use Rattle.pen.specs.declared.Stroke.TheVariants.{Lift}
use Rattle.pen.specs.Strokes.{strokes}
use Rattle.pen.proofs.Laws.Strokes.{strokes-length}
use Rattle.svg_strokes.specs.Strokes.{stroke_text, head_text}
use Rattle.svg_labels.specs.Labels.{label_text, labels_head}
use Rattle.svg.specs.Words.{svg_close}
use Rattle.svg.specs.Drawing.{strokes_text, labels_text, side, our_positions, our_strokes, sheet_text, drawing_of}

-- ---- strokes, one more at a time
strokes-append : (l k : List Stroke) → strokes_text (l ++ k) ≡ strokes_text l ++ strokes_text k
unfolding strokes_text
strokes-append [] k = refl
strokes-append (s ∷ l) k = ap (λ (r : Bytes). stroke_text s ++ r) (strokes-append l k) ∙ sym (append_assoc (stroke_text s) (strokes_text l) (strokes_text k))

-- the loop over l
pub strokes-start : (l : List Stroke) (a : List ℕ) (i : ℕ) → Put a i (strokes_text (take 0 l)) a i
unfolding strokes_text
strokes-start l a i = put-none a i

pub strokes-put : (l : List Stroke) {a b d : List ℕ} {i j k s : ℕ} (st : Stroke) → Put a i (strokes_text (take s l)) b j → s < length l → st ≡ get_or l s Lift → Put b j (stroke_text st) d k → Put a i (strokes_text (take (s + 1) l)) d k
unfolding strokes_text
strokes-put l {s = s} st p h e q =
    let t : take (s + 1) l ≡ take s l ++ (get_or l s Lift ∷ []) = rw add-one (take-suc l s Lift h) in
    rw (t, strokes-append (take s l) (get_or l s Lift ∷ []), append-nil (stroke_text (get_or l s Lift)), ← e) (then p q)

pub strokes-done : (l : List Stroke) {a b : List ℕ} {i k s : ℕ} → Put a i (strokes_text (take s l)) b k → length l ≤ s → Put a i (strokes_text l) b k
strokes-done l {s = s} p h = rw (take_all s l h) at p

-- a number of one of n
pub within : {m n s : ℕ} → m ≡ n → s < n → s < m
within e h = omega arith

pub beyond : {m n s : ℕ} → m ≡ n → n ≤ s → m ≤ s
beyond e h = omega arith

-- ---- labels, one more at a time
pub labels-start : (l : List Stroke) (f : Bytes) (a : List ℕ) (i : ℕ) → Put a i (labels_text l f 0) a i
unfolding labels_text
labels-start l f a i = put-none a i

pub labels-put : (l : List Stroke) (f : Bytes) {a b d : List ℕ} {i j k : ℕ} (c : ℕ) (st : Stroke) (t : Bytes) → Put a i (labels_text l f c) b j → st ≡ get_or l (6 * c + 3) Lift → t ≡ label_bytes f c → Put b j (label_text st t) d k → Put a i (labels_text l f (c + 1)) d k
unfolding labels_text
labels-put l f c st t p e g q = rw add-one (rw (← e, ← g) (then p q))

pub labels-done : (l : List Stroke) (f : Bytes) {a b : List ℕ} {i k c n : ℕ} → Put a i (labels_text l f c) b k → c ≤ n → n ≤ c → Put a i (labels_text l f n) b k
labels-done l f {c = c} {n = n} p h g = let e : c ≡ n = omega arith in rw e at p

-- ---- the strokes of a table
module _ (t : Columns) (fit : Fit (table_of t)) where
  pub some-count : 1 ≤ t.count
  some-count = count-some t fit

  pub many_is : (p : Placement) (g : Page) → length (strokes (table_of t) p g) ≡ 9 * t.count - 3
  many_is p g = strokes-length (table_of t) p g fit.some_cell ∙ rw (length-is t)

pub numbered : (n s : ℕ) → s < 9 * n - 3 → s < strokes_of n
unfolding strokes_of
numbered n s i = i

-- ---- a plan that is read, and our sheet of it
count-is : (p : Reading) → length (read_table p) ≡ p.columns.count
count-is p = let t = p.columns in table-length t.parent t.kind t.width t.depth t.rank t.count

module _ (p : Reading) (f : Bytes) (h : Taken p f) where
  pub taken_fit : Fit (read_table p)
  taken_fit = (taken_drawable p f h scratch_size (2 * most_cells) refl (omega arith)).fit

  pub taken-near : (ps : List ℤ) → ps ≡ our_positions p → 2 * most_cells ≤ length ps → Near ps p.columns.count
  unfolding our_positions placed
  taken-near ps e room =
      record {
        room = omega (arith, taken_few p f h);
        x = λ c i. rw (e, (agree c i).0) (sheet-inside (read_table p) taken_fit p.allowance c (omega (arith, count-is p))).0;
        y = λ c i. rw (e, (agree c i).1) (sheet-inside (read_table p) taken_fit p.allowance c (omega (arith, count-is p))).1;
      }
    where
      agree : (c : ℕ) → c < p.columns.count → (get_or (written (replicate 512 (pos 0)) (ours p) p.columns.count) (2 * c) (pos 0) ≡ (ours p).x c) × (get_or (written (replicate 512 (pos 0)) (ours p) p.columns.count) (2 * c + 1) (pos 0) ≡ (ours p).y c)
      agree c i = rw (count-is p) at (written_agree (ours p) (read_table p) (replicate 512 (pos 0)) c (omega (arith, count-is p)))

  -- what Layout wrote
  module _ {s' : List ℕ} {ps' : List ℤ} {r : Measures} (d : Drawn (read_table p) p.allowance s' (replicate 512 (pos 0)) ps' r) where
    pub drawn_ours : ps' ≡ our_positions p
    unfolding our_positions
    drawn_ours = d.positions ∙ rw (count-is p)

    pub wide_is : r.width ≡ plus (width (read_table p) (ours p))
    wide_is = ap (λ (m : Measures). m.width) d.answers

    pub high_is : r.rows ≡ plus (rows (read_table p) (ours p))
    high_is = ap (λ (m : Measures). m.rows) d.answers

pub ours_are : (p : Reading) (g : Page) (ps : List ℤ) → ps ≡ our_positions p → strokes (read_table p) (placed ps) g ≡ our_strokes p g
unfolding our_strokes
ours_are p g ps e = rw e

-- ---- the whole
pub sheet-put : (p : Reading) (g : Page) (f : Bytes) (w h : ℕ) (x y : Float) {a b c d e o : List ℕ} {j k u m n : ℕ} (l : List Stroke) → l ≡ our_strokes p g
    → w ≡ plus (width (read_table p) (ours p)) → h ≡ plus (rows (read_table p) (ours p)) → x ≡ side w g.pitch g.margin_x → y ≡ side h g.pitch g.margin_y
    → Put a 0 (head_text x y) b j → Put b j (strokes_text l) c k → Put c k (labels_head g.pitch) d u → Put d u (labels_text l f p.columns.count) e m → Put e m svg_close o n
    → Put a 0 (sheet_text p g f) o n
unfolding sheet_text
sheet-put p g f w h x y l el ew eh ex ey q r s t v = rw (← el, ← ew, ← eh, ← ex, ← ey) (then q (then r (then s (then t v))))

module _ (p : Reading) (f : Bytes) (g : Page) (e : p ≡ reading_of f most_cells) where
  pub drawing_unfair : p.refusal.number ≡ 0 → fair g ≡ false → drawing_of f g ≡ refused_line 17 0
  unfolding drawing_of
  drawing_unfair z u = rw (← e, eq-eqb p.refusal.number 0 z, u)

  pub drawing-sheet : p.refusal.number ≡ 0 → fair g ≡ true → drawing_of f g ≡ sheet_text p g f
  unfolding drawing_of
  drawing-sheet z u = rw (← e, eq-eqb p.refusal.number 0 z, u)

pub drawing-refused : (f : Bytes) (r : Refusal) (g : Page) → r ≡ (reading_of f most_cells).refusal → ¬ (r.number ≡ 0) → drawing_of f g ≡ refused_line r.number r.cell
unfolding drawing_of
drawing-refused f r g e n = rw (← e, ne_eqb r.number 0 n)

-- a test that is turned round
pub unfair : (r b : Bool) → r ≡ b → not r ≡ true → b ≡ false
unfair true b e h = absurd (subst T (sym h) tt)
unfair false b e h = sym e

pub is-fair : (r b : Bool) → r ≡ b → not r ≡ false → b ≡ true
is-fair true b e h = sym e
is-fair false b e h = absurd (subst T h tt)

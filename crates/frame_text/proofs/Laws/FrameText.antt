-- The line from its parts, and the answers case by case: for the code. Nothing that a reader must believe stands here. Assumes nothing.
use Rattle.std.specs.Prelude.{◌≡◌, refl, List, [], ◌∷◌, ℕ, ◌*◌, ◌≤◌, ℤ, length, Option, Some, None, Result, Ok, Err}
use Rattle.std.proofs.Common.{ap, ◌∙◌, arith}
use borrow.Author.Tests.{eq-eqb, ne_eqb}
use Rattle.plan.specs.Limits.{most_cells, most_allowance, scratch_size}
use Rattle.plan.specs.Plan.{Table}
use Rattle.plan.specs.Columns.{table_of}
use Rattle.plan.specs.Fit.{Fit}
use Rattle.plan.specs.Questions.{refusal, frame, frame_given}
use Rattle.plan.specs.declared.Measures.{Measures}
use Rattle.plan.specs.declared.Refusal.{Refusal}
use Rattle.layout.specs.Laid.{Drawable, Drawn}
use Rattle.planfile_spec.specs.Read.{Reading, answer_of}
use Rattle.planfile_spec.proofs.Laws.Answer.{read_refused}
use Rattle.planfile_spec.specs.Reading.{reading_of}
use Rattle.listing.specs.Printed.{space, line_feed, line, decimal, refused_line}
use Rattle.listing.specs.Put.{Put}
use Rattle.listing.proofs.Laws.Put.{then}
use Rattle.printing.specs.Printing.{Taken}
use Rattle.printing.proofs.Laws.Taken.{taken_drawable}
use Rattle.fitting.specs.Fitted.{fitted_of, Frames}
use Rattle.frame_text.specs.FrameText.{sheet_fields, allowance_line, none_line, measures_of, fitted_line, answer_line, frame_text}

-- ---- the lines, from their parts: ` width `, ` rows `, `allowance ` and `none`
pub sheet-put : (w h : ℕ) {a b c d e g : List ℕ} {i j k l m o : ℕ} → Put a i (32 ∷ 119 ∷ 105 ∷ 100 ∷ 116 ∷ 104 ∷ 32 ∷ []) b j → Put b j (decimal w) c k → Put c k (32 ∷ 114 ∷ 111 ∷ 119 ∷ 115 ∷ 32 ∷ []) d l → Put d l (decimal h) e m → Put e m (line_feed ∷ []) g o
    → Put a i (space ∷ line (sheet_fields w h)) g o
unfolding line sheet_fields
sheet-put w h p q r s t = then p (then q (then r (then s t)))

pub allowance_put : (al w h : ℕ) {a b c d : List ℕ} {i j k l : ℕ} → Put a i (97 ∷ 108 ∷ 108 ∷ 111 ∷ 119 ∷ 97 ∷ 110 ∷ 99 ∷ 101 ∷ 32 ∷ []) b j → Put b j (decimal al) c k → Put c k (space ∷ line (sheet_fields w h)) d l → Put a i (allowance_line al w h) d l
unfolding allowance_line line sheet_fields
allowance_put al w h p q r = then p (then q r)

pub none-put : (w h : ℕ) {a b c : List ℕ} {i j k : ℕ} → Put a i (110 ∷ 111 ∷ 110 ∷ 101 ∷ []) b j → Put b j (space ∷ line (sheet_fields w h)) c k → Put a i (none_line w h) c k
unfolding none_line line sheet_fields
none-put w h p q = then p q

-- ---- the sheet that is drawn
pub table_drawable : (t : Table) → Fit t → (s n : ℕ) → s ≡ scratch_size → 2 * most_cells ≤ n → Drawable t s n
table_drawable t h s n e l = record { fit = h; room = omega (arith, h.not_too_many); scratch = e }

pub drawn_measures : (t : Table) (al : ℕ) {s' : List ℕ} {ps ps' : List ℤ} {r : Measures} → Drawn t al s' ps ps' r → r ≡ measures_of t al
unfolding measures_of
drawn_measures t al d = d.answers

-- ---- the answers
module _ (t : Table) {r : Result (Option ℕ) Refusal} {a b : List ℕ} {n : ℕ} where
  pub tell_allowance : {al : ℕ} {x : Option ℕ} (m : Measures) → r ≡ Ok x → x ≡ Some al → m ≡ measures_of t al → Put a 0 (allowance_line al m.width m.rows) b n → Put a 0 (fitted_line t r) b n
  unfolding fitted_line
  tell_allowance m e o q u = rw (e, o) (rw q at u)

  pub tell_none : {x : Option ℕ} (m : Measures) → r ≡ Ok x → x ≡ None → m ≡ measures_of t most_allowance → Put a 0 (none_line m.width m.rows) b n → Put a 0 (fitted_line t r) b n
  unfolding fitted_line
  tell_none m e o q u = rw (e, o) (rw q at u)

  pub tell_refused : {x : Refusal} → r ≡ Err x → Put a 0 (refused_line x.number x.cell) b n → Put a 0 (fitted_line t r) b n
  unfolding fitted_line
  tell_refused e u = rw e u

pub answered : (t : Table) (f : ℕ) {s s' : List ℕ} {r : Result (Option ℕ) Refusal} {a b : List ℕ} {n : ℕ} → Frames t f s s' r → length s ≡ scratch_size → Put a 0 (fitted_line t r) b n → Put a 0 (answer_line t f) b n
unfolding answer_line
answered t f {s = s} {r = r} g e u =
    let q : r ≡ fitted_of t f (refusal frame (frame_given t f scratch_size)) = g.answers ∙ ap (λ (k : ℕ). fitted_of t f (refusal frame (frame_given t f k))) e in
    rw (← q) u

-- ---- the file, as Read gives it
module _ (p : Reading) (f : List ℕ) (h : Taken p f) where
  pub file_fit : Fit (table_of p.columns)
  file_fit = (taken_drawable p f h scratch_size (2 * most_cells) refl (omega arith)).fit

  pub file-answered : (squares : ℕ) {a b : List ℕ} {n : ℕ} → Put a 0 (answer_line (table_of p.columns) squares) b n → Put a 0 (frame_text f squares) b n
  unfolding frame_text
  file-answered squares u = let e = h.is in rw (← e, eq-eqb p.refusal.number 0 h.passes) u

pub file-refused : (f : List ℕ) (x : Refusal) → Err x ≡ answer_of (reading_of f most_cells) → (squares : ℕ) {a b : List ℕ} {n : ℕ} → Put a 0 (refused_line x.number x.cell) b n → Put a 0 (frame_text f squares) b n
unfolding frame_text
file-refused f x e squares u =
    let p = reading_of f most_cells in
    let (q, z) = read_refused f most_cells x e in
    let m : ¬ (p.refusal.number ≡ 0) = rw q at z in
    rw (ne_eqb p.refusal.number 0 m) (rw q at u)

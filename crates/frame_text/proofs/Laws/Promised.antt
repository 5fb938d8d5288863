-- What `frame` prints of a file that Read accepts: the proofs. Assumes nothing.
use Rattle.std.specs.Prelude.{◌≡◌, refl, ℕ, ◌*◌, ◌≤◌, leb, pos, ◌<ℤ◌, Ok}
use Rattle.std.proofs.Common.{sym, ◌∙◌, arith, eq-eqb, ne_eqb}
use Rattle.std.proofs.Math.Path.{ap}
use Rattle.std.proofs.Math.ListN.{length}
use Rattle.whole.proofs.Laws.Says.{is_true, says_le}
use Rattle.plan.specs.Limits.{between, most_cells, most_allowance, scratch_size}
use Rattle.plan.specs.Plan.{Table}
use Rattle.plan.specs.Columns.{table_of}
use Rattle.plan.specs.Fit.{Fit}
use Rattle.plan.specs.Questions.{refusal, frame, frame_given, none, asked}
use Rattle.plan.proofs.Laws.Answered.{answered_none}
use Rattle.plan.proofs.Laws.Questions.{first-none, both-none}
use Rattle.plan.proofs.Laws.Kept.{asked_true}
use Rattle.plan.specs.Steps.{table_refusal, counted_refusal, lent_refusal}
use Rattle.plan.proofs.Laws.Calls.{layout-refusal, frame-refusal}
use Rattle.plan.specs.declared.Refusal.{Refusal}
use Rattle.rules.specs.Placement.{width}
use Rattle.contours.specs.Sheet.{sheet}
use Rattle.least.specs.Frame.{least_allowance, Least}
use Rattle.least.proofs.Laws.Frame.{found-least, nowhere-wide}
use Rattle.planfile_spec.specs.Read.{Reading}
use Rattle.planfile_spec.specs.Reading.{reading_of}
use Rattle.listing.specs.Printed.{Bytes, refused_line}
use Rattle.printing.specs.Printing.{Taken}
use Rattle.printing.proofs.Laws.Taken.{taken-layout}
use Rattle.fitting.specs.Fitted.{told, fitted_of}
use Rattle.frame_text.specs.FrameText.{allowance_line, none_line, measures_of, fitted_line, answer_line, frame_text}
use Rattle.frame_text.proofs.Laws.FrameText.{file_fit}

abbrev pub read_table : (file : Bytes) → Table
read_table f = table_of (reading_of f most_cells).columns

-- a file that Read refuses
pub refused-text : (f : Bytes) (n : ℕ) → ¬ ((reading_of f most_cells).refusal.number ≡ 0) → frame_text f n ≡ refused_line (reading_of f most_cells).refusal.number (reading_of f most_cells).refusal.cell
unfolding frame_text
refused-text f n z = rw (ne_eqb (reading_of f most_cells).refusal.number 0 z)

-- a file that Read accepts
module _ (f : Bytes) (z : (reading_of f most_cells).refusal.number ≡ 0) (n : ℕ) where
  abbrev p : Reading
  p = reading_of f most_cells

  abbrev t : Table
  t = read_table f

  taken : Taken p f
  taken = record { is = refl; passes = z }

  -- 4, 6 to 8 and 11 to 13 do not refuse its table
  counted : (counted_refusal t).number ≡ 0
  unfolding counted_refusal lent_refusal
  counted =
      let laid = taken-layout p f taken scratch_size (2 * p.columns.count) (omega arith) (omega arith) in
      let y = ap (λ (x : Refusal). x.number) (sym (layout-refusal t p.allowance scratch_size (2 * p.columns.count)) ∙ laid) in
      let (one, rest) = both-none (asked 1 (leb scratch_size scratch_size) 0) _ y in
      let (lent, last) = both-none (lent_refusal t (2 * p.columns.count)) _ rest in
      let (four, more) = both-none (asked 4 (between 1 most_cells (length t)) 0) _ lent in
      let (room, table) = both-none (asked 1 (leb (2 * length t) (2 * p.columns.count)) 0) (table_refusal t) more in
      ap (λ (x : Refusal). x.number) (first-none (asked 4 (between 1 most_cells (length t)) 0) (table_refusal t) four) ∙ table

  asks : refusal frame (frame_given t n scratch_size) ≡ asked 19 (leb 1 n) 0
  asks =
      frame-refusal t n scratch_size
      ∙ rw (is_true (says_le scratch_size scratch_size) (omega arith), asked_true 0 0) (first-none _ _ refl ∙ first-none (counted_refusal t) (asked 19 (leb 1 n) 0) counted)

  is-answer : frame_text f n ≡ answer_line t n
  unfolding frame_text
  is-answer = rw (eq-eqb p.refusal.number 0 z)

  fit : Fit t
  fit = file_fit p f taken

  module _ (some : 1 ≤ n) where
    passes : (refusal frame (frame_given t n scratch_size)).number ≡ 0
    passes =
        let e : asked 19 (leb 1 n) 0 ≡ none = rw (is_true (says_le 1 n) some) (asked_true 18 0) in
        ap (λ (x : Refusal). x.number) (asks ∙ e)

    is-told : frame_text f n ≡ fitted_line t (Ok (told (least_allowance t n)))
    unfolding answer_line fitted_of
    is-told = is-answer ∙ ap (fitted_line t) (answered_none _ _ passes)

    pub least-text : (a : ℕ) → Least t n a → frame_text f n ≡ allowance_line a (measures_of t a).width (measures_of t a).rows
    unfolding told fitted_line
    least-text a l = is-told ∙ rw ((found-least t fit.some_cell fit.sound n a).1 l)

    pub none-text : pos n <ℤ width t (sheet t most_allowance) → frame_text f n ≡ none_line (measures_of t most_allowance).width (measures_of t most_allowance).rows
    unfolding told fitted_line
    none-text w = is-told ∙ rw ((nowhere-wide t fit.some_cell fit.sound n).1 w)

-- WHAT IS PROMISED of the line that `frame` prints (document 02, E2), and lines of document 01's ◆E and ◆F, computed. Statements only; the proofs are in laws/. Assumes nothing.
use Rattle.std.specs.Prelude.{◌≡◌, [], ◌∷◌, ℕ, ◌≤◌, pos, ◌<ℤ◌}
use Rattle.plan.specs.Limits.{most_cells, most_allowance}
use Rattle.plan.specs.Columns.{table_of}
use Rattle.rules.specs.Placement.{width}
use Rattle.contours.specs.Sheet.{sheet}
use Rattle.least.specs.Frame.{Least}
use Rattle.least.specs.Worked.{E, F}
use Rattle.planfile_spec.specs.Reading.{reading_of}
use Rattle.listing.specs.Printed.{Bytes, refused_line}
use Rattle.frame_text.specs.FrameText.{allowance_line, none_line, measures_of, answer_line, frame_text}
use Rattle.frame_text.proofs.Laws.Promised as laws
use Rattle.frame_text.proofs.Laws.Worked as worked

-- a file that Read refuses: its refusal
pub refused : (f : Bytes) (n : ℕ) → ¬ ((reading_of f most_cells).refusal.number ≡ 0) → frame_text f n ≡ refused_line (reading_of f most_cells).refusal.number (reading_of f most_cells).refusal.cell
refused = laws.refused-text

-- a file that Read accepts, and a frame of a square or more: "the least allowance from 0 to 65,535 whose sheet is no wider than the frame", with that sheet's width and rows,
module _ (f : Bytes) (z : (reading_of f most_cells).refusal.number ≡ 0) (n : ℕ) (some : 1 ≤ n) where
  pub least : (a : ℕ) → Least (table_of (reading_of f most_cells).columns) n a
      → frame_text f n ≡ allowance_line a (measures_of (table_of (reading_of f most_cells).columns) a).width (measures_of (table_of (reading_of f most_cells).columns) a).rows
  least = laws.least-text f z n some

  -- "or none", where the sheet at 65,535 is wider, with that one's
  pub none : pos n <ℤ width (table_of (reading_of f most_cells).columns) (sheet (table_of (reading_of f most_cells).columns) most_allowance)
      → frame_text f n ≡ none_line (measures_of (table_of (reading_of f most_cells).columns) most_allowance).width (measures_of (table_of (reading_of f most_cells).columns) most_allowance).rows
  none = laws.none-text f z n some

-- ◆F in 25 squares: `allowance 3 width 25 rows 10`; ◆E in 8: `none width 9 rows 6`; ◆E in none: `refused 19 0`
pub lines :
    (answer_line F 25 ≡ 97 ∷ 108 ∷ 108 ∷ 111 ∷ 119 ∷ 97 ∷ 110 ∷ 99 ∷ 101 ∷ 32 ∷ 51 ∷ 32 ∷ 119 ∷ 105 ∷ 100 ∷ 116 ∷ 104 ∷ 32 ∷ 50 ∷ 53 ∷ 32 ∷ 114 ∷ 111 ∷ 119 ∷ 115 ∷ 32 ∷ 49 ∷ 48 ∷ 10 ∷ [])
    × (answer_line E 8 ≡ 110 ∷ 111 ∷ 110 ∷ 101 ∷ 32 ∷ 119 ∷ 105 ∷ 100 ∷ 116 ∷ 104 ∷ 32 ∷ 57 ∷ 32 ∷ 114 ∷ 111 ∷ 119 ∷ 115 ∷ 32 ∷ 54 ∷ 10 ∷ [])
    × (answer_line E 0 ≡ 114 ∷ 101 ∷ 102 ∷ 117 ∷ 115 ∷ 101 ∷ 100 ∷ 32 ∷ 49 ∷ 57 ∷ 32 ∷ 48 ∷ 10 ∷ [])
lines = (worked.f_25, worked.e_8, worked.e_0)

-- WORKED MENDINGS, each computed: document 01's printed plan, cramped and whole; boxes that are not altered; a plan of the wide form. Assumes nothing.
use Rattle.std.specs.Prelude.{◌≡◌, List, [], ◌∷◌, ℕ}
use Rattle.plan.specs.declared.Record.{Record}
use Rattle.mending_boxes.specs.Boxes.{new_width, new_depth}
use Rattle.mending.specs.Mended.{mended}
use Rattle.mending.specs.Mending.{lines_of}

-- `UpARun`: a run W 4, a step of width w and depth d, a step W 5, of kind k
unfoldable pub plan : (w d k : ℕ) → List ℕ
plan w d k =
    85 ∷ 112 ∷ 65 ∷ 82 ∷ 117 ∷ 110 ∷ 255 ∷ 255 ∷ 2 ∷ 4 ∷ 1 ∷ 2 ∷ 0 ∷ 0 ∷ 0 ∷ 0 ∷ 1 ∷ w ∷ d ∷ 1 ∷ 2 ∷ 0 ∷ 0 ∷ 0 ∷ k ∷ 5 ∷ 1 ∷ 3 ∷ 3 ∷ 0 ∷ 6 ∷ 0 ∷ 3 ∷ 0 ∷ 0 ∷ 0 ∷ 0x53 ∷ 0x54 ∷ []

-- a step of the wide form without a label, of a width of two bytes and a depth
unfoldable pub wide : (low high d : ℕ) → List ℕ
wide low high d =
    255 ∷ 255 ∷ 1 ∷ d ∷ low ∷ high ∷ 0 ∷ 9 ∷ 0 ∷ 0 ∷ 0 ∷ 0 ∷ 1 ∷ 0 ∷ 0 ∷ 0 ∷ 0x53 ∷ 0x55 ∷ []

-- a box of a kind with a label of n bytes
unfoldable pub box : (kind n w d : ℕ) → Record
box k n w d = record { parent = 0; kind = k; width = w; depth = d; rank = 0; label_length = n; label_start = 0 }

pub record Rows : Type 0 where
  -- accepted: as it is, no lines
  pub whole : (mended (plan 3 1 1) ≡ plan 3 1 1) × (lines_of (plan 3 1 1) ≡ [])
  -- too narrow, and of depth 0: `1 2 0 3 1`
  pub cramped : (mended (plan 2 0 1) ≡ plan 3 1 1) × (lines_of (plan 2 0 1) ≡ 49 ∷ 32 ∷ 50 ∷ 32 ∷ 48 ∷ 32 ∷ 51 ∷ 32 ∷ 49 ∷ 10 ∷ [])
  -- a depth of 16 stays, though the width is raised; so does a cell of kind 6
  pub deep : mended (plan 1 16 1) ≡ plan 3 16 1
  pub unknown : mended (plan 3 1 6) ≡ plan 3 1 6
  -- the wide form: 0 is raised to 2; 256, whose low byte is 0, is not
  pub wide_narrow : mended (wide 0 0 0) ≡ wide 2 0 1
  pub wide_kept : mended (wide 0 1 1) ≡ wide 0 1 1
  -- a damaged mark
  pub unmarked : mended (255 ∷ 255 ∷ 1 ∷ 0 ∷ 0 ∷ 0 ∷ 0 ∷ 0 ∷ 0 ∷ 0 ∷ 1 ∷ 0 ∷ 0 ∷ 0 ∷ 0x53 ∷ 0x56 ∷ []) ≡ 255 ∷ 255 ∷ 1 ∷ 0 ∷ 0 ∷ 0 ∷ 0 ∷ 0 ∷ 0 ∷ 0 ∷ 1 ∷ 0 ∷ 0 ∷ 0 ∷ 0x53 ∷ 0x56 ∷ []
  -- borders 2 and 4; a label of 40 bytes and one of 41; kinds 0 and 6
  pub step : (new_width (box 1 3 0 1) ≡ 5) × (new_width (box 1 3 5 1) ≡ 5) × (new_width (box 1 3 6 1) ≡ 6)
  pub repeat : (new_width (box 3 3 6 1) ≡ 7) × (new_width (box 4 3 6 1) ≡ 7)
  pub long_label : (new_width (box 4 40 0 0) ≡ 44) × (new_depth (box 4 40 0 0) ≡ 1) × (new_width (box 4 41 0 0) ≡ 0) × (new_depth (box 4 41 0 0) ≡ 0)
  pub no_kind : (new_width (box 6 3 0 0) ≡ 0) × (new_depth (box 6 3 0 0) ≡ 0) × (new_width (box 0 3 0 0) ≡ 0)
  pub depths : (new_depth (box 1 0 2 0) ≡ 1) × (new_depth (box 1 0 2 15) ≡ 15) × (new_depth (box 1 0 2 16) ≡ 16)

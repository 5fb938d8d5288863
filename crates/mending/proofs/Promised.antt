-- WHAT IS PROMISED OF A MENDED FILE (document 02, E11): statements only, each proof one name. A file is accepted where Read does not refuse it. Assumes nothing.
use Rattle.std.specs.Prelude.{◌≡◌, List, [], ◌↔◌, ℕ, ◌≤◌, ◌<◌, T, length}
use Rattle.plan.specs.Lists.{mem}
use Rattle.plan.specs.Questions.{none}
use Rattle.planfile_spec.specs.Format.{entry}
use Rattle.mending_boxes.specs.Boxes.{new_width, new_depth}
use Rattle.mending.specs.Mended.{would_get, looked_at, mended, altered_cells, altered, OnlyBoxes, altered_by}
use Rattle.mending.specs.Worked.{Rows}
use Rattle.mending.proofs.Laws.Worked as rows
use Rattle.mending.proofs.Laws.Promised as promised

-- "alters no other byte"
pub mend-only : (f : List ℕ) → OnlyBoxes f (mended f)
mend-only = promised.mend-only

-- "a file refused by 2 to 4 is not altered", and has no lines
pub mend-refused : (f : List ℕ) → 2 ≤ (would_get f).number → (would_get f).number ≤ 4 → (mended f ≡ f) × (altered f ≡ [])
mend-refused = promised.mend-refused

-- "an accepted file comes out byte for byte equal with no lines"
pub mend_keeps : (f : List ℕ) → would_get f ≡ none → (mended f ≡ f) × (altered f ≡ [])
mend_keeps = promised.mend_keeps

-- of each cell that is looked at: the width, and the depth, in the mended file
pub mend-width : (f : List ℕ) (c : ℕ) → c < looked_at f → (entry (mended f) c).width ≡ new_width (entry f c)
mend-width = promised.mend-width

pub mend_depth : (f : List ℕ) (c : ℕ) → c < looked_at f → (entry (mended f) c).depth ≡ new_depth (entry f c)
mend_depth = promised.mend_depth

-- "prints for each altered cell": the lines tell of exactly the cells whose box the mended file has altered
pub mend_tells : (f : List ℕ) (c : ℕ) → T (mem c (altered_cells f)) ↔ T (mem c (altered_by f (mended f)))
mend_tells = promised.mend_tells

-- "no accepted file that differs only in width and depth bytes alters fewer cells": it alters each that mending alters, and so as many at least
pub mend-fewest : (f g : List ℕ) → OnlyBoxes f g → would_get g ≡ none
    → ((c : ℕ) → T (mem c (altered_cells f)) → T (mem c (altered_by f g))) × (length (altered f) ≤ length (altered_by f g))
mend-fewest = promised.mend-fewest

-- a file mended once needs no more
pub mend_again : (f : List ℕ) → (mended (mended f) ≡ mended f) × (altered (mended f) ≡ [])
mend_again = promised.mend_again

-- worked mendings, of files and of boxes
pub mend-worked : Rows
mend-worked = rows.worked

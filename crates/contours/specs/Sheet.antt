-- "Our sheet for a table and an allowance" (document 01, Drawing rules, second paragraph): the placement that Layout writes, as a definition
-- that computes. Its width and rows are the placement's (crate rules). Assumes nothing.
use Rattle.std.specs.Prelude.{ℕ, zero, suc, List, [], ◌∷◌, map, length, ℤ, pos, ◌+ℤ◌, ◌-ℤ◌}
use Rattle.plan.specs.Lists.{index}
use Rattle.plan.specs.Plan.{Table, box_width, box_depth, parent, children, place, path, row}
use Rattle.rules.specs.Placement.{Placement}
use Rattle.contours.specs.Contour.{Contour, offset, contour}

module _ (t : Table) (al : ℕ) where
  -- the column of the parent c over children with these contours, the first at 0: that of the appointed one (S2)
  unfoldable pub middle : ℕ → List Contour → ℕ
  middle c os = offset al 0 os (place t c (length os))

  -- the contour of c with children of these contours
  unfoldable pub around : ℕ → List Contour → Contour
  around c os = contour al (box_width t c) (box_depth t c) (middle c os) os

  -- the contour of the subtree of c, down to d levels
  unfoldable pub trace : ℕ → ℕ → Contour
  trace zero c = record { left = []; right = [] }
  trace (suc d) c = around c (map (trace d) (children t c))

  -- the contours of c's children. Numbers rise from parents to children, so there are fewer levels than cells
  unfoldable pub contours : ℕ → List Contour
  contours c = map (trace (length t)) (children t c)

  -- the contour of c's subtree
  abbrev pub whole_contour : ℕ → Contour
  whole_contour c = around c (contours c)

  -- how far to the right of its parent a cell stands: a left child's distance is "subtracted" (Errors, first)
  unfoldable pub shift : ℕ → ℤ
  shift zero = pos 0
  shift (suc m) =
      let c = parent t (suc m) in
      let os = contours c in
      pos (offset al 0 os (index (suc m) (children t c))) -ℤ pos (middle c os)

-- f summed over the list
unfoldable pub along : (ℕ → ℤ) → List ℕ → ℤ
along f [] = pos 0
along f (a ∷ l) = f a +ℤ along f l

-- x: the shifts of the cell and of all above it, from the root at 0 (S1)
unfoldable pub column : Table → ℕ → ℕ → ℤ
column t al a = along (shift t al) (path t a)

-- THE sheet; y is the row that S1 gives
unfoldable pub sheet : Table → ℕ → Placement
sheet t al = record { x = column t al; y = λ a. pos (row t a) }

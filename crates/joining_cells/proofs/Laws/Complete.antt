-- A cell is complete: its box stands over its joined children, in the scratch as in its contour, and its marks are made. Assumes nothing.
use Rattle.std.specs.Prelude.{◌≡◌, refl, ◌≢◌, List, Bool, true, false, cond, ℕ, ◌+◌, ◌-◌, ◌*◌, ◌≤◌, ◌<◌, length, get_or, ltb}
use Rattle.std.proofs.Common.{◌∙◌, arith, ltb-true, ltb-false}
use Rattle.plan.specs.Limits.{farthest}
use Rattle.contours.specs.Contour.{Contour, greatest}
use Rattle.rows.specs.Rows.{row_size, extent, Low, box_to}
use Rattle.rows.proofs.Laws.Rows.{box_to-length, box-left, box-right, box-above, box-beside}
use Rattle.folding.proofs.Laws.Fold.{Tally, boxed}
use Rattle.folding.proofs.Laws.Lists.{get_box, length-box}
use Rattle.folding.proofs.Laws.Held.{Held}
use Rattle.joining_cells.specs.Cells.{Memory, memory_of, mark, height, completed, Completing}
use Rattle.joining_cells.proofs.Laws.Numbers.{max-is, box_low}
use Rattle.joining_cells.proofs.Laws.Marks.{length-four, mark_zero, mark-one, mark-two, mark-three, mark-other}

-- the rows xs, from the top row of the open cell c on, show in its columns k and k + 1, below its box, its children b; m is the appointed place
pub record Under (xs ms : List ℕ) (k c d m : ℕ) (b : Tally) (n : ℕ) : Type 0 where
  pub column : k ≤ 62
  pub own : 4 * c + 4 ≤ length ms
  pub held : Held m b n
  pub left : (j : ℕ) → extent xs (d + 1 + j) k ≡ get_or b.merge.left j 0
  pub right : (j : ℕ) → extent xs (d + 1 + j) (k + 1) ≡ get_or b.merge.right j 0
  pub fit : row_size * (d + 1 + length b.merge.left) ≤ length xs
  pub tall : mark ms c 0 ≡ length b.merge.left
  pub past : mark ms c 2 ≡ b.merge.past
  pub far : mark ms c 3 ≡ b.far

-- then they show its contour p, and its marks are made
pub record Complete (xs ms : List ℕ) (k c w : ℕ) (b : Tally) (p : Contour) (m : Memory) : Type 0 where
  pub same : length m.rows ≡ length xs
  pub same_marks : length m.marks ≡ length ms
  pub left : (j : ℕ) → extent m.rows j k ≡ get_or p.left j 0
  pub right : (j : ℕ) → extent m.rows j (k + 1) ≡ get_or p.right j 0
  pub beside : (j i : ℕ) → i < row_size → i ≢ k → i ≢ k + 1 → extent m.rows j i ≡ extent xs j i
  pub low : w ≤ farthest → Low xs → Low m.rows
  pub mark0 : mark m.marks c 0 ≡ b.far - b.merge.past
  pub mark1 : mark m.marks c 1 ≡ greatest p.left
  pub mark2 : mark m.marks c 2 ≡ greatest p.right
  pub mark3 : mark m.marks c 3 ≡ 0
  pub others : (x i : ℕ) → i < 4 → x ≢ c → mark m.marks x i ≡ mark ms x i

module _ (xs ms : List ℕ) (k c d w m : ℕ) (b : Tally) (n : ℕ) (h : Under xs ms k c d m b n) where
  pub height-is : height ms c d ≡ d + 1 + length b.merge.left
  height-is = rw h.tall

  pub completing : Completing (memory_of xs ms) k c d
  completing = record { column = h.column; own = h.own; rows = rw h.tall h.fit; behind = rw (h.past, h.far) h.held.behind }

  -- the contour's rows, on either side
  pub left_tall : length (boxed d w b).left ≡ height ms c d
  left_tall = length-box (d + 1) 0 b.merge.left ∙ rw h.tall

  pub right_tall : length (boxed d w b).right ≡ height ms c d
  right_tall = length-box (d + 1) w b.merge.right ∙ rw (h.tall, h.held.even)

  abbrev X : List ℕ
  X = box_to xs k w (d + 1)

  -- a row of the box, or one below it
  box-row : (j i v : ℕ) (vs : List ℕ) → i < row_size → ((j : ℕ) → j < d + 1 → extent X j i ≡ v) → ((j : ℕ) → extent xs (d + 1 + j) i ≡ get_or vs j 0)
      → (z : Bool) → ltb j (d + 1) ≡ z → extent X j i ≡ cond z v (get_or vs (j - (d + 1)) 0)
  box-row j i v vs l box below true e = box j (ltb-true _ _ e)
  box-row j i v vs l box below false e =
      let le : d + 1 ≤ j = ltb-false _ _ e in
      let q : d + 1 + (j - (d + 1)) ≡ j = omega arith in
      box-above xs k w (d + 1) h.column j i l le ∙ (rw q at (below (j - (d + 1))))

  x-left : (j : ℕ) → extent X j k ≡ get_or (boxed d w b).left j 0
  x-left j =
      rw (get_box (d + 1) 0 b.merge.left j)
      (box-row j k 0 b.merge.left (omega (arith, h.column)) (box-left xs k w (d + 1) h.column (omega (arith, h.fit))) h.left (ltb j (d + 1)) refl)

  x-right : (j : ℕ) → extent X j (k + 1) ≡ get_or (boxed d w b).right j 0
  x-right j =
      rw (get_box (d + 1) w b.merge.right j)
      (box-row j (k + 1) w b.merge.right (omega (arith, h.column)) (box-right xs k w (d + 1) h.column (omega (arith, h.fit))) h.right (ltb j (d + 1)) refl)

  pub complete : Complete xs ms k c w b (boxed d w b) (completed (memory_of xs ms) k c d w)
  unfolding completed
  complete =
      record {
        same = box_to-length xs k w (d + 1);
        same_marks = length-four ms c _ _ _ _;
        left = x-left;
        right = x-right;
        beside = λ j i l n0 n1. box-beside xs k w (d + 1) h.column j i l n0 n1;
        low = λ l q. box_low xs k w (d + 1) l q;
        mark0 = mark_zero ms c _ _ _ _ h.own ∙ rw (h.far, h.past);
        mark1 = mark-one ms c _ _ _ _ h.own ∙ max-is X k (height ms c d) (boxed d w b).left x-left (omega (arith, left_tall));
        mark2 = mark-two ms c _ _ _ _ h.own ∙ max-is X (k + 1) (height ms c d) (boxed d w b).right x-right (omega (arith, right_tall));
        mark3 = mark-three ms c _ _ _ _ h.own;
        others = λ x i l ne. mark-other ms c _ _ _ _ x i l ne;
      }

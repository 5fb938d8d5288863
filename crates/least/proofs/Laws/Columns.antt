-- How far out a column of our sheet lies, by the number of cells and the widest box. Assumes nothing.
use Rattle.std.specs.Prelude.{ℕ, ◌+◌, ◌*◌, ◌≤◌, ◌<◌, length, pos}
use Rattle.std.proofs.Common.{arith}
use Rattle.whole.specs.Whole.{plus, minus}
use Rattle.whole.proofs.Laws.Whole.{whole, narrow, sum}
use Rattle.plan.specs.Plan.{Table, Is, Sound, box_width}
use Rattle.plan.proofs.Laws.Paths.{below_root}
use Rattle.plan.proofs.Laws.Sums.{total-subtree}
use Rattle.plan.specs.Limits.{most_width}
use Rattle.plan.specs.Fit.{Fit}
use Rattle.rules.specs.Placement.{right, Inside}
use Rattle.contours.specs.Contour.{greatest}
use Rattle.contours.specs.Sheet.{whole_contour, sheet}
use Rattle.contours.proofs.Laws.Sheet.{sheet_s1}
use Rattle.least.proofs.Laws.Measures.{left-edge, right-edge}
use Rattle.least.proofs.Laws.Bounds.{contour-room}

-- with n cells, none wider than m: left of n (m + 1), either way
pub columns-within : (t : Table) → Sound t → (al : ℕ) → Is t 0 → (m : ℕ) → ((a : ℕ) → Is t a → box_width t a ≤ m)
    → (c : ℕ) → Is t c → (minus ((sheet t al).x c) < length t * (m + 1)) × (plus ((sheet t al).x c) < length t * (m + 1))
unfolding right
columns-within t sound al o m wide c i =
    let w = below_root t sound c i in
    let r = contour-room t sound al 0 o in
    let n = total-subtree t (λ a. box_width t a + 1) 0 (m + 1) (λ a j. omega (arith, wide a j)) in
    let z = (sheet_s1 t sound al).root_x in
    let e = right-edge t sound al 0 c o i w in
    let l = left-edge t sound al 0 c o i w in (
      omega (whole, narrow ((sheet t al).x c), sum ((sheet t al).x c) (pos (greatest (whole_contour t al 0).left))),
      omega (whole, narrow ((sheet t al).x c), sum ((sheet t al).x 0) (pos (greatest (whole_contour t al 0).right)), sum ((sheet t al).x c) (pos (box_width t c))),
    )

-- so question 15 never refuses our sheet, where questions 4, 6, 8 and 13 refuse nothing
pub sheet-inside : (t : Table) → Fit t → (al c : ℕ) → Is t c → Inside ((sheet t al).x c) × Inside ((sheet t al).y c)
unfolding sheet
sheet-inside t fit al c i =
    let (l, r) = columns-within t fit.sound al fit.some_cell most_width (λ a j. (fit.wide a j).1) c i in
    let n = fit.not_too_many in
    let b = fit.rows_few c i in
    (record { low = omega whole; high = omega whole }, record { low = omega whole; high = omega whole })

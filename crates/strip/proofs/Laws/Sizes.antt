-- A sheet that Layout gives is no wider than specs/Sizes.antt says. Assumes nothing.
use Rattle.std.specs.Prelude.{List, ℕ, ◌+◌, ◌≤◌, ℤ, pos, ◌≤ℤ◌, Ok}
use Rattle.std.proofs.Common.{arith}
use Rattle.whole.specs.Whole.{plus}
use Rattle.whole.proofs.Laws.Whole.{whole, narrow, sum}
use Rattle.plan.specs.Limits.{most_width}
use Rattle.plan.specs.Plan.{Table, box_width}
use Rattle.plan.specs.Fit.{Fit}
use Rattle.plan.proofs.Laws.Paths.{below_root}
use Rattle.plan.proofs.Laws.Sums.{total-subtree}
use Rattle.rules.specs.Placement.{width}
use Rattle.rules.proofs.Laws.Extents.{width_le}
use Rattle.contours.specs.Contour.{greatest}
use Rattle.contours.specs.Sheet.{whole_contour, sheet}
use Rattle.least.proofs.Laws.Measures.{left-edge, right-edge}
use Rattle.least.proofs.Laws.Bounds.{contour-room}
use Rattle.layout.specs.Laid.{Lays}
use Rattle.plan.specs.declared.Measures.{Measures}
use Rattle.layout.proofs.Laws.Laid.{sheet-asks, sheet-wide}
use Rattle.strip.specs.Sizes.{most_wide}

sheet-narrow : (t : Table) → Fit t → (al : ℕ) → plus (width t (sheet t al)) ≤ most_wide
sheet-narrow t fit al =
    let o = fit.some_cell in
    let sound = fit.sound in
    let L = greatest (whole_contour t al 0).left in
    let R = greatest (whole_contour t al 0).right in
    let r = contour-room t sound al 0 o in
    let n = total-subtree t (λ a. box_width t a + 1) 0 (most_width + 1) (λ a j. omega (arith, (fit.wide a j).1)) in
    let k : width t (sheet t al) ≤ℤ pos (L + R) =
    width_le t (sheet t al) (L + R) o (λ a b i j.
    omega (whole, right-edge t sound al 0 a o i (below_root t sound a i), left-edge t sound al 0 b o j (below_root t sound b j), sum ((sheet t al).x 0) (pos R), sum ((sheet t al).x b) (pos L), sum ((sheet t al).x b) (pos (L + R)))) in
    omega (whole, narrow (width t (sheet t al)), r, n, fit.not_too_many)

pub laid_narrow : (t : Table) (al : ℕ) (s s' : List ℕ) (ps ps' : List ℤ) (m : Measures) → Lays t al s s' ps ps' (Ok m) → m.width ≤ most_wide
laid_narrow t al s s' ps ps' m l =
    let k = sheet-narrow t (sheet-asks t al s s' ps ps' m l).table.fit al in
    omega (whole, sheet-wide t al s s' ps ps' m l, k)

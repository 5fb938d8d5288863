-- The separation is small, and that of contours. Assumes nothing.
use Rattle.std.specs.Prelude.{◌≡◌, List, map, ℕ, zero, suc, ◌+◌, ◌*◌, ◌≤◌, ◌<◌, min, ◌-◌, length, get_or}
use Rattle.std.proofs.Common.{sym, subst, ◌∙◌, ap, arith, ⊎_elim, eq-or-lt_of_le, le_of_suc-le-suc}
use Rattle.plan.specs.Limits.{farthest}
use Rattle.rows.specs.Rows.{row_size, Low, clash_to, extent}
use Rattle.plan.proofs.Laws.Lists.{at_get_or}
use Rattle.contours.specs.Contour.{greatest, clash, Contour, separation}
use Rattle.contours.proofs.Laws.Contour.{at_map, map_at, clash_le, clash-at}
use Rattle.folding.proofs.Laws.Lists.{at_get}
use Rattle.folding.proofs.Laws.Join.{Merge, near, separation_to}
use Rattle.joining_cells.specs.Cells.{Memory, mark}
use Rattle.joining_separation.specs.Separation.{settled_apart, Settling}

-- ---- the separation is small
clash_low : (xs : List ℕ) (k x n : ℕ) → Low xs → clash_to xs k x n ≤ 2 * farthest + 1
unfolding clash_to
clash_low xs k x zero h = omega arith
clash_low xs k x (suc n) h = omega (arith, clash_low xs k x n h, h (row_size * n + (k + 1)), h (row_size * n + (k + 2)))

apart_low : (m : Memory) (at f c hs al : ℕ) → Settling m at f c hs → settled_apart m at f c hs al ≤ 2 * farthest + 1
unfolding settled_apart
apart_low m at f c hs al h = omega (arith, clash_low m.rows at (mark m.marks f 2) (min (mark m.marks f 0) hs) h.low, h.edge, h.left)

pub apart_found : (m : Memory) (at f c hs al : ℕ) {g : ℕ} → Settling m at f c hs → g ≡ settled_apart m at f c hs al → (g ≡ settled_apart m at f c hs al) × (g ≤ 2 * farthest + 1)
apart_found m at f c hs al h e = (e, omega (arith, apart_low m at f c hs al h))

-- ---- what the rows that both have ask for
clash-below : (xs : List ℕ) (k x b : ℕ) (n : ℕ) → ((j : ℕ) → j < n → (extent xs j (k + 1) - x) + extent xs j (k + 2) + 1 ≤ b) → clash_to xs k x n ≤ b
unfolding clash_to
clash-below xs k x b zero h = omega arith
clash-below xs k x b (suc n) h = omega (arith, h n (omega arith), clash-below xs k x b n (λ j l. h j (omega arith)))

clash-above : (xs : List ℕ) (k x n j : ℕ) → j < n → (extent xs j (k + 1) - x) + extent xs j (k + 2) + 1 ≤ clash_to xs k x n
unfolding clash_to
clash-above xs k x zero j l = absurd (omega arith)
clash-above xs k x (suc n) j l =
    ⊎_elim (λ e. subst (λ (i : ℕ). (extent xs i (k + 1) - x) + extent xs i (k + 2) + 1 ≤ clash_to xs k x (suc n)) (sym e) (omega arith)) (λ g. omega (arith, clash-above xs k x n j g)) (eq-or-lt_of_le (le_of_suc-le-suc l))

pub clash-is : (xs : List ℕ) (k x n : ℕ) (rs ls : List ℕ) → ((j : ℕ) → extent xs j (k + 1) ≡ get_or rs j 0) → ((j : ℕ) → extent xs j (k + 2) ≡ get_or ls j 0) → n ≡ min (length rs) (length ls)
    → clash_to xs k x n ≡ clash (map (λ v. v - x) rs) ls
clash-is xs k x n rs ls hr hl e =
    let up = clash-below xs k x (clash (map (λ v. v - x) rs) ls) n (λ j l. rw (hr j, hl j) (clash-at _ ls j _ _ (map_at (λ v. v - x) rs j _ (at_get_or rs j 0 (omega arith))) (at_get_or ls j 0 (omega arith)))) in
    let down = clash_le (map (λ v. v - x) rs) ls (clash_to xs k x n) (λ j r l p q.
    let (u, a, ea) = at_map (λ v. v - x) rs j r p in
    let (e1, l1) = at_get rs j u a in
    let (e2, l2) = at_get ls j l q in
    let g = clash-above xs k x n j (omega arith) in
    omega (arith, hr j, hl j)) in
    omega arith

-- over rows and marks that show the children a joined so far, and the contour p of the next, it is the separation of the two
pub apart_is : (M : Memory) (at f c hs al : ℕ) (a : Merge) (p : Contour) → ((j : ℕ) → extent M.rows j (at + 1) ≡ get_or a.right j 0) → ((j : ℕ) → extent M.rows j (at + 2) ≡ get_or p.left j 0)
    → mark M.marks f 0 ≡ length a.right → length p.left ≡ hs → mark M.marks f 1 ≡ greatest (near a) → mark M.marks f 2 ≡ a.past → mark M.marks c 1 ≡ greatest p.left
    → settled_apart M at f c hs al ≡ separation_to al a p
unfolding settled_apart separation_to separation near
apart_is M at f c hs al a p right left tall long edge past own =
    let q : min (mark M.marks f 0) hs ≡ min (length a.right) (length p.left) = omega (arith, tall, long) in
    let g : clash_to M.rows at (mark M.marks f 2) (min (mark M.marks f 0) hs) ≡ clash (near a) p.left =
    clash-is M.rows at (mark M.marks f 2) (min (mark M.marks f 0) hs) a.right p.left right left q ∙ ap (λ (v : ℕ). clash (map (λ u. u - v) a.right) p.left) past in
    rw (g, edge, own)

-- A stretch of the scratch, and the scratch with another in its place. When a cell is closed, nothing outside the stretch below its parent's box changes. Assumes nothing.
use Rattle.std.specs.Prelude.{◌≡◌, List, ◌++◌, Bool, true, false, ℕ, zero, suc, ◌+◌, ◌-◌, ◌*◌, ◌≤◌, ◌<◌, length, get_or, take, drop, ltb}
use Rattle.std.proofs.Common.{◌∙◌, ap, sym, subst, length-drop, length-append, get_or-drop, get_or-take, get_or-append-add, length-take-le}
use native.Mathlib.Omega.{arith}
use Rattle.std.proofs.Math.ListN.{get_or-append, get_or-eq_default}
use Rattle.plan.specs.Lists.{At}
use Rattle.plan.specs.Plan.{Table, box_depth, children, row}
use Rattle.plan.proofs.Laws.Paths.{child_less, row-child}
use Rattle.rows.specs.Rows.{row_size, extent}
use Rattle.rows.proofs.Laws.Rows.{box_to-length, put_to-length}
use Rattle.joining.specs.Joining.{Memory, memory_of, height, completed, settled_apart, settled, settled_by, settled_at}
use Rattle.links.specs.Links.{link}
use Rattle.walk.specs.Machine.{Chart, wide, deep, top, apt, stretch, with_stretch, stretch_rows, joined_in, closed, OnlyStretch, Closing}
use Rattle.walk.specs.Walked.{Suits}

-- y rows, then n, fit into the scratch
module _ (xs : List ℕ) (y n : ℕ) (fit : row_size * y + row_size * n ≤ length xs) where
  pub stretch-length : length (stretch xs y n) ≡ row_size * n
  stretch-length = let d = length-drop (row_size * y) xs in length-take-le (row_size * n) (drop (row_size * y) xs) (omega arith)

  pub stretch-at : (j k : ℕ) → k < row_size → j < n → extent (stretch xs y n) j k ≡ extent xs (y + j) k
  stretch-at j k l lt =
      let e : row_size * y + (row_size * j + k) ≡ row_size * (y + j) + k = omega arith in
      get_or-take (row_size * n) (drop (row_size * y) xs) (row_size * j + k) 0 (omega arith) ∙ get_or-drop (row_size * y) xs (row_size * j + k) 0 ∙ ap (λ (i : ℕ). get_or xs i 0) e

  module _ (zs : List ℕ) (same : length zs ≡ row_size * n) where
    head : length (take (row_size * y) xs) ≡ row_size * y
    head = length-take-le (row_size * y) xs (omega arith)

    abbrev rest : List ℕ
    rest = drop (row_size * y + row_size * n) xs

    pub put-length : length (with_stretch xs y n zs) ≡ length xs
    put-length =
        let d = length-drop (row_size * y + row_size * n) xs in
        omega (arith, head, length-append (take (row_size * y) xs) (zs ++ rest), length-append zs rest)

    -- the rows above, those of the stretch, and those below it
    pub put-above : (i k : ℕ) → k < row_size → i < y → extent (with_stretch xs y n zs) i k ≡ extent xs i k
    put-above i k l lt =
        let short : row_size * i + k < row_size * y = omega arith in
        get_or-append (take (row_size * y) xs) (zs ++ rest) 0 (row_size * i + k) (omega (arith, head)) ∙ get_or-take (row_size * y) xs (row_size * i + k) 0 short

    pub put-at : (j k : ℕ) → k < row_size → j < n → extent (with_stretch xs y n zs) (y + j) k ≡ extent zs j k
    put-at j k l lt =
        let e : row_size * (y + j) + k ≡ length (take (row_size * y) xs) + (row_size * j + k) = omega (arith, head) in
        ap (λ (i : ℕ). get_or (with_stretch xs y n zs) i 0) e ∙ get_or-append-add (take (row_size * y) xs) (zs ++ rest) (row_size * j + k) 0 ∙ get_or-append zs rest 0 (row_size * j + k) (omega (arith, same))

    pub put-below : (j k : ℕ) → n ≤ j → extent (with_stretch xs y n zs) (y + j) k ≡ extent xs (y + j) k
    put-below j k le =
        let e : row_size * (y + j) + k ≡ length (take (row_size * y) xs) + (length zs + (row_size * (j - n) + k)) = omega (arith, head, same) in
        let e' : row_size * y + row_size * n + (row_size * (j - n) + k) ≡ row_size * (y + j) + k = omega arith in
        ap (λ (i : ℕ). get_or (with_stretch xs y n zs) i 0) e ∙ get_or-append-add (take (row_size * y) xs) (zs ++ rest) (length zs + (row_size * (j - n) + k)) 0 ∙ get_or-append-add zs rest (row_size * (j - n) + k) 0
        ∙ get_or-drop (row_size * y + row_size * n) xs (row_size * (j - n) + k) 0 ∙ ap (λ (i : ℕ). get_or xs i 0) e'

-- nothing stands past the last row
pub row_past : (zs : List ℕ) (n j k : ℕ) → length zs ≡ row_size * n → n ≤ j → extent zs j k ≡ 0
row_past zs n j k e le = get_or-eq_default zs 0 {n = row_size * j + k} (omega arith)

-- joining keeps the number of rows
by_length : (m : Memory) (at f c hs : ℕ) (beyond : Bool) (g : ℕ) → length (settled_by m at f c hs beyond g).rows ≡ length m.rows
by_length m at f c hs true g = put_to-length m.rows at _ _ hs
by_length m at f c hs false g = put_to-length m.rows at _ _ _

at_length : (m : Memory) (at f c hs place apt al : ℕ) → length (settled_at m at f c hs place apt al).rows ≡ length m.rows
at_length m at f c hs zero apt al = put_to-length m.rows at _ _ hs
at_length m at f c hs (suc p) apt al = by_length m at f c hs (ltb apt (suc p)) (settled_apart m at f c hs al)

joined_length : (b : Chart) (level f c : ℕ) (xs ms : List ℕ) → length (joined_in b level f c xs ms).rows ≡ length xs
unfolding settled completed
joined_length b level f c xs ms =
    at_length (completed (memory_of xs ms) (2 * level + 2) c (deep b c) (wide b c)) (2 * level) f c (height ms c (deep b c)) (link b.links c 2) (apt b f) b.allowance ∙ box_to-length xs (2 * level + 2) (wide b c) (deep b c + 1)

-- ---- when c is closed
module _ (b : Chart) (level f c : ℕ) (xs ms : List ℕ) (h : Closing b level f c xs ms) where
  abbrev y : ℕ
  y = top b c

  abbrev n : ℕ
  n = stretch_rows b f c ms

  abbrev zs : List ℕ
  zs = (joined_in b level f c (stretch xs y n) ms).rows

  same : length zs ≡ row_size * n
  same = joined_length b level f c (stretch xs y n) ms ∙ stretch-length xs y n h.fits

  closed-only : OnlyStretch b f c xs ms (closed b level f c (memory_of xs ms)).rows
  unfolding closed
  closed-only =
      record {
        same_length = put-length xs y n h.fits zs same;
        above = λ q k l lt. put-above xs y n h.fits zs same q k l lt;
        below = λ q k l le. let e : y + (q - y) ≡ q = omega arith in rw e at (put-below xs y n h.fits zs same (q - y) k (omega arith));
      }

  pub only-stretch : (ys ns : List ℕ) → memory_of ys ns ≡ closed b level f c (memory_of xs ms) → OnlyStretch b f c xs ms ys
  only-stretch ys ns e = subst (λ (m : Memory). OnlyStretch b f c xs ms m.rows) (sym e) closed-only

-- ---- where it begins: S1
pub stretch-begins : (t : Table) (b : Chart) → Suits t b → (f i c : ℕ) → At (children t f) i c → top b c ≡ row t f + box_depth t f + 1
stretch-begins t b su f i c h = su.top_of c (child_less t su.fit.sound f i c h).1 ∙ row-child t su.fit.sound f i c h

-- The lines of a listing, one after another. Assumes nothing.
use Rattle.std.specs.Prelude.{◌≡◌, true, ◌&&◌, ℤ, pos, ◌-ℤ◌, get_or, set}
use Rattle.std.proofs.Math.Path.{refl, ap}
use Rattle.std.proofs.Common.{◌∙◌}
use mathlib.Core.List.{List, [], ◌∷◌, ◌++◌, map}
use Rattle.std.proofs.Math.Bool.{false}
use Prim.Native.Nat.{ℕ, zero, suc, ◌+◌, ◌*◌, ◌≤◌, ◌<◌}
use native.Mathlib.Omega.{arith}
use Rattle.std.proofs.Math.Dec.{ltb}
use Rattle.std.proofs.Math.ListN.{length, replicate}
use Rattle.std.proofs.lemmas.List.{length-replicate}
use borrow.Author.Tests.{ne_eqb, lt-ltb, le-ltb}
use Rattle.whole.specs.Range.{in_range}
use Rattle.whole.proofs.Laws.Range.{says_within}
use Rattle.whole.proofs.Laws.Says.{is_true}
use Rattle.whole.proofs.Laws.Whole.{whole, diff}
use Rattle.plan.specs.Limits.{most_cells, farthest}
use Rattle.plan.specs.Lists.{from}
use Rattle.plan.specs.Plan.{Is, box_width, box_depth}
use Rattle.plan.proofs.Laws.Columns.{table-length}
use Rattle.plan.specs.Fit.{Fit}
use Rattle.rules.specs.Placement.{Placement, placed}
use Rattle.contours.proofs.Laws.Sheet.{sheet_s1}
use Rattle.least.proofs.Laws.Columns.{sheet-inside}
use Rattle.positions.specs.Written.{corners, written}
use Rattle.positions.proofs.Laws.Written.{written_none, written-put, written_agree}
use Rattle.planfile_spec.specs.Read.{Reading}
use Rattle.listing.specs.Printed.{Bytes, sheet_word, decimal, signed, sheet_line, label_field, cell_line, lines_joined}
use Rattle.printing.specs.Printing.{label_bytes, read_table, ours, first_line, cell_of, text_of, cells_text, Taken}
use Rattle.printing.proofs.Laws.Taken.{passes, count-is, taken_few, fit, text-plan}
use Rattle.drawing_spec.specs.Words.{lines, words, first, others}
use Rattle.drawing_spec.specs.Said.{hash, passed, gives, placed_at, begins, numbered, by_words, line_said, Sketch, empty_sheet, with_cell, goes, step, lowest, moved, complete, said_lines, said}
use Rattle.drawing_spec.specs.Said as said-as
use Rattle.drawing_spec.proofs.Laws.Words.{Each, each-decimal, each_signed, some-digit, some_sign, NoFeed, NoFeeds, inner, lines-line, Solid, solid, words-word, natural-decimal, integer-signed}
use Rattle.drawing_listing.proofs.Laws.Labels.{label-no-feed}

-- ---- the first line
passed_first : (ws : List Bytes) → by_words true (sheet_word ∷ ws) ≡ passed
unfolding by_words said-as.passes begins first
passed_first ws = refl

solid-sheet : Each Solid sheet_word
solid-sheet = (solid 115 (omega arith), (solid 104 (omega arith), (solid 101 (omega arith), (solid 101 (omega arith), (solid 116 (omega arith), omega arith)))))

free_sheet : Each NoFeed sheet_word
free_sheet = (λ e. absurd (omega arith), (λ e. absurd (omega arith), (λ e. absurd (omega arith), (λ e. absurd (omega arith), (λ e. absurd (omega arith), omega arith)))))

free_decimal : (n : ℕ) → Each NoFeed (decimal n)
free_decimal n = each-decimal NoFeed (λ d h e. absurd (omega arith)) n

free_signed : (z : ℤ) → Each NoFeed (signed z)
free_signed z = each_signed NoFeed (λ d h e. absurd (omega arith)) (λ e. absurd (omega arith)) z

solid-decimal : (n : ℕ) → Each Solid (decimal n)
solid-decimal n = each-decimal Solid (λ d h. solid (48 + d) (omega arith)) n

solid-signed : (z : ℤ) → Each Solid (signed z)
solid-signed z = each_signed Solid (λ d h. solid (48 + d) (omega arith)) (solid 45 (omega arith)) z

module _ (n al w h : ℕ) where
  abbrev sheet_fields : List Bytes
  sheet_fields = sheet_word ∷ decimal n ∷ decimal al ∷ decimal w ∷ decimal h ∷ []

  sheet-lines : (r : Bytes) → lines (sheet_line n al w h ++ r) ≡ inner sheet_fields ∷ lines r
  unfolding sheet_line
  sheet-lines r = lines-line sheet_fields r (free_sheet, (free_decimal n, (free_decimal al, (free_decimal w, (free_decimal h, omega arith)))))

  sheet-words : words (inner sheet_fields) ≡ sheet_word ∷ words (inner (decimal n ∷ decimal al ∷ decimal w ∷ decimal h ∷ []))
  unfolding inner
  sheet-words = words-word sheet_word _ (omega arith) solid-sheet

  sheet-said : line_said 1 (inner sheet_fields) ≡ passed
  unfolding line_said
  sheet-said = ap (by_words true) sheet-words ∙ passed_first _

-- ---- a cell's line
-- a first word of digits is not passed over
digits-stay : (w : Bytes) → 1 ≤ length w → Each (λ b. ¬ (b ≡ hash)) w → said-as.passes false w ≡ false
unfolding said-as.passes
digits-stay [] h k = absurd (omega arith)
digits-stay (b ∷ w) h k = rw (ne_eqb (suc (length w)) 0 (λ e. omega arith), ne_eqb b hash k.0)

module _ (c : ℕ) (x y : ℤ) (w d : ℕ) (label : Bytes) where
  abbrev cell_fields : List Bytes
  cell_fields = decimal c ∷ signed x ∷ signed y ∷ decimal w ∷ decimal d ∷ label_field label

  label_fields_free : Each NoFeed label → NoFeeds (label_field label)
  unfolding label_field
  label_fields_free h = go label h
    where
      go : (l : Bytes) → Each NoFeed l → NoFeeds (label_field l)
      go [] k = k
      go (b ∷ l) k = (k, omega arith)

  cell_lines : (r : Bytes) → Each NoFeed label → lines (cell_line c x y w d label ++ r) ≡ inner cell_fields ∷ lines r
  unfolding cell_line
  cell_lines r h = lines-line cell_fields r (free_decimal c, (free_signed x, (free_signed y, (free_decimal w, (free_decimal d, label_fields_free h)))))

  cell-words : words (inner cell_fields) ≡ decimal c ∷ signed x ∷ signed y ∷ words (inner (decimal w ∷ decimal d ∷ label_field label))
  unfolding inner
  cell-words =
      words-word (decimal c) _ (some-digit c) (solid-decimal c)
      ∙ ap (λ (ws : List Bytes). decimal c ∷ ws)
      (words-word (signed x) _ (some_sign x) (solid-signed x)
      ∙ ap (λ (ws : List Bytes). signed x ∷ ws) (words-word (signed y) _ (some_sign y) (solid-signed y)))

  cell-by : (ws : List Bytes) → by_words false (decimal c ∷ signed x ∷ signed y ∷ ws) ≡ gives c x y
  unfolding by_words first others numbered
  cell-by ws =
      rw (digits-stay (decimal c) (some-digit c) (each-decimal (λ b. ¬ (b ≡ hash)) (λ d h e. absurd (omega arith)) c), natural-decimal c, integer-signed x, integer-signed y)

  cell-said : (k : ℕ) → line_said (suc (suc k)) (inner cell_fields) ≡ gives c x y
  unfolding line_said
  cell-said k = rw (ne_eqb (suc (suc k)) 1 (λ e. omega arith)) (ap (by_words false) cell-words ∙ cell-by _)

-- ---- the cells given so far, in order
flags : (k m : ℕ) → List ℕ
flags zero m = replicate m 0
flags (suc k) zero = []
flags (suc k) (suc m) = 1 ∷ flags k m

flags_set : (k m : ℕ) → k < m → set (flags k m) k 1 ≡ flags (suc k) m
unfolding flags
flags_set zero zero h = absurd (omega arith)
flags_set zero (suc m) h = refl
flags_set (suc k) zero h = absurd (omega arith)
flags_set (suc k) (suc m) h = ap (λ (l : List ℕ). 1 ∷ l) (flags_set k m (omega arith))

flags_new : (k m : ℕ) → k < m → get_or (flags k m) k 0 ≡ 0
unfolding flags
flags_new zero zero h = absurd (omega arith)
flags_new zero (suc m) h = refl
flags_new (suc k) zero h = absurd (omega arith)
flags_new (suc k) (suc m) h = flags_new k m (omega arith)

flags_old : (k m c : ℕ) → c < k → k ≤ m → ¬ (get_or (flags k m) c 0 ≡ 0)
unfolding flags
flags_old zero m c h l = absurd (omega arith)
flags_old (suc k) zero c h l = absurd (omega arith)
flags_old (suc k) (suc m) zero h l = λ e. absurd (omega arith)
flags_old (suc k) (suc m) (suc c) h l = flags_old k m c (omega arith) (omega arith)

all_given : (g : List ℕ) (c d : ℕ) → ((j : ℕ) → j < c + d → ¬ (get_or g j 0 ≡ 0)) → lowest g c d ≡ c + d
unfolding lowest
all_given g c zero h = omega arith
all_given g c (suc d) h =
    let e : suc c + d ≡ c + suc d = omega arith in
    rw (ne_eqb (get_or g c 0) 0 (h c (omega arith)), lowest) (all_given g (suc c) d (λ j l. h j (omega arith)) ∙ e)

corners-same : (p q : Placement) (k d : ℕ) → ((c : ℕ) → c < k + d → (p.x c ≡ q.x c) × (p.y c ≡ q.y c)) → corners p k d ≡ corners q k d
unfolding corners
corners-same p q k zero h = refl
corners-same p q k (suc d) h =
    let (a, b) = h k (omega arith) in
    rw (a, b, corners-same p q (suc k) d (λ c l. h c (omega arith)))

less_zero : (z w : ℤ) → w ≡ pos 0 → z -ℤ w ≡ z
less_zero z w e = omega (whole, diff z w)

module _ (p : Reading) (f : Bytes) (h : Taken p f) where
  abbrev n : ℕ
  n = p.columns.count

  long : length (read_table p) ≡ n
  long = let t = p.columns in table-length t.parent t.kind t.width t.depth t.rank t.count

  fits : Fit (read_table p)
  fits = fit p f h

  few : n ≤ most_cells
  few = taken_few p f h

  abbrev q : Placement
  q = ours p

  -- after k cells
  abbrev sketch_at : ℕ → Sketch
  sketch_at k = record { given = flags k most_cells; places = written (replicate (2 * most_cells) (pos 0)) q k }

  is-cell : (c : ℕ) → c < n → Is (read_table p) c
  is-cell c i = omega (arith, long)

  near : (c : ℕ) → c < n → in_range farthest (q.x c) && in_range farthest (q.y c) ≡ true
  near c i =
      let (a, b) = sheet-inside (read_table p) fits p.allowance c (is-cell c i) in
      rw (is_true (says_within farthest (q.x c)) a, is_true (says_within farthest (q.y c)) b)

  sketch-more : (k : ℕ) → k < n → with_cell (sketch_at k) k (q.x k) (q.y k) ≡ sketch_at (suc k)
  unfolding with_cell
  sketch-more k i =
      let e : k + 1 ≡ suc k = omega arith in
      let l : 2 * k + 2 ≤ length (replicate {A = ℤ} (2 * most_cells) (pos 0)) = rw (length-replicate {A = ℤ} (2 * most_cells) (pos 0)) (omega (arith, few)) in
      let w = written-put q (replicate (2 * most_cells) (pos 0)) (written (replicate (2 * most_cells) (pos 0)) q k) k (q.x k) (q.y k) refl refl refl l in
      rw (flags_set k most_cells (omega (arith, few)), w, e)

  stepped : (k c : ℕ) → c < n → step n k (sketch_at c) (gives c (q.x c) (q.y c)) ≡ goes (sketch_at (suc c))
  unfolding step
  stepped k c i = rw (lt-ltb c n i, flags_new c most_cells (omega (arith, few)), near c i, sketch-more c i)

  cell_free : (c : ℕ) → c < n → Each NoFeed (label_bytes f c)
  cell_free c i = label-no-feed f (passes p f h) c (omega (arith, count-is p f h))

  abbrev cells : ℕ → ℕ → Bytes
  cells k d = lines_joined (map (cell_of p f) (from k d))

  cell-goes : (k d : ℕ) → k < n → said_lines n (suc (suc k)) (sketch_at k) (lines (cells k (suc d))) ≡ said_lines n (suc (suc (suc k))) (sketch_at (suc k)) (lines (cells (suc k) d))
  unfolding said_lines lines_joined from cell_of
  cell-goes k d i =
      let l = label_bytes f k in
      let t = read_table p in
      rw (cell_lines k (q.x k) (q.y k) (box_width t k) (box_depth t k) l (cells (suc k) d) (cell_free k i), cell-said k (q.x k) (q.y k) (box_width t k) (box_depth t k) l k, stepped (suc (suc k)) k i, said_lines)

  cells-end : (k : ℕ) → k ≡ n → said_lines n (suc (suc k)) (sketch_at k) (lines (cells k 0)) ≡ complete n (sketch_at n)
  unfolding said_lines lines lines_joined from
  cells-end k z = rw z

  cells-said : (d k : ℕ) → k + d ≡ n → said_lines n (suc (suc k)) (sketch_at k) (lines (cells k d)) ≡ complete n (sketch_at n)
  cells-said zero k e = cells-end k (omega arith)
  cells-said (suc d) k e = cell-goes k d (omega arith) ∙ cells-said d (suc k) (omega arith)

  -- the root's corner is 0 0
  root : (q.x 0 ≡ pos 0) × (q.y 0 ≡ pos 0)
  root = let s = sheet_s1 (read_table p) fits.sound p.allowance in (s.root_x, s.root_y)

  agree : (c : ℕ) → c < n → ((moved (placed (sketch_at n).places)).x c ≡ q.x c) × ((moved (placed (sketch_at n).places)).y c ≡ q.y c)
  unfolding moved
  agree c i =
      let z = replicate {A = ℤ} (2 * most_cells) (pos 0) in
      let (u, v) = rw long at (written_agree q (read_table p) z c (is-cell c i)) in
      let (s, t) = rw long at (written_agree q (read_table p) z 0 (is-cell 0 (omega arith))) in
      (less_zero _ _ (s ∙ root.0) ∙ u, less_zero _ _ (t ∙ root.1) ∙ v)

  completed : complete n (sketch_at n) ≡ placed_at (corners q 0 n)
  unfolding complete
  completed =
      let z : 0 + n ≡ n = omega arith in
      let e : lowest (flags n most_cells) 0 n ≡ n = all_given (flags n most_cells) 0 n (λ j l. flags_old n most_cells j (omega arith) few) ∙ z in
      let l : ltb n n ≡ false = le-ltb n n (omega arith) in
      rw (e, l) (ap placed_at (corners-same _ q 0 n (λ c i. agree c (omega arith))))

  sheet-goes : (r : Bytes) → said_lines n 1 empty_sheet (lines (first_line p ++ r)) ≡ said_lines n 2 empty_sheet (lines r)
  unfolding said_lines first_line step
  sheet-goes r = rw (sheet-lines _ _ _ _ r, sheet-said _ _ _ _, said_lines)

  start : empty_sheet ≡ sketch_at 0
  unfolding empty_sheet flags
  start = rw (← written_none q (replicate (2 * most_cells) (pos 0)))

  pub listing-read : said n (text_of f) ≡ placed_at (corners q 0 n)
  unfolding said cells_text
  listing-read =
      let z : 0 + n ≡ n = omega arith in
      rw (← text-plan p f h) (sheet-goes _ ∙ rw start (cells-said n 0 z ∙ completed))

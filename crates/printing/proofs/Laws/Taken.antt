-- The plan that Read gives of a file: Layout does not refuse it, its labels stand in the file where its records say, a cell's line is short.
-- Nothing that a reader must believe stands here. Assumes nothing.
use Rattle.std.specs.Prelude.{◌≡◌, refl, List, [], ◌∷◌, ◌++◌, map, ℕ, zero, suc, ◌+◌, ◌-◌, ◌*◌, ◌≤◌, ◌<◌, ℤ, pos, negsuc, length, take, drop, leb, Result, Ok, Err, IsErrAnd, ⊤}
use Rattle.std.proofs.Common.{sym, ◌∙◌, append-nil, append_assoc, arith, eq-eqb, ne_eqb, leb→le, length-append, length-take}
use Rattle.std.proofs.Math.Path.{ap}
use Rattle.std.proofs.Math.Decide.{ℕ_discrete}
use Rattle.std.proofs.Math.ListN.{get_or}
use Rattle.std.proofs.lemmas.List.Edits.{sets-eq}
use Rattle.whole.proofs.Laws.Whole.{whole}
use Rattle.whole.specs.Range.{InRange}
use Rattle.plan.specs.Limits.{most_cells, last_row, farthest, scratch_size, listing_size}
use Rattle.plan.specs.Lists.{from}
use Rattle.plan.specs.Plan.{Is, box_width, box_depth, row}
use Rattle.plan.specs.Records.{cells_of}
use Rattle.plan.proofs.Laws.Columns.{table-length}
use Rattle.plan.specs.Fit.{Fit}
use Rattle.plan.specs.Questions.{to_fill, nothing, none, asked, answered, passed, list, list_given, read, layout, refusal, layout_given}
use Rattle.plan.proofs.Laws.Calls.{list-refusal}
use Rattle.plan.proofs.Laws.Answered.{refused_by, answered_some, answers_err, answers_ok, passes as asked-passes}
use Rattle.plan.proofs.Laws.Questions.{both-none, asked_yes}
use Rattle.plan.specs.declared.Refusal.{Refusal}
use Rattle.contours.specs.Sheet.{sheet}
use Rattle.least.proofs.Asked.{layout-asks}
use Rattle.least.proofs.Laws.Columns.{sheet-inside}
use Rattle.layout.specs.Laid.{Drawable}
use Rattle.planfile_spec.specs.declared.PlanFile.{PlanFile}
use Rattle.planfile_spec.specs.Read.{Reading, reading, answer_of}
use Rattle.planfile_spec.proofs.Laws.Answer.{read_plan, read_refused}
use Rattle.planfile_spec.specs.Format.{trailer_of, entry, records_of, file_given}
use Rattle.planfile_spec.specs.Reading.{columns_of, reading_of, label_refusal}
use Rattle.planfile_spec.specs.FileSteps.{header_refusal, body_refusal, file_refusal}
use Rattle.planfile_spec.proofs.Laws.File as Law
use Rattle.planfile_spec.proofs.Laws.Examined.{zero_of, Headed, header_read, column-at, same-table}
use Rattle.planfile_spec.proofs.Laws.Label.{label-read}
use Rattle.planfile_spec.proofs.Laws.ReadThen.{file-label, file-layout, part_of_record}
use Rattle.listing.specs.Printed.{Bytes, decimal, signed, cell_line, refused_line, lines_joined}
use Rattle.listing.proofs.Laws.Printed.{at_most}
use Rattle.listing.specs.Line.{spaced, line_of, text}
use Rattle.listing.proofs.Laws.Line.{spaced-empty, spaced-label, cell_line-is, line-text}
use Rattle.listing.specs.Put.{Put}
use Rattle.listing.specs.declared.Line.{Line}
use Rattle.listing.proofs.Laws.Put.{then, put-none}
use Rattle.printing.specs.Printing.{listed_of, out_after, size, Lists, label_bytes, read_table, ours, first_line, cell_of, listing_of, text_of, cells_text, cell_size, Taken}
use Rattle.printing.proofs.Laws.Printing.{label_short}

-- ---- lengths
spaced-length : (l : Bytes) → length (spaced l) ≤ suc (length l)
spaced-length l = go (ℕ_discrete (length l) 0)
  where
    go : Dec (length l ≡ 0) → length (spaced l) ≤ suc (length l)
    go (yes z) = rw (spaced-empty l z) (omega arith)
    go (no z) = rw (spaced-label l z) (omega arith)

signed-far : (x : ℤ) → InRange farthest x → length (signed x) ≤ 7
unfolding signed
signed-far (pos n) h = let l : n ≤ farthest = omega (whole, h.high) in omega (arith, at_most 5 n (omega arith))
signed-far (negsuc n) h = let l : suc n ≤ farthest = omega (whole, h.low) in omega (arith, at_most 5 (suc n) (omega arith))

signed-row : (n : ℕ) → n ≤ last_row → length (signed (pos n)) ≤ 3
unfolding signed
signed-row n h = at_most 2 n (omega arith)

line_short : (c : ℕ) (x y : ℤ) (w d : ℕ) (l : Bytes) → length (decimal c) ≤ 3 → length (signed x) ≤ 7 → length (signed y) ≤ 3 → length (decimal w) ≤ 4 → length (decimal d) ≤ 2 → length l ≤ 40
    → length (cell_line c x y w d l) ≤ cell_size
line_short c x y w d l hc hx hy hw hd hl = rw (← cell_line-is c x y w d l) (simp length-append (omega (arith, spaced-length l)))

module _ (p : Reading) (f : Bytes) (h : Taken p f) where
  abbrev stop : Refusal
  stop = refusal read (file_given f (to_fill most_cells ∷ []) nothing)

  plan_cases : Dec (stop.number ≡ 0) → (stop.number ≡ 0) × (p ≡ columns_of none (trailer_of f).allowance (trailer_of f).count (entry f))
  unfolding reading_of columns_of
  plan_cases (yes z) = (z, h.is ∙ rw (eq-eqb stop.number 0 z))
  plan_cases (no z) =
      let e : p ≡ columns_of stop 0 0 (entry f) = h.is ∙ rw (ne_eqb stop.number 0 z) in
      absurd (z (ap (λ (x : Reading). x.refusal.number) (sym e) ∙ h.passes))

  told : (stop.number ≡ 0) × (p ≡ columns_of none (trailer_of f).allowance (trailer_of f).count (entry f))
  told = plan_cases (ℕ_discrete stop.number 0)

  pub passes : (file_refusal f).number ≡ 0
  passes = (both-none _ (file_refusal f) (zero_of _ _ (Law.read_refusal f most_cells) told.0)).1

  headed : Headed f
  unfolding file_refusal
  headed = header_read f (both-none (header_refusal f) (body_refusal f) passes).0

  pub count-is : p.columns.count ≡ (trailer_of f).count
  unfolding columns_of
  count-is = ap (λ (x : Reading). x.columns.count) told.1

  pub taken_few : p.columns.count ≤ most_cells
  taken_few = omega (arith, count-is, headed.full.few)

  cells_are : read_table p ≡ cells_of (records_of f)
  cells_are = ap (λ (x : Reading). read_table x) told.1 ∙ same-table f headed

  allowance_is : p.allowance ≡ (trailer_of f).allowance
  unfolding columns_of
  allowance_is = ap (λ (x : Reading). x.allowance) told.1

  -- Layout does not refuse it
  pub taken-layout : (s n : ℕ) → scratch_size ≤ s → 2 * p.columns.count ≤ n → refusal layout (layout_given (read_table p) p.allowance s n) ≡ none
  taken-layout s n a b = rw (cells_are, allowance_is) (file-layout f passes s n a (omega (arith, count-is)))

  pub fit : Fit (read_table p)
  fit = ((layout-asks (read_table p) p.allowance scratch_size (2 * p.columns.count)).0 (taken-layout _ _ (omega arith) (omega arith))).table.fit

  -- so it can be drawn
  pub taken_drawable : (s n : ℕ) → s ≡ scratch_size → 2 * most_cells ≤ n → Drawable (read_table p) s n
  taken_drawable s n e h =
      let t = p.columns in
      record { fit = fit; room = omega (arith, taken_few, table-length t.parent t.kind t.width t.depth t.rank t.count); scratch = e }

  -- ---- its cells
  module _ (c : ℕ) (i : c < p.columns.count) where
    there : c < (trailer_of f).count
    there = omega (arith, count-is)

    start_is : get_or p.label_start c 0 ≡ (entry f c).label_start
    unfolding columns_of
    start_is = ap (λ (x : Reading). get_or x.label_start c 0) told.1 ∙ column-at (λ c. (entry f c).label_start) _ c headed.full.few there

    length-is : get_or p.label_length c 0 ≡ (entry f c).label_length
    unfolding columns_of
    length-is = ap (λ (x : Reading). get_or x.label_length c 0) told.1 ∙ column-at (λ c. (entry f c).label_length) _ c headed.full.few there

    labelled : label_refusal f c ≡ none
    labelled = file-label f passes c there

    -- the label stands where the record says
    pub label_inside : get_or p.label_start c 0 + get_or p.label_length c 0 ≤ length f
    label_inside = rw (start_is, length-is) (label-read f c (ap (λ (r : Refusal). r.number) labelled)).inside_file

    pub label_there : (s e : ℕ) → s ≡ get_or p.label_start c 0 → e ≡ get_or p.label_start c 0 + get_or p.label_length c 0 → take (e - s) (drop s f) ≡ label_bytes f c
    label_there s e u v =
        let a : s ≡ (entry f c).label_start = u ∙ start_is in
        let b : e ≡ (entry f c).label_start + (entry f c).label_length = v ∙ rw (start_is, length-is) in
        rw (part_of_record f c labelled, a, b)

    is-cell : Is (read_table p) c
    is-cell = let t = p.columns in omega (arith, table-length t.parent t.kind t.width t.depth t.rank t.count)

    -- its line
    pub cell_short : length (cell_of p f c) ≤ cell_size
    unfolding cell_of sheet
    cell_short =
        line_short c ((ours p).x c) ((ours p).y c) (box_width (read_table p) c) (box_depth (read_table p) c) (label_bytes f c)
        (at_most 2 c (omega (arith, taken_few)))
        (signed-far ((ours p).x c) (sheet-inside (read_table p) fit p.allowance c is-cell).0)
        (signed-row (row (read_table p) c) (omega (arith, fit.rows_few c is-cell)))
        (at_most 3 (box_width (read_table p) c) (omega (arith, fit.wide c is-cell)))
        (at_most 1 (box_depth (read_table p) c) (omega (arith, fit.deep c is-cell)))
        (label_short f c)

-- ---- texts
joined_last : (g : ℕ → Bytes) (k d : ℕ) → lines_joined (map g (from k (suc d))) ≡ lines_joined (map g (from k d)) ++ g (k + d)
unfolding lines_joined from
joined_last g k zero = let e : k + 0 ≡ k = omega arith in rw e (append-nil (g k))
joined_last g k (suc d) = let e : k + suc d ≡ suc k + d = omega arith in rw e (ap (λ (l : Bytes). g k ++ l) (joined_last g (suc k) d) ∙ sym (append_assoc (g k) (lines_joined (map g (from (suc k) d))) (g (suc k + d))))

pub cells-none : (p : Reading) (f : Bytes) → cells_text p f 0 ≡ []
unfolding cells_text lines_joined from
cells-none p f = refl

pub cells-more : (p : Reading) (f : Bytes) (c : ℕ) → cells_text p f (c + 1) ≡ cells_text p f c ++ cell_of p f c
unfolding cells_text
cells-more p f c =
    let e : c + 1 ≡ suc c = omega arith in
    let z : 0 + c ≡ c = omega arith in
    rw e (rw z at (joined_last (cell_of p f) 0 c))

-- the listing of a plan, and of a refusal
pub text-plan : (p : Reading) (f : Bytes) → Taken p f → first_line p ++ cells_text p f p.columns.count ≡ text_of f
unfolding text_of listing_of lines_joined cells_text
text-plan p f h = let e = h.is in let z = h.passes in rw (← e, eq-eqb p.refusal.number 0 z)

-- ---- for the code
pub line_given : (p : Reading) (f : Bytes) (c : ℕ) → Taken p f → c < p.columns.count → (l : Line) (t : Bytes) → l ≡ line_of t → t ≡ cell_of p f c → (l ≡ line_of (cell_of p f c)) × (l.length ≤ cell_size)
unfolding line_of
line_given p f c h i l t e g = let q : l ≡ line_of (cell_of p f c) = rw g at e in (q, rw q (cell_short p f h c i))

-- the cells' lines, one after the other
pub put-no-cells : (p : Reading) (f : Bytes) (a : List ℕ) (i : ℕ) → Put a i (cells_text p f 0) a i
put-no-cells p f a i = rw (cells-none p f) (put-none a i)

pub put-cell : (p : Reading) (f : Bytes) (c : ℕ) {a b d : List ℕ} {i j k : ℕ} (l : Line) → Put a i (cells_text p f c) b j → l ≡ line_of (cell_of p f c) → l.length ≤ cell_size → Put b j (text l) d k
    → (k ≤ j + cell_size) × Put a i (cells_text p f (c + 1)) d k
unfolding line_of
put-cell p f c l u e h v =
    let t : text l ≡ cell_of p f c = rw e (line-text (cell_of p f c)) in
    let w : l.length ≡ length (cell_of p f c) = rw e in
    let v' = rw t at v in
    (omega (arith, v'.place), rw (cells-more p f c) (then u v'))

pub cells-done : (p : Reading) (f : Bytes) {a b : List ℕ} {i k c n : ℕ} → Put a i (cells_text p f c) b k → c ≤ n → n ≤ c → Put a i (cells_text p f n) b k
cells-done p f {c = c} {n = n} u g h = let e : c ≡ n = omega arith in rw e at u

-- a line that is written ends so far on
pub put_short : {a b : List ℕ} {i k m : ℕ} (l : Line) → Put a i (text l) b k → l.length ≤ m → k ≤ i + m
put_short l u h = omega (arith, u.place, length-take l.length l.bytes)

-- the first line, and the cells'
pub sheet-done : (p : Reading) (f : Bytes) → Taken p f → {a b d : List ℕ} {j k : ℕ} (l : Line) → l ≡ line_of (first_line p) → Put a 0 (text l) b j → Put b j (cells_text p f p.columns.count) d k → Put a 0 (text_of f) d k
sheet-done p f h l e u v =
    let t : text l ≡ first_line p = rw e (line-text (first_line p)) in
    rw (← text-plan p f h) (then (rw t at u) v)

-- what Read answers is a plan, or its refusal
pub taken : (f : Bytes) (p : PlanFile) → Ok p ≡ answer_of (reading_of f most_cells) → Taken (reading p) f
taken f p e = record { is = read_plan f most_cells p e; passes = refl }

-- the line of a refusal
pub refusal-done : (f : Bytes) (r : Refusal) → Err r ≡ answer_of (reading_of f most_cells) → {a b : List ℕ} {k : ℕ} (l : Line) → l ≡ line_of (refused_line r.number r.cell)
    → Put a 0 (text l) b k → Put a 0 (text_of f) b k
unfolding text_of listing_of lines_joined
refusal-done f r h l e u =
    let p = reading_of f most_cells in
    let (q, n) = read_refused f most_cells r h in
    let t : text l ≡ refused_line r.number r.cell = rw e (line-text (refused_line r.number r.cell)) in
    let v = rw t at u in
    let m : ¬ (p.refusal.number ≡ 0) = rw q at n in
    rw (ne_eqb p.refusal.number 0 m, append-nil _) (rw q at v)

-- ---- the call
module _ (f out : Bytes) where
  abbrev why : Refusal
  why = refusal list (list_given (length out))

  put_length : {y : Result ⊤ Refusal} → y ≡ passed (asked 1 (leb listing_size (length out)) 0) → y ≡ passed why
  put_length e = rw (← list-refusal (length out)) at e

  pub listed_short : (e : Refusal) (y : Result ℕ Refusal) → Err e ≡ passed (asked 1 (leb listing_size (length out)) 0) → IsErrAnd y (λ d. d ≡ e) → Lists f out out y
  unfolding listed_of out_after size
  listed_short e y h p =
      let g : y ≡ answered why _ = answers_err _ why e y (put_length h) p in
      let k : y ≡ Err why = g ∙ answered_some why _ (refused_by why tt e (put_length h)).1 in
      record { answers = g; bytes = rw k; suffices = rw k (omega arith) }

  module _ (u : ⊤) (h : Ok u ≡ passed (asked 1 (leb listing_size (length out)) 0)) where
    pub long-enough : listing_size ≤ length out
    long-enough = leb→le listing_size (length out) (asked_yes 0 _ 0 (asked-passes _ u h))

    pub listed-text : (out' : Bytes) (n : ℕ) → Put out 0 (text_of f) out' n → n ≤ listing_size → Lists f out out' (Ok n)
    unfolding listed_of out_after size
    listed-text out' n w g =
        let z : 0 + length (text_of f) ≡ length (text_of f) = omega arith in
        let e : n ≡ length (text_of f) = w.place ∙ z in
        record {
          answers = ap Ok e ∙ answers_ok why u (put_length h) _;
          bytes = w.bytes ∙ sets-eq (text_of f) out 0 (omega (arith, long-enough)) ∙ ap (λ k. text_of f ++ drop k out) (z ∙ sym e);
          suffices = g;
        }

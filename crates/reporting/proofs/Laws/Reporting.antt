-- From the questions to the report: for the code. Nothing that a reader must believe stands here. Assumes nothing.
use Rattle.std.specs.Prelude.{◌≡◌, List, [], ◌∷◌, ◌++◌, ◌&&◌, ℕ, ◌+◌, ◌*◌, ◌≤◌, leb, ℤ, length, take, drop, Result, Ok, Err, IsErrAnd}
use Rattle.std.proofs.Math.Path.{refl, sym, ap}
use Rattle.std.proofs.Common.{◌∙◌, zero-le, arith, leb→le}
use Rattle.whole.specs.Whole.{plus}
use Rattle.plan.specs.Limits.{between, most_cells, most_width, most_allowance, last_row, scratch_size, first_letter, last_letter}
use Rattle.plan.specs.Lists.{from, some, mem}
use Rattle.plan.proofs.Laws.Lists.{peak-one}
use Rattle.plan.specs.Plan.{Table, box_width, box_depth, row, subtree, dictated_bottom}
use Rattle.plan.proofs.Laws.Plan.{subtree-read}
use Rattle.plan.proofs.Laws.Sums.{total-subtree}
use Rattle.plan.specs.Columns.{table_of}
use Rattle.plan.specs.Fit.{Fit}
use Rattle.plan.specs.Questions as calls
use Rattle.plan.specs.Questions.{Buffer, Given, to_fill, scratch, nothing, asked, or_else, every, parent_lower, kind_known, box_sized, label_inside, label_fits, children_allowed, level_low, rows_few, allowance_small, once, each, sequence, puts, put, with_each, kept, number, roomy, all_roomy, enough, in_file, on_labels, holds, ask, ask_all, take_step, take_steps, read, refusal, answered}
use Rattle.plan.proofs.Laws.Questions.{first-none, both-none, asked_yes}
use Rattle.plan.proofs.Laws.Answered.{answered_none, answered_some, refused_by, not_refused, answers_err}
use Rattle.plan.proofs.Laws.Kept.{asked_last, asked_true, and_true, none_first, or_assoc, refusal-kept, turn_ends, turn_once}
use Rattle.plan.proofs.Laws.Steps.{and_left, and_right}
use Rattle.plan.specs.declared.Refusal.{Refusal}
use Rattle.rules.specs.Placement.{width, rows}
use Rattle.contours.specs.Sheet.{sheet}
use Rattle.least.proofs.Asked.{layout-asks}
use Rattle.least.proofs.Laws.Bounds.{contour-room}
use Rattle.least.proofs.Laws.Measures.{sheet-width, sheet_rows}
use Rattle.positions.specs.Written.{written}
use Rattle.layout.specs.Laid.{Drawable, Drawn}
use Rattle.plan.specs.declared.Measures.{Measures}
use Rattle.planfile_spec.specs.Read.{answer_of}
use Rattle.planfile_spec.specs.declared.PlanFile.{PlanFile}
use Rattle.planfile_spec.specs.Format.{trailer_of, file_given}
use Rattle.planfile_spec.specs.Reading.{columns_of, reading_of}
use Rattle.planfile_spec.specs.FileSteps.{formed_refusal, header_refusal, body_refusal, file_refusal}
use Rattle.planfile_spec.proofs.Laws.File as Law
use Rattle.planfile_spec.proofs.Laws.File.{cells-length, turn_body}
use Rattle.planfile_spec.proofs.Laws.Examined.{zero_of, Headed, formed_read, same-table}
use Rattle.planfile_spec.proofs.Laws.Answer.{read_answer, err_passes}
use Rattle.planfile_spec.proofs.Laws.ReadThen.{file-layout}
use Rattle.season.specs.Report.{width_each, rows_each, report}
use Rattle.season.specs.declared.Report.{Report}
use Rattle.reporting.specs.Reporting.{file_table, own_sheet, figure_of, report_given, report_refusal, scratch_left, positions_left, file_plan, draft_of, report_of, Drafts}
use Rattle.reporting.specs.declared.Draft.{Draft}

-- ---- a sheet is at most 262,143 wide, and has at most 256 rows
pub sheet_bounds : (t : Table) → Fit t → (al : ℕ) → (plus (width t (sheet t al)) ≤ width_each) × (plus (rows t (sheet t al)) ≤ rows_each)
unfolding dictated_bottom
sheet_bounds t fit al =
    let w = ap plus (sheet-width t fit.sound al fit.some_cell) in
    let h = ap plus (sheet_rows t fit.sound al fit.some_cell) in
    let r = contour-room t fit.sound al 0 fit.some_cell in
    let n = total-subtree t (λ a. box_width t a + 1) 0 (most_width + 1) (λ a j. omega (arith, fit.wide a j)) in
    let d = peak-one (λ a. row t a + box_depth t a) (λ m. m ≤ last_row) (subtree t 0) zero-le (λ a m. fit.rows_few a (subtree-read t 0 a m).0) in
    (omega (arith, w, fit.not_too_many), omega (arith, h))

-- ---- the questions, as the code puts them
module _ (f : List ℕ) (room s p : ℕ) where
  abbrev bs : List Buffer
  bs = to_fill room ∷ scratch s ∷ []

  abbrev g : Given
  g = report_given f room s p

  abbrev g₀ : Given
  g₀ = file_given f bs nothing

  abbrev n : ℕ
  n = (trailer_of f).count

  -- 6 to 14 do not look at the positions
  body_same : take_steps g (each (parent_lower ∷ kind_known ∷ box_sized ∷ label_inside ∷ label_fits ∷ []) ∷ each (children_allowed ∷ []) ∷ each (level_low ∷ []) ∷ each (rows_few ∷ []) ∷ once allowance_small ∷ [])
      ≡ take_steps g₀ (each (parent_lower ∷ kind_known ∷ box_sized ∷ label_inside ∷ label_fits ∷ []) ∷ each (children_allowed ∷ []) ∷ each (level_low ∷ []) ∷ each (rows_few ∷ []) ∷ once allowance_small ∷ [])
  unfolding take_steps take_step ask_all ask holds report_given
  body_same = refl

  abbrev long : Refusal
  long = asked 1 (leb most_cells room && leb scratch_size s) 0

  abbrev placed : Refusal
  placed = asked 1 (leb (2 * n) p) 0

  abbrev letters : Refusal
  letters = asked 5 (every (between first_letter last_letter) (take (trailer_of f).begin f)) 0

  pub refusal_is : report_refusal f room s p ≡ or_else long (or_else (formed_refusal f) (or_else placed (or_else letters (body_refusal f))))
  unfolding kept put with_each sequence number puts mem some from ask holds roomy all_roomy enough in_file on_labels file_given report_given formed_refusal body_refusal
  refusal_is =
      refusal-kept calls.report g
      ∙ simp (turn_once g, body_same, turn_body f bs nothing, turn_once g₀, turn_ends g₀, cells-length f, and_true, or_assoc, asked_last 13 (leb (trailer_of f).allowance most_allowance) 0)

  abbrev stop : Refusal
  stop = report_refusal f room s p

  -- 2 to 4 passed: Read's refusal is that of 5 to 14
  read-rest : (formed_refusal f).number ≡ 0 → refusal read (file_given f (to_fill most_cells ∷ []) nothing) ≡ or_else letters (body_refusal f)
  unfolding file_refusal header_refusal
  read-rest z =
      Law.read_refusal f most_cells ∙ ap (λ (x : Refusal). or_else x (file_refusal f)) (asked_true 0 0) ∙ none_first (file_refusal f)
      ∙ or_assoc (formed_refusal f) letters (body_refusal f) ∙ first-none (formed_refusal f) _ z

  pub goes_to_read : (formed_refusal f).number ≡ 0 → answer_of (reading_of f most_cells) ≡ answered (or_else letters (body_refusal f)) (file_plan f)
  unfolding file_plan
  goes_to_read z = read_answer f most_cells ∙ ap (λ (r : Refusal). answered r (file_plan f)) (read-rest z)

  -- ---- no question refuses the file
  module _ (z : stop.number ≡ 0) where
    parts : (long.number ≡ 0) × ((formed_refusal f).number ≡ 0) × (placed.number ≡ 0) × ((or_else letters (body_refusal f)).number ≡ 0)
    parts =
        let (a, x) = both-none long _ (zero_of _ _ refusal_is z) in
        let (b, y) = both-none (formed_refusal f) _ x in
        let (c, d) = both-none placed _ y in
        (a, b, c, d)

    pub room_enough : most_cells ≤ room
    room_enough = leb→le most_cells room (and_left (leb most_cells room) _ (asked_yes 0 _ 0 parts.0))

    pub scratch-enough : scratch_size ≤ s
    scratch-enough = leb→le scratch_size s (and_right (leb most_cells room) _ (asked_yes 0 _ 0 parts.0))

    pub positions_enough : 2 * n ≤ p
    positions_enough = leb→le (2 * n) p (asked_yes 0 _ 0 parts.2)

    headed : Headed f
    headed = formed_read f parts.1

    pub count_few : n ≤ most_cells
    count_few = headed.full.few

    file-passes : (file_refusal f).number ≡ 0
    unfolding file_refusal header_refusal
    file-passes = ap (λ (x : Refusal). x.number) (or_assoc (formed_refusal f) letters (body_refusal f) ∙ first-none (formed_refusal f) _ parts.1) ∙ parts.3

    pub fit : Fit (file_table f)
    fit = ((layout-asks (file_table f) (trailer_of f).allowance s p).0 (file-layout f file-passes s p scratch-enough positions_enough)).table.fit

    -- ---- for the code: the plan that was taken
    module _ (q : PlanFile) (e : q ≡ file_plan f) where
      table_is : table_of q.cells.columns ≡ file_table f
      unfolding file_plan
      table_is = ap (λ (x : PlanFile). table_of x.cells.columns) e ∙ same-table f headed

      count-is : q.cells.columns.count ≡ n
      unfolding file_plan columns_of
      count-is = ap (λ (x : PlanFile). x.cells.columns.count) e

      allowance_is : q.allowance ≡ (trailer_of f).allowance
      unfolding file_plan columns_of
      allowance_is = ap (λ (x : PlanFile). x.allowance) e

      pub plan_few : q.cells.columns.count ≤ most_cells
      plan_few = omega (arith, count-is, count_few)

      pub drawable : (k : ℕ) → k ≡ scratch_size → Drawable (table_of q.cells.columns) k p
      drawable k h = rw table_is (record { fit = fit; room = omega (arith, cells-length f, positions_enough); scratch = h })

      module _ (s' : List ℕ) (ps ps' : List ℤ) (m : Measures) (d : Drawn (table_of q.cells.columns) q.allowance s' ps ps' m) where
        given : Drawn (file_table f) (trailer_of f).allowance s' ps ps' m
        given = rw (table_is, allowance_is) at d

        pub measures_small : (m.width ≤ width_each) × (m.rows ≤ rows_each)
        measures_small = rw given.answers (sheet_bounds (file_table f) fit (trailer_of f).allowance)

        pub figures_are : (r : Report) → r ≡ report (record { cells = q.cells.columns.count; width = m.width; rows = m.rows } ∷ []) → r ≡ report (figure_of f ∷ [])
        unfolding figure_of
        figures_are r h = h ∙ rw (count-is, given.answers)

-- ---- the call
module _ (f : List ℕ) (room : ℕ) (s : List ℕ) (ps : List ℤ) where
  abbrev stopped : Refusal
  stopped = report_refusal f room (length s) (length ps)

  pub refused : (e : Refusal) (y : Result Draft Refusal) → Err e ≡ answered stopped (file_plan f) → IsErrAnd y (λ d. d ≡ e) → Drafts f room s s ps ps y
  unfolding report_of scratch_left positions_left
  refused e y h p =
      let g = refused_by stopped (file_plan f) e h in
      let a = answers_err (draft_of f) stopped e y (err_passes stopped (file_plan f) e h) p in
      let q = a ∙ answered_some stopped (draft_of f) g.1 in
      record { answers = a; scratch = rw q; positions = rw q }

  module _ (q : PlanFile) (h : Ok q ≡ answered stopped (file_plan f)) where
    pub unrefused : (stopped.number ≡ 0) × (q ≡ file_plan f)
    unrefused = let z = not_refused stopped (file_plan f) q h in (z, cc (h ∙ answered_none stopped (file_plan f) z))

    pub reported : (s' : List ℕ) (ps' : List ℤ) (m : Measures) (d : Drawn (table_of q.cells.columns) q.allowance s' ps ps' m) (r : Report)
        → r ≡ report (record { cells = q.cells.columns.count; width = m.width; rows = m.rows } ∷ [])
        → Drafts f room s (s' ++ drop scratch_size s) ps ps' (Ok (record { plan = q; report = r }))
    unfolding draft_of report_of scratch_left positions_left
    reported s' ps' m d r k =
        let (z, e) = unrefused in
        let g = given f room (length s) (length ps) z q e s' ps ps' m d in
        record {
          answers = rw (figures_are f room (length s) (length ps) z q e s' ps ps' m d r k, e) (sym (answered_none stopped (draft_of f) z));
          scratch = rw g.scratch;
          positions = g.positions ∙ ap (λ i. written ps (own_sheet f) i) (cells-length f);
        }

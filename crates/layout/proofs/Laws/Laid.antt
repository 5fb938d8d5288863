-- From the questions to the answer: for the code of Layout. Nothing that a reader must believe stands here. Assumes nothing.
use Rattle.std.specs.Prelude.{◌≡◌, List, ◌++◌, ℕ, ◌+◌, ◌*◌, length, drop, replicate, ℤ, Bool, true, false, T, leb, Result, Ok, Err, IsErrAnd, ⊤}
use Rattle.std.proofs.Math.Path.{refl, ap}
use Rattle.std.proofs.Common.{sym, ◌∙◌, arith}
use Rattle.std.proofs.lemmas.List.{length-replicate}
use Rattle.std.proofs.Math.IntN.{pos}
use Rattle.whole.specs.Whole.{plus}
use Rattle.plan.specs.Limits.{scratch_size, most_allowance, most_cells}
use Rattle.plan.specs.Plan.{Table, Is, row, dictated_bottom}
use Rattle.plan.specs.Columns.{table_of}
use Rattle.plan.proofs.Laws.Columns.{table-length, parent-at, depth_at}
use Rattle.plan.specs.declared.Columns.{Columns}
use Rattle.plan.specs.Trees.{Lower, Flat, Column}
use Rattle.plan.specs.Fit.{Fit}
use Rattle.plan.specs.Questions.{layout, refusal, layout_given, none, asked, or_else, answered, passed}
use Rattle.plan.proofs.Laws.Answered.{refused_by, not_refused, answered_none, answered_some, answers_err, answers_ok, passes}
use Rattle.plan.proofs.Laws.Questions.{first-none, both-none, asked_yes}
use Rattle.plan.specs.Steps.{lent_refusal}
use Rattle.plan.proofs.Laws.Calls.{layout-refusal}
use Rattle.plan.specs.declared.Refusal.{Refusal}
use Rattle.rules.specs.Placement as placement
use Rattle.rules.specs.Placement.{Placement, width}
use Rattle.contours.specs.Sheet.{sheet}
use Rattle.least.proofs.Laws.Measures.{sheet-width, sheet_rows}
use Rattle.least.proofs.Asked.{layout-asks}
use Rattle.least.specs.Demanded.{LayoutAsked}
use Rattle.links.proofs.Laws.Linked.{zeros_get}
use Rattle.marks.specs.Marks.{Markable}
use Rattle.positions.specs.Written.{written}
use Rattle.positions.specs.Raised.{Raised, High, Topped}
use Rattle.plan.specs.declared.Measures.{Measures}
use Rattle.layout.specs.Laid.{laid_of, positions_after, scratch_after, Lays, Drawn}

-- ---- the columns of a table that no question refuses
module _ (t : Columns) (fit : Fit (table_of t)) where
  pub size : length (table_of t) ≡ t.count
  size = table-length t.parent t.kind t.width t.depth t.rank t.count

  pub fit_lower : Lower t.parent t.count
  fit_lower = record {
    some = omega (arith, size, fit.some_cell);
    few = omega (arith, size, fit.not_too_many);
    lower = λ c p l.
        let i : Is (table_of t) c = omega (arith, size) in
        omega (arith, fit.sound c p i, parent-at t.parent t.kind t.width t.depth t.rank t.count c l);
  }

  pub fit_flat : Flat t.depth t.count
  fit_flat = record {
    flat = λ c l.
        let i : Is (table_of t) c = omega (arith, size) in
        omega (arith, (fit.deep c i).1, depth_at t.parent t.kind t.width t.depth t.rank t.count c l);
  }

  pub high : (xs : List ℕ) (x : ℕ → ℤ) → Raised xs t.count x → High xs t.count
  high xs x r = record { few = fit_lower.few; high = r.high }

  module _ (tops : List ℕ) (rows : Column tops t.count (row (table_of t))) where
    -- a cleared scratch and marks of zeros
    pub markable : (s : List ℕ) → s ≡ replicate scratch_size 0 → Markable t tops s (replicate (4 * most_cells) 0)
    markable s e = record {
      fit = fit;
      top_of = λ c i. rows.each c (omega (arith, size));
      scratch = rw (e, length-replicate {A = ℕ} scratch_size 0) (omega arith);
      clear = λ i. rw e (zeros_get scratch_size i);
      blank = zeros_get (4 * most_cells);
    }

    topped : (al : ℕ) → Topped tops t.count (sheet (table_of t) al).y
    unfolding sheet
    topped al = record { each = λ c l. ap pos (rows.each c l) }

    -- what is written and measured is our sheet
    pub drawn : (al : ℕ) (xs : List ℕ) → Raised xs t.count (sheet (table_of t) al).x
        → (s' : List ℕ) → s' ≡ replicate scratch_size 0
        → (ps ps' : List ℤ) → ((p : Placement) → Raised xs t.count p.x → Topped tops t.count p.y → ps' ≡ written ps p t.count)
        → (w h : ℕ) → pos w ≡ width (table_of t) (sheet (table_of t) al) → h ≡ dictated_bottom (table_of t) 0 + 1
        → Drawn (table_of t) al s' ps ps' (record { width = w; rows = h })
    drawn al xs r s' z ps ps' put w h e f = record {
      answers = cc (ap plus e, f ∙ ap plus (sym (sheet_rows (table_of t) fit.sound al fit.some_cell)));
      positions = rw size (put (sheet (table_of t) al) r (topped al));
      scratch = z;
    }

asked-none : (k : ℕ) (y : Bool) (c : ℕ) → T y → asked k y c ≡ none
unfolding asked
asked-none k true c h = refl
asked-none k false c h = absurd h

-- a refusal whose number is 0 is none
pub nothing : (t : Table) (al s p : ℕ) → (refusal layout (layout_given t al s p)).number ≡ 0 → refusal layout (layout_given t al s p) ≡ none
nothing t al s p h =
    let e = layout-refusal t al s p in
    let first = asked 1 (leb scratch_size s) 0 in
    let last = asked 14 (leb al most_allowance) 0 in
    let (a, r) = both-none first (or_else (lent_refusal t p) last) (ap (λ (x : Refusal). x.number) (sym e) ∙ h) in
    let (b, c) = both-none (lent_refusal t p) last r in
    e ∙ first-none first _ a ∙ first-none (lent_refusal t p) last b ∙ asked-none 14 _ 0 (asked_yes 13 _ 0 c)

-- ---- the entry: the questions, whose refusal is r, then the drawing
module _ (t : Table) (al : ℕ) (s : List ℕ) (ps : List ℤ) where
  abbrev pub why : Refusal
  why = refusal layout (layout_given t al (length s) (length ps))

  pub refused : (e : Refusal) (y : Result Measures Refusal) → Err e ≡ passed why → IsErrAnd y (λ d. d ≡ e) → Lays t al s s ps ps y
  unfolding laid_of positions_after scratch_after
  refused e y h p =
      let q = refused_by why tt e h in
      let g : y ≡ answered why _ = answers_err _ why e y h p in
      let f : y ≡ Err why = g ∙ answered_some why _ q.1 in
      record { answers = g; positions = rw f; scratch = rw f }

  module _ (u : ⊤) (h : Ok u ≡ passed why) where
    pub asks : LayoutAsked t al (length s) (length ps)
    asks = (layout-asks t al (length s) (length ps)).0 (nothing t al (length s) (length ps) (passes why u h))

    pub laid : (s' : List ℕ) (ps' : List ℤ) (a : Measures) → Drawn t al s' ps ps' a → Lays t al s (s' ++ drop scratch_size s) ps ps' (Ok a)
    unfolding laid_of positions_after scratch_after
    laid s' ps' a d = record {
      answers = ap Ok d.answers ∙ answers_ok why u h _;
      positions = d.positions;
      scratch = rw d.scratch;
    }

-- ---- an answer that is a sheet: nothing was refused, and its numbers are our sheet's
accepted : (t : Table) (al : ℕ) (m : Measures) (r : Refusal) → Ok m ≡ laid_of t al r
    → (r.number ≡ 0) × (m ≡ record { width = plus (width t (sheet t al)); rows = plus (placement.rows t (sheet t al)) })
unfolding laid_of
accepted t al m r e =
    let z = not_refused r _ m e in
    let f = e ∙ answered_none r _ z in
    (z, cc)

module _ (t : Table) (al : ℕ) (s s' : List ℕ) (ps ps' : List ℤ) (m : Measures) (l : Lays t al s s' ps ps' (Ok m)) where
  pub unrefused : refusal layout (layout_given t al (length s) (length ps)) ≡ none
  unrefused = nothing t al (length s) (length ps) (accepted t al m _ l.answers).0

  pub sheet-asks : LayoutAsked t al (length s) (length ps)
  sheet-asks = (layout-asks t al (length s) (length ps)).0 unrefused

  fits : Fit t
  fits = sheet-asks.table.fit

  pub sheet-wide : pos m.width ≡ width t (sheet t al)
  sheet-wide =
      let f = (accepted t al m _ l.answers).1 in
      let g = sheet-width t fits.sound al fits.some_cell in
      ap (λ (x : Measures). pos x.width) f ∙ ap (λ (z : ℤ). pos (plus z)) g ∙ sym g

  pub sheet-deep : pos m.rows ≡ placement.rows t (sheet t al)
  sheet-deep =
      let f = (accepted t al m _ l.answers).1 in
      let g = sheet_rows t fits.sound al fits.some_cell in
      ap (λ (x : Measures). pos x.rows) f ∙ ap (λ (z : ℤ). pos (plus z)) g ∙ sym g

-- From what is drawn and found to what is printed. Assumes nothing.
use Rattle.std.specs.Prelude.{◌≡◌, true, Option, Some, IsSome, Err, ℕ, ◌+◌, ◌*◌, ◌^◌, ◌≤◌, ◌<◌, length, ℤ, pos, ◌+ℤ◌}
use Rattle.std.proofs.Math.Path.{refl}
use Rattle.std.proofs.Common.{sym, ap, ◌∙◌, subst}
use mathlib.Core.List.{List, [], ◌∷◌, ◌++◌, append-nil, append_assoc}
use native.Mathlib.Omega.{arith}
use borrow.Author.Tests.{eq-eqb, ne_eqb}
use Rattle.std.proofs.Math.ListN.{get_or}
use Rattle.whole.specs.Whole.{plus}
use Rattle.whole.specs.Bias.{bias}
use Rattle.whole.specs.Range.{InRange}
use Rattle.whole.proofs.Laws.Whole.{whole, sum, narrow}
use Rattle.plan.specs.Limits.{most_cells, most_allowance, farthest, scratch_size}
use Rattle.plan.specs.Plan.{Is, box_width}
use Rattle.plan.specs.Fit.{Fit}
use Rattle.plan.specs.Near.{Near}
use Rattle.plan.specs.Columns.{table_of}
use Rattle.plan.specs.Trees.{Column}
use Rattle.plan.specs.declared.Columns.{Columns}
use Rattle.plan.proofs.Laws.Columns.{width-at}
use Rattle.plan.proofs.Laws.Tables.{length-is}
use Rattle.plan.specs.Questions.{check, none, refusal, check_given}
use Rattle.rules.specs.Placement.{placed, Agree, width}
use Rattle.rules.specs.Rules.{S1}
use Rattle.contours.specs.Sheet.{sheet}
use Rattle.least.proofs.Theorems.{sheet-accepted}
use Rattle.layout.specs.Laid.{Drawn}
use Rattle.plan.specs.declared.Measures.{Measures}
use Rattle.planfile_spec.specs.Read.{Reading, answer_of}
use Rattle.planfile_spec.proofs.Laws.Answer.{read_refused}
use Rattle.plan.specs.declared.Refusal.{Refusal}
use Rattle.planfile_spec.specs.Reading.{reading_of}
use Rattle.listing.specs.Printed.{Bytes, refused_line, lines_joined}
use Rattle.listing.specs.Put.{Put}
use Rattle.listing.proofs.Laws.Line.{joined-append}
use Rattle.listing.proofs.Laws.Put.{then}
use Rattle.printing.specs.Printing.{read_table, ours, Taken}
use Rattle.printing.proofs.Laws.Printing.{drawn_placed, drawn_measured}
use Rattle.printing.proofs.Laws.Taken.{taken_few, taken-layout}
use Rattle.why_spec.specs.Links.{Link, adds_up}
use Rattle.why_search.specs.Stops.{steps}
use Rattle.why_search.specs.Explains.{told, Explained}
use Rattle.why_search.specs.declared.Chain.{Chain}
use Rattle.why_lines.specs.Printed.{head_line, last_line, link_lines, reason_lines}
use Rattle.why_lines.specs.Steps.{x_of, steps_text, end_line, Few}
use Rattle.why.proofs.Laws.Ours as found
use Rattle.why_text.specs.Text.{sheet_reason, why_lines, why_text, Reasoned}
use Rattle.why_text.proofs.Laws.Chain as chain

module _ (t : Columns) (al w : ℕ) (ps : List ℤ) (count : ℕ) (cells rules : List ℕ) (g : Reasoned t al w ps count cells rules) where
  few_cells : length (table_of t) ≤ most_cells
  few_cells = g.fit.not_too_many

  pub few : Few cells count
  few = record { links = omega (arith, g.chained.short, few_cells); each = λ j h. omega (arith, g.chained.inside j h, few_cells) }

  pub last_is : get_or cells count 0 < t.count
  last_is = omega (arith, g.chained.inside count (omega arith), length-is t)

  width_is : get_or t.width (get_or cells count 0) 0 ≡ box_width (table_of t) (get_or cells count 0)
  width_is = sym (width-at t.parent t.kind t.width t.depth t.rank t.count (get_or cells count 0) last_is)

  module _ (xs : List ℕ) (col : Column xs t.count (λ c. bias farthest (get_or ps (2 * c + 0) (pos 0)))) where
    up : (a : ℕ) → Is (table_of t) a → chain.Raised ((placed ps).x a) (get_or xs a 0)
    unfolding placed
    up a i =
        let j : a < t.count = omega (arith, length-is t) in
        let e : 2 * a + 0 ≡ 2 * a = omega arith in
        let x = get_or ps (2 * a) (pos 0) in
        let q : get_or xs a 0 ≡ bias farthest x = rw e at (col.each a j) in
        let r = g.near.x a j in
        moved x (get_or xs a 0) q r
      where
        moved : (x : ℤ) (n : ℕ) → n ≡ bias farthest x → InRange farthest x → chain.Raised x n
        moved x n q r = omega (whole, q, r.low, r.high, narrow x, sum x (pos farthest))

    pub x_small : (v : ℕ) → v ≡ get_or t.width (get_or cells count 0) 0 → x_of cells xs count + v < 2 ^ 32
    unfolding placed
    x_small v e =
        let i = g.chained.inside count (omega arith) in
        let q = up (get_or cells count 0) i in
        let r = g.near.x (get_or cells count 0) last_is in
        omega (whole, q, r.high, sum ((placed ps).x (get_or cells count 0)) (pos farthest), e, width_is, g.fit.wide (get_or cells count 0) i)

    abbrev links : List Link
    links = steps (table_of t) al (placed ps) (λ j. get_or cells j 0) 0 count

    abbrev head : Bytes
    head = head_line t.count al w count

    told_lines : sheet_reason (table_of t) al ≡ reason_lines (table_of t) al (sheet (table_of t) al) (told (table_of t) al (placed ps) count cells)
    unfolding sheet_reason
    told_lines = rw g.is

    abbrev end : Bytes
    end = last_line (get_or cells count 0) (box_width (table_of t) (get_or cells count 0)) (adds_up links +ℤ pos (box_width (table_of t) (get_or cells count 0)))

    opened : lines_joined (reason_lines (table_of t) al (sheet (table_of t) al) (told (table_of t) al (placed ps) count cells))
        ≡ head_line (length (table_of t)) al (plus (width (table_of t) (sheet (table_of t) al))) (length links) ++ lines_joined (link_lines (pos 0) links ++ (end ∷ []))
    unfolding reason_lines lines_joined
    opened = refl

    heads : head_line (length (table_of t)) al (plus (width (table_of t) (sheet (table_of t) al))) (length links) ≡ head
    heads = rw (length-is t, ← g.wide, chain.count-is (table_of t) al (placed ps) count cells rules xs g.chained up 0 count)

    last_one : lines_joined (end ∷ []) ≡ end_line cells xs count (box_width (table_of t) (get_or cells count 0))
    last_one = alone ∙ chain.end_is (table_of t) al (placed ps) count cells rules xs g.chained up
      where
        alone : lines_joined (end ∷ []) ≡ end
        alone = unfold lines_joined in append-nil end

    tails : lines_joined (link_lines (pos 0) links ++ (end ∷ [])) ≡ steps_text cells rules xs count ++ end_line cells xs count (box_width (table_of t) (get_or cells count 0))
    tails =
        joined-append (link_lines (pos 0) links) (end ∷ [])
        ∙ ap (λ (r : Bytes). r ++ lines_joined (end ∷ [])) (chain.lines_are (table_of t) al (placed ps) count cells rules xs g.chained up)
        ∙ ap (λ (r : Bytes). steps_text cells rules xs count ++ r) last_one

    printed : head ++ steps_text cells rules xs count ++ end_line cells xs count (box_width (table_of t) (get_or cells count 0)) ≡ lines_joined (sheet_reason (table_of t) al)
    printed =
        append_assoc head (steps_text cells rules xs count) _
        ∙ sym (ap lines_joined told_lines ∙ opened ∙ ap (λ (r : Bytes). r ++ lines_joined (link_lines (pos 0) links ++ (end ∷ []))) heads ∙ ap (λ (r : Bytes). head ++ r) tails)

    pub all-put : {a b c d : List ℕ} {j k n : ℕ} (v : ℕ) → v ≡ get_or t.width (get_or cells count 0) 0 → Put a 0 head b j → Put b j (steps_text cells rules xs count) c k
        → Put c k (end_line cells xs count v) d n → Put a 0 (lines_joined (sheet_reason (table_of t) al)) d n
    all-put v e p q r = rw (← printed) (then (then p q) (rw (e ∙ width_is) at r))

-- ---- the plan that Read gives of a file
module _ (p : Reading) (f : Bytes) (h : Taken p f) {s' : List ℕ} {ps ps' : List ℤ} {r : Measures} (d : Drawn (read_table p) p.allowance s' ps ps' r) (room : 2 * most_cells ≤ length ps') where
  same : Agree (read_table p) (placed ps') (ours p)
  same = (drawn_placed p (taken_few p f h) d room).agree

  unrefused : refusal check (check_given (read_table p) p.allowance ps') ≡ none
  unrefused = (sheet-accepted (read_table p) p.allowance scratch_size ps' (taken-layout p f h scratch_size (length ps') (omega arith) (omega (arith, taken_few p f h))) same).0

  pub plan-asked : Fit (read_table p) × Near ps' p.columns.count × (p.allowance ≤ most_allowance) × S1 (read_table p) (placed ps')
  plan-asked = (
    found.fit (read_table p) p.allowance ps' unrefused,
    subst (λ (n : ℕ). Near ps' n) (length-is p.columns) (found.near (read_table p) p.allowance ps' unrefused),
    found.small (read_table p) p.allowance ps' unrefused,
    (found.keeps (read_table p) p.allowance ps' unrefused same).s1,
  )

  pub plan_chain : (o : Option Chain) → Explained (read_table p) p.allowance (placed ps') o → IsSome o
  plan_chain o e = found.there (read_table p) p.allowance ps' unrefused same o e

  pub plan_reasoned : (o : Option Chain) {c : Chain} → Explained (read_table p) p.allowance (placed ps') o → o ≡ Some c → Reasoned p.columns p.allowance r.width ps' c.count c.cells c.rules
  plan_reasoned o {c} e q =
      let x = found.explained (read_table p) p.allowance ps' unrefused same true c.count c.cells c.rules (rw q at e) in
      record {
        fit = plan-asked.0;
        near = plan-asked.1;
        wide = (drawn_measured p (taken_few p f h) d).wide;
        same = same;
        is = x.1;
        chained = x.2;
      }

  pub plan-text : {a c : List ℕ} {n : ℕ} → Put a 0 (lines_joined (sheet_reason (read_table p) p.allowance)) c n → Put a 0 (why_text f) c n
  unfolding why_text why_lines
  plan-text u = let e = h.is in let z = h.passes in rw (← e, eq-eqb p.refusal.number 0 z) u

pub refusal-text : (f : Bytes) (r : Refusal) → Err r ≡ answer_of (reading_of f most_cells) → {a b : List ℕ} {k : ℕ} → Put a 0 (refused_line r.number r.cell) b k → Put a 0 (why_text f) b k
unfolding why_text why_lines lines_joined
refusal-text f r h u =
    let p = reading_of f most_cells in
    let (q, n) = read_refused f most_cells r h in
    let m : ¬ (p.refusal.number ≡ 0) = rw q at n in
    rw (ne_eqb p.refusal.number 0 m, append-nil _) (rw q at u)

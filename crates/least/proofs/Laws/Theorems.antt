-- The proofs behind proofs/Theorems.antt: of theorems 1 to 10, under their names and numbers (of the eleventh: proofs/Laws/Twins). Nothing that a reader must believe stands here. Assumes nothing.
use Rattle.std.specs.Prelude.{ℕ, ◌≤◌, List, [], ◌∷◌, map, ◌≡◌, ◌↔◌, length, T, ℤ, pos, ◌-ℤ◌, ◌≤ℤ◌}
use Rattle.std.proofs.Common.{sym, ap, ◌∙◌}
use Rattle.whole.proofs.Laws.Whole.{whole}
use Rattle.plan.specs.Plan.{Table, Is, Sound, next}
use Rattle.plan.specs.Questions.{layout, check, none, refusal, layout_given, check_given}
use Rattle.rules.specs.Placement.{Placement, placed, Agree, width, rows, left_extent, right_extent}
use Rattle.rules.specs.Rules.{Keeps}
use Rattle.rules.specs.Search.{Verdict}
use Rattle.rules.specs.Verdict.{verdict, Exact, answer, fine}
use Rattle.rules.proofs.Laws.Verdict.{verdict_exact, kept_keeps, keeps_kept, answer-fine, fine-answer}
use Rattle.rules.proofs.Laws.Extents.{y-row, rows-plan}
use Rattle.rules.proofs.Laws.Agreement.{answer-same}
use Rattle.contours.specs.Contour.{Contour, greatest}
use Rattle.contours.specs.Sheet.{sheet}
use Rattle.least.proofs.Asked.{layout-asks, check-asks}
use Rattle.least.proofs.Laws.Measures as measures
use Rattle.least.proofs.Laws.Measures.{sheet-left, sheet-right, sheet-width, any_left, any_right, any_width, any_apart}
use Rattle.least.proofs.Laws.Columns.{sheet-inside}
use Rattle.least.specs.Alike.{Alike, Twins}
use Rattle.least.proofs.Laws.Alike.{shifted, contour_alike}
use Rattle.least.proofs.Laws.Alone.{same-columns}
use Rattle.least.proofs.Laws.Wider.{keeps_wider}
use Rattle.least.specs.Worked.{sheets, computed}
use Rattle.least.proofs.Laws.Worked.{computes}
use Rattle.least.specs.NoLess.{NoLess}

module _ (t : Table) (some_cell : 1 ≤ length t) (sound : Sound t) (al : ℕ) where
  -- 1. Our sheet keeps S1 to S5.
  pub sheet_keeps : Keeps t (sheet t al) al
  sheet_keeps = measures.sheet_keeps t sound al

  -- 2. Of all whole-number placements that keep them, of any size, none is anywhere less.
  pub sheet-least : (p : Placement) → Keeps t p al → NoLess t (sheet t al) p
  sheet-least p k =
      record {
        left = λ c i. omega (whole, sheet-left t sound al c i, any_left t sound al p k c i);
        right = λ c i. omega (whole, sheet-right t sound al c i, any_right t sound al p k c i);
        apart = any_apart t sound al p k;
        wide = omega (whole, sheet-width t sound al some_cell, any_width t sound al p k some_cell);
        deep = rows-plan t p sound k.s1 some_cell ∙ sym (rows-plan t (sheet t al) sound sheet_keeps.s1 some_cell);
      }

  -- 3. A placement that keeps them and whose neighbouring siblings all stand as far apart as ours is our sheet.
  pub sheet_alone : (p : Placement) → Keeps t p al → ((u v : ℕ) → T (next t u v) → p.x v -ℤ p.x u ≡ (sheet t al).x v -ℤ (sheet t al).x u)
      → Agree t p (sheet t al)
  sheet_alone p k h c i = (
    same-columns t sound p (sheet t al) k.s1 sheet_keeps.s1 k.s2 sheet_keeps.s2 h c i,
    y-row t p sound k.s1 c i ∙ sym (y-row t (sheet t al) sound sheet_keeps.s1 c i),
  )

-- 4. Subtrees of equal shape, kinds, widths and depths, of one table or of two, differ by a shift only under one allowance (000's Bd5):
-- c stands to a as d, in the same place of the other subtree, to b.
pub alike : (t u : Table) → Sound t → Sound u → (al a b : ℕ) → Alike t u (a ∷ []) (b ∷ []) → (c d : ℕ) → Twins t u (a ∷ []) (b ∷ []) c d
    → ((sheet t al).x c -ℤ (sheet t al).x a ≡ (sheet u al).x d -ℤ (sheet u al).x b) × ((sheet t al).y c -ℤ (sheet t al).y a ≡ (sheet u al).y d -ℤ (sheet u al).y b)
alike t u st su al a b h c d w = shifted t u al st su a b c d h w

-- 5. Check's verdict is the one that is true: kept where all five rules are kept; otherwise the rule and pair named is broken, and no lower one.
pub check_exact : (t : Table) → 1 ≤ length t → (al : ℕ) (p : Placement) (v : Verdict) → (verdict t p al ≡ v) ↔ Exact t p al v
check_exact t some_cell al p v = verdict_exact t p al some_cell v

-- 6. An accepted sheet is not narrower than ours, and has its rows.
pub accepted : (t : Table) → 1 ≤ length t → Sound t → (al : ℕ) (p : Placement) (w r : ℤ) → answer t p al ≡ fine w r
    → (width t (sheet t al) ≤ℤ w) × (r ≡ rows t (sheet t al))
accepted t some_cell sound al p w r e =
    let f = answer-fine t p al w r e in
    let n = sheet-least t some_cell sound al p (kept_keeps t p al some_cell f.verdict_kept) in
    (rw f.wide n.wide, f.deep ∙ n.deep)

-- 7. Where Layout refuses nothing, Check refuses nothing of the positions that hold our sheet (question 15 included), and answers kept with
-- our sheet's width and rows.
pub sheet-accepted : (t : Table) (al scratch : ℕ) (ps : List ℤ) → refusal layout (layout_given t al scratch (length ps)) ≡ none → Agree t (placed ps) (sheet t al)
    → (refusal check (check_given t al ps) ≡ none) × (answer t (placed ps) al ≡ fine (width t (sheet t al)) (rows t (sheet t al)))
unfolding placed
sheet-accepted t al scratch ps e h =
    let a = (layout-asks t al scratch (length ps)).0 e in
    let f = a.table.fit in
    let k = keeps_kept t (sheet t al) al (sheet_keeps t f.some_cell f.sound al) in (
      (check-asks t al ps).1 (record {
        table = a.table;
        allowance = a.allowance;
        positions = a.positions;
        near_all = λ c i. rw ((h c i).0, (h c i).1) (sheet-inside t f al c i);
      }),
      answer-same t (placed ps) (sheet t al) h f.some_cell f.sound al ∙ fine-answer t (sheet t al) al k,
    )

-- 8. The worked sheets ◆A to ◆J come out as document 01 has them, and so do five more, which S3 and S5 decide,
-- nine with choices (E6) and ten whose ranks decide the order of siblings (E13).
pub worked : map computed sheets ≡ sheets
worked = computes

-- 9. A larger allowance never gives a wider sheet, nor a longer extent of any subtree on either side (document 02, E2, "to rest on"):
-- our sheet for the smaller one is nowhere less than that for the larger.
pub wider_allowance : (t : Table) → 1 ≤ length t → Sound t → (al al' : ℕ) → al ≤ al' → NoLess t (sheet t al') (sheet t al)
wider_allowance t some_cell sound al al' h =
    sheet-least t some_cell sound al' (sheet t al) (keeps_wider t (sheet t al) al al' h (sheet_keeps t some_cell sound al))

-- 10. Alike subtrees, of one table or of two, extend equally far to the left and to the right under one allowance.
pub alike_extents : (t u : Table) → Sound t → Sound u → (al a b : ℕ) → Is t a → Is u b → Alike t u (a ∷ []) (b ∷ [])
    → (left_extent t (sheet t al) a ≡ left_extent u (sheet u al) b) × (right_extent t (sheet t al) a ≡ right_extent u (sheet u al) b)
alike_extents t u st su al a b i j h =
    let e = contour_alike t u al st su a b h in (
      sheet-left t st al a i ∙ ap (λ (o : Contour). pos (greatest o.left)) e ∙ sym (sheet-left u su al b j),
      sheet-right t st al a i ∙ ap (λ (o : Contour). pos (greatest o.right)) e ∙ sym (sheet-right u su al b j),
    )

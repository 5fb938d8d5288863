-- DEMANDS 2 AND 3: what is proved of our sheet and of Check, for every table and every allowance. Whoever knows the definitions of the crates
-- plan, rules and contours needs to read nothing else. A table is asked what the questions ask: that it has a cell (question 4) and that parents
-- have lower numbers (question 6); the seventh theorem asks that Layout refuses nothing. Assumes nothing.
use Rattle.std.specs.Prelude.{ℕ, ◌≤◌, List, [], ◌∷◌, map, ◌≡◌, ◌↔◌, length, T, ℤ, ◌-ℤ◌, ◌≤ℤ◌}
use Rattle.plan.specs.Plan.{Table, Is, Sound, within, next}
use Rattle.plan.specs.Questions.{layout, check, none, refusal, layout_given, check_given}
use Rattle.rules.specs.Placement.{Placement, placed, Agree, width, rows, left_extent, right_extent}
use Rattle.rules.specs.Rules.{Keeps}
use Rattle.rules.specs.Search.{Verdict}
use Rattle.rules.specs.Verdict.{verdict, Exact, answer, fine}
use Rattle.contours.specs.Sheet.{sheet}
use Rattle.least.specs.Alike.{Alike, Twins, Twin}
use Rattle.least.specs.Worked.{sheets, computed}
use Rattle.least.specs.NoLess.{NoLess}
use Rattle.least.specs.Pair as pair
use Rattle.least.proofs.Laws.Theorems as laws
use Rattle.least.proofs.Laws.Twins as twins
use Rattle.least.proofs.Laws.Pair as pair-laws

module _ (t : Table) (some_cell : 1 ≤ length t) (sound : Sound t) (al : ℕ) where
  -- 1. Our sheet keeps S1 to S5.
  pub sheet_keeps : Keeps t (sheet t al) al
  sheet_keeps = laws.sheet_keeps t some_cell sound al

  -- 2. Of all whole-number placements that keep them, of any size, none is anywhere less.
  pub sheet-least : (p : Placement) → Keeps t p al → NoLess t (sheet t al) p
  sheet-least = laws.sheet-least t some_cell sound al

  -- 3. A placement that keeps them and whose neighbouring siblings all stand as far apart as ours is our sheet.
  pub sheet_alone : (p : Placement) → Keeps t p al → ((u v : ℕ) → T (next t u v) → p.x v -ℤ p.x u ≡ (sheet t al).x v -ℤ (sheet t al).x u)
      → Agree t p (sheet t al)
  sheet_alone = laws.sheet_alone t some_cell sound al

-- 4. Subtrees of equal shape, kinds, widths and depths, of one table or of two, differ by a shift only under one allowance (000's Bd5):
-- c stands to a as d, in the same place of the other subtree, to b.
pub alike : (t u : Table) → Sound t → Sound u → (al a b : ℕ) → Alike t u (a ∷ []) (b ∷ []) → (c d : ℕ) → Twins t u (a ∷ []) (b ∷ []) c d
    → ((sheet t al).x c -ℤ (sheet t al).x a ≡ (sheet u al).x d -ℤ (sheet u al).x b) × ((sheet t al).y c -ℤ (sheet t al).y a ≡ (sheet u al).y d -ℤ (sheet u al).y b)
alike = laws.alike

-- 5. Check's verdict is the one that is true: kept where all five rules are kept; otherwise the rule and pair named is broken, and no lower one.
pub check_exact : (t : Table) → 1 ≤ length t → (al : ℕ) (p : Placement) (v : Verdict) → (verdict t p al ≡ v) ↔ Exact t p al v
check_exact = laws.check_exact

-- 6. An accepted sheet is not narrower than ours, and has its rows.
pub accepted : (t : Table) → 1 ≤ length t → Sound t → (al : ℕ) (p : Placement) (w r : ℤ) → answer t p al ≡ fine w r
    → (width t (sheet t al) ≤ℤ w) × (r ≡ rows t (sheet t al))
accepted = laws.accepted

-- 7. Where Layout refuses nothing, Check refuses nothing of the positions that hold our sheet (question 15 included), and answers kept with
-- our sheet's width and rows.
pub sheet-accepted : (t : Table) (al scratch : ℕ) (ps : List ℤ) → refusal layout (layout_given t al scratch (length ps)) ≡ none → Agree t (placed ps) (sheet t al)
    → (refusal check (check_given t al ps) ≡ none) × (answer t (placed ps) al ≡ fine (width t (sheet t al)) (rows t (sheet t al)))
sheet-accepted = laws.sheet-accepted

-- 8. The worked sheets ◆A to ◆J come out as document 01 has them, and so do five more, which S3 and S5 decide,
-- nine with choices (E6) and ten whose ranks decide the order of siblings (E13).
pub worked : map computed sheets ≡ sheets
worked = laws.worked

-- 9. A larger allowance never gives a wider sheet, nor a longer extent of any subtree on either side (document 02, E2, "to rest on"):
-- our sheet for the smaller one is nowhere less than that for the larger.
pub wider_allowance : (t : Table) → 1 ≤ length t → Sound t → (al al' : ℕ) → al ≤ al' → NoLess t (sheet t al') (sheet t al)
wider_allowance = laws.wider_allowance

-- 10. Subtrees of equal shape, kinds, widths and depths, of one table or of two, extend equally far to the left and to the right under one
-- allowance (what document 02, E10, rests on).
pub alike_extents : (t u : Table) → Sound t → Sound u → (al a b : ℕ) → Is t a → Is u b → Alike t u (a ∷ []) (b ∷ [])
    → (left_extent t (sheet t al) a ≡ left_extent u (sheet u al) b) × (right_extent t (sheet t al) a ≡ right_extent u (sheet u al) b)
alike_extents = laws.alike_extents

-- 11. Of two such subtrees every cell of the one has exactly one twin in the other, both ways; a twin's twin is the cell itself.
pub alike_whole : (t u : Table) → Sound t → Sound u → (a b : ℕ) → Is t a → Is u b → Alike t u (a ∷ []) (b ∷ [])
    → ((c : ℕ) → Is t c → T (within t a c) → Twin t u a b c) × ((d : ℕ) → Is u d → T (within u b d) → Twin u t b a d)
alike_whole = twins.whole

pub twins_back : (t u : Table) (a b c d : ℕ) → Twins t u (a ∷ []) (b ∷ []) c d → Twins u t (b ∷ []) (a ∷ []) d c
twins_back t u a b c d = twins.twins_turned

-- 12. Two subtrees are alike though their ranks and their places in the file differ: a worked pair.
pub alike_pair : pair.Rows
alike_pair = pair-laws.rows

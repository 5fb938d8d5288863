-- DEMAND 3, of what Layout writes. Assumes nothing.
use Rattle.std.specs.Prelude.{◌≡◌, List, ℕ, length, ℤ, pos, Ok}
use Rattle.std.proofs.Common.{sym, ◌∙◌}
use Rattle.plan.specs.Plan.{Table}
use Rattle.plan.specs.declared.Measures.{Measures}
use Rattle.plan.specs.Fit.{Fit}
use Rattle.plan.proofs.Laws.Siblings.{next-is}
use Rattle.plan.specs.Questions.{check, none, refusal, check_given}
use Rattle.rules.specs.Placement.{Placement, placed, Agree, width, rows}
use Rattle.rules.specs.Rules.{Keeps}
use Rattle.rules.specs.Verdict.{answer, fine}
use Rattle.rules.proofs.Laws.Verdict.{kept_keeps, answer-fine}
use Rattle.rules.proofs.Laws.Agreement.{left_extent-same, right_extent-same, width_same, rows_same}
use Rattle.contours.specs.Sheet.{sheet}
use Rattle.least.specs.NoLess.{NoLess}
use Rattle.least.proofs.Theorems.{sheet-least, sheet-accepted}
use Rattle.positions.specs.Written.{written}
use Rattle.positions.proofs.Laws.Written.{written_agree, written-length}
use Rattle.layout.specs.Laid.{positions_after, Lays}
use Rattle.layout.proofs.Laws.Laid.{unrefused, sheet-asks, sheet-wide, sheet-deep}

-- positions ps with a width w and rows h, for a table and an allowance
pub record Promise (t : Table) (al : ℕ) (ps : List ℤ) (w h : ℕ) : Type 0 where
  -- the positions keep S1 to S5,
  pub keeps : Keeps t (placed ps) al
  -- the width and the rows are theirs,
  pub wide : width t (placed ps) ≡ pos w
  pub deep : rows t (placed ps) ≡ pos h
  -- of all whole-number placements that keep S1 to S5 under the same allowance, of any size, none is anywhere less: neither in an extent of a
  -- subtree nor in a distance of neighbouring siblings nor in the width; and the rows are the same;
  pub least : (p : Placement) → Keeps t p al → NoLess t (placed ps) p
  -- and Check refuses nothing of them, and answers kept with that width and those rows
  pub unrefused : refusal check (check_given t al ps) ≡ none
  pub accepted : answer t (placed ps) al ≡ fine (pos w) (pos h)

-- where Layout answers with a sheet
module _ (t : Table) (al : ℕ) (s s' : List ℕ) (ps ps' : List ℤ) (m : Measures) (l : Lays t al s s' ps ps' (Ok m)) where
  ours : ps' ≡ written ps (sheet t al) (length t)
  unfolding positions_after
  ours = l.positions

  pub promised : Promise t al ps' m.width m.rows
  promised =
      let a = sheet-asks t al s s' ps ps' m l in
      let f = a.table.fit in
      let z = unrefused t al s s' ps ps' m l in
      let same : Agree t (placed ps') (sheet t al) = rw ours (written_agree (sheet t al) t ps) in
      let e = sheet-wide t al s s' ps ps' m l in
      let d = sheet-deep t al s s' ps ps' m l in
      let long : length ps ≡ length ps' = sym (rw ours (written-length (sheet t al) ps (length t) a.positions)) in
      let (none, kept) = sheet-accepted t al (length s) ps' (rw long at z) same in
      let fair = rw (← e, ← d) at kept in
      record {
        keeps = kept_keeps t (placed ps') al f.some_cell (answer-fine t (placed ps') al _ _ fair).verdict_kept;
        wide = width_same t (placed ps') (sheet t al) same f.some_cell ∙ sym e;
        deep = rows_same t (placed ps') (sheet t al) same f.some_cell ∙ sym d;
        least = λ p k. nowhere_less f same p (sheet-least t f.some_cell f.sound al p k);
        unrefused = none;
        accepted = fair;
      }
    where
      nowhere_less : Fit t → Agree t (placed ps') (sheet t al) → (p : Placement) → NoLess t (sheet t al) p → NoLess t (placed ps') p
      nowhere_less f same p n = record {
        left = λ c i. rw (left_extent-same t (placed ps') (sheet t al) same c i) (n.left c i);
        right = λ c i. rw (right_extent-same t (placed ps') (sheet t al) same c i) (n.right c i);
        apart = λ u v k. let (i, j) = next-is t u v k in rw ((same u i).0, (same v j).0) (n.apart u v k);
        wide = rw (width_same t (placed ps') (sheet t al) same f.some_cell) n.wide;
        deep = n.deep ∙ sym (rows_same t (placed ps') (sheet t al) same f.some_cell);
      }

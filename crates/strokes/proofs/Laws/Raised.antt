-- The code's strokes are the sheet's. Nothing that a reader must believe stands here. Assumes nothing.
use Rattle.std.specs.Prelude.{◌≡◌, refl, List, [], ◌∷◌, ℕ, zero, suc, ◌+◌, ◌*◌, ◌-◌, ◌/◌, ◌%◌, ◌≤◌, ◌<◌, get_or, ℤ}
use Rattle.std.proofs.Math.Path.{sym}
use Rattle.std.proofs.Common.{◌∙◌}
use native.Mathlib.Omega.{arith}
use Rattle.std.proofs.Math.ListN.{length}
use Rattle.plan.specs.Limits.{most_width}
use Rattle.plan.specs.Plan.{parent}
use Rattle.plan.specs.Fit.{Fit}
use Rattle.plan.specs.Near.{Near}
use Rattle.plan.specs.Columns.{table_of}
use Rattle.plan.specs.Questions.{strokes_of}
use Rattle.plan.proofs.Laws.Tables.{length-is, width_is, depth_is, parent_is, count_few}
use Rattle.plan.specs.declared.Columns.{Columns}
use Rattle.plan.specs.declared.Page.{Page}
use Rattle.rules.specs.Placement.{placed, right, base}
use Rattle.corners.specs.Corners.{Leftmost}
use Rattle.corners.proofs.Laws.Corners.{moved-is, back_is, across-is, across-moved, left_is}
use Rattle.ends.specs.Ended.{half, joined}
use Rattle.ends.proofs.Laws.Halves.{half_close}
use Rattle.pen.specs.declared.Stroke.{Stroke}
use Rattle.pen.specs.declared.Stroke.TheVariants.{Lift}
use Rattle.pen.specs.Paper.{across, down}
use Rattle.pen.specs.Strokes.{move, line, box_strokes, from_end_to_end, connector_strokes, strokes}
use Rattle.pen.proofs.Laws.Strokes.{box-number, connector_number}
use Rattle.strokes.specs.Raised.{box_at, connector_at, box_of, connector_of, Boxed}

-- past the strokes before the last one is the lift
past_five : (a b c d e : Stroke) (j : ℕ) → 5 ≤ j → Lift ≡ get_or (a ∷ b ∷ c ∷ d ∷ e ∷ Lift ∷ []) j Lift
past_five a b c d e (suc (suc (suc (suc (suc zero))))) h = refl
past_five a b c d e (suc (suc (suc (suc (suc (suc j)))))) h = refl
past_five a b c d e zero h = absurd (omega arith)
past_five a b c d e (suc zero) h = absurd (omega arith)
past_five a b c d e (suc (suc zero)) h = absurd (omega arith)
past_five a b c d e (suc (suc (suc zero))) h = absurd (omega arith)
past_five a b c d e (suc (suc (suc (suc zero)))) h = absurd (omega arith)

past_two : (a b : Stroke) (j : ℕ) → 2 ≤ j → Lift ≡ get_or (a ∷ b ∷ Lift ∷ []) j Lift
past_two a b (suc (suc zero)) h = refl
past_two a b (suc (suc (suc j))) h = refl
past_two a b zero h = absurd (omega arith)
past_two a b (suc zero) h = absurd (omega arith)

pub rest_five : (a b c d e : Stroke) (j : ℕ) → ¬ (j ≡ 0) → ¬ (j ≡ 1) → ¬ (j ≡ 2) → ¬ (j ≡ 3) → ¬ (j ≡ 4) → Lift ≡ get_or (a ∷ b ∷ c ∷ d ∷ e ∷ Lift ∷ []) j Lift
rest_five a b c d e j h0 h1 h2 h3 h4 = past_five a b c d e j (omega arith)

pub rest-two : (a b : Stroke) (j : ℕ) → ¬ (j ≡ 0) → ¬ (j ≡ 1) → Lift ≡ get_or (a ∷ b ∷ Lift ∷ []) j Lift
rest-two a b j h0 h1 = past_two a b j (omega arith)

module _ (t : Columns) (ps : List ℤ) (g : Page) (near : Near ps t.count) (l : ℕ) (lm : Leftmost ps t.count l) where
  box-same : (c : ℕ) → c < t.count → box_of g l t.width t.depth ps c ≡ box_strokes (table_of t) (placed ps) g c
  unfolding box_of box_at box_strokes move line across down right base placed
  box-same c h =
      let wx = near.x c h in
      let wy = near.y c h in
      rw (left_is t ps l lm, width_is t c h, depth_is t c h, across-is _ wx l, across-moved _ wx l (get_or t.width c 0), back_is _ wy, moved-is _ wy (get_or t.depth c 0))

  connector_same : (f c : ℕ) → f < t.count → c < t.count → f ≡ get_or t.parent c 0
      → connector_of g l t.width t.depth ps f c ≡ connector_strokes (table_of t) (placed ps) g c
  unfolding connector_of connector_at connector_strokes from_end_to_end joined move line across down placed
  connector_same f c i h e =
      let p : parent (table_of t) c ≡ f = parent_is t c h ∙ sym e in
      rw (
        left_is t ps l lm,
        p,
        width_is t f i,
        depth_is t f i,
        width_is t c h,
        across-moved _ (near.x f i) l (half (get_or t.width f 0)),
        moved-is _ (near.y f i) (get_or t.depth f 0),
        across-moved _ (near.x c h) l (half (get_or t.width c 0)),
        back_is _ (near.y c h),
      )

  -- number s, as the code finds it
  pub box_drawn : (s : ℕ) → s < 6 * t.count
      → get_or (box_of g l t.width t.depth ps (s / 6)) (s % 6) Lift ≡ get_or (strokes (table_of t) (placed ps) g) s Lift
  box_drawn s h =
      let k : s < 6 * length (table_of t) = omega (arith, length-is t) in
      rw (box-same (s / 6) (omega arith)) (sym (box-number (table_of t) (placed ps) g Lift s k))

  pub connector_drawn : (s f : ℕ) → 6 * t.count ≤ s → s < strokes_of t.count → f ≡ get_or t.parent (1 + (s - 6 * t.count) / 3) 0 → f < 1 + (s - 6 * t.count) / 3
      → get_or (connector_of g l t.width t.depth ps f (1 + (s - 6 * t.count) / 3)) ((s - 6 * t.count) % 3) Lift ≡ get_or (strokes (table_of t) (placed ps) g) s Lift
  unfolding strokes_of
  connector_drawn s f h k e lf =
      let n : length (table_of t) ≡ t.count = length-is t in
      let i : 1 + (s - 6 * t.count) / 3 < t.count = omega arith in
      let q : 6 * length (table_of t) ≤ s = omega arith in
      let m : s < 9 * length (table_of t) - 3 = omega arith in
      rw (connector_same f (1 + (s - 6 * t.count) / 3) (omega arith) i e) (rw n at (sym (connector_number (table_of t) (placed ps) g Lift s q m)))

-- the cell whose connector is meant
pub connector_cell : (n s : ℕ) → 6 * n ≤ s → s < strokes_of n → 1 + (s - 6 * n) / 3 < n
unfolding strokes_of
connector_cell n s h k = omega arith

pub boxed : (t : Columns) → Fit (table_of t) → (c : ℕ) → c < t.count → Boxed t.width t.depth c
boxed t fit c h =
    let i : c < length (table_of t) = omega (arith, length-is t) in
    record { few = omega (arith, count_few t fit); wide = omega (arith, width_is t c h, (fit.wide c i).1); deep = omega (arith, depth_is t c h, (fit.deep c i).1) }

pub half_low : (w h : ℕ) → h ≡ half w → w ≤ most_width → h ≤ most_width
half_low w h e l = omega (arith, (half_close w).low)

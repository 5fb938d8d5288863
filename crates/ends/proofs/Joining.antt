-- From positions to the ends of a connector. Assumes nothing.
use mathlib.Core.Path.{◌≡◌, refl, sym, ◌∙◌}
use mathlib.Core.List.{List}
use Prim.Native.Nat.{ℕ, ◌+◌, ◌*◌, ◌≤◌, ◌<◌}
use native.Mathlib.Omega.{arith}
use lib.ListN.{length, get_or}
use lib.IntN.{ℤ, pos, ◌+ℤ◌, ◌-ℤ◌}
use mir.Syntax.{w32}
use mir.Val.{to_z, of_z, SFits}
use mir.ValLaws.{to_z-of_z}
use Rattle.whole.proofs.Machine.{fits32}
use Rattle.whole.proofs.Laws.Whole.{whole, narrow, sum, diff, neg-plus, neg-minus}
use Rattle.whole.specs.Bias.{bias}
use Rattle.whole.specs.Range.{InRange}
use Rattle.plan.specs.Limits.{farthest, most_cells, most_width}
use Rattle.plan.specs.Plan.{parent}
use Rattle.plan.specs.Fit.{Fit}
use Rattle.plan.specs.Near.{Near}
use Rattle.plan.specs.Columns.{table_of}
use Rattle.plan.proofs.Laws.Tables.{length-is, parent_is, width_is, depth_is, count_few, parent_lower}
use Rattle.plan.specs.Questions.{refusal, ends, ends_given, passed}
use Rattle.rules.specs.Placement.{placed}
use Rattle.ends.specs.Ended.{half, joined}
use Rattle.ends.proofs.Laws.Ended.{accepted}
use Rattle.ends.proofs.Laws.Halves.{half_close}
use Rattle.plan.specs.declared.Columns.{Columns}
use Rattle.plan.proofs.Laws.Answered.{passes}
use Rattle.std.specs.Prelude.{Ok, ⊤}
use Rattle.ends.specs.declared.Ended.{Ended}

-- moved up, moved on, and moved back
module _ (z : ℤ) (w : InRange farthest z) (by : ℕ) where
  pub moved_low : bias farthest z ≤ farthest + farthest
  moved_low = omega (whole, w.high)

  pub moved-is : pos (bias farthest z + by) -ℤ pos farthest ≡ z +ℤ pos by
  moved-is = omega (whole, w.low, neg-plus (pos farthest), neg-minus (pos farthest), diff (pos (bias farthest z + by)) (pos farthest), sum z (pos by))

  moved-fits : by ≤ most_width → SFits w32 (z +ℤ pos by)
  moved-fits l =
      let lo = w.low in
      let hi = w.high in
      fits32 (z +ℤ pos by)
      (omega (whole, narrow (z +ℤ pos by), narrow z, sum z (pos by), neg-plus (pos farthest), neg-minus (pos farthest)))
      (omega (whole, narrow (z +ℤ pos by), narrow z, sum z (pos by), neg-plus (pos farthest), neg-minus (pos farthest)))

  -- as the machine reads it back from its bits
  pub moved_back : (r : ℤ) → by ≤ most_width → r ≡ z +ℤ pos by → to_z w32 (of_z w32 r) ≡ z +ℤ pos by
  moved_back r l e = rw e (to_z-of_z w32 (z +ℤ pos by) (moved-fits l))

module _ (t : Columns) (fit : Fit (table_of t)) where
  pub width_low : (c : ℕ) → c < t.count → half (get_or t.width c 0) ≤ most_width
  width_low c l = omega (arith, (half_close (get_or t.width c 0)).low, width_is t c l, (fit.wide c (omega (arith, length-is t))).1)

  pub depth_low : (c : ℕ) → c < t.count → get_or t.depth c 0 ≤ most_width
  depth_low c l = omega (arith, depth_is t c l, (fit.deep c (omega (arith, length-is t))).1)

  pub joined_is : (ps : List ℤ) (c f h d k : ℕ) {u v x y : ℤ} → c < t.count → f < t.count → f ≡ get_or t.parent c 0
      → h ≡ half (get_or t.width f 0) → d ≡ get_or t.depth f 0 → k ≡ half (get_or t.width c 0)
      → u ≡ get_or ps (2 * f) (pos 0) +ℤ pos h → v ≡ get_or ps (2 * f + 1) (pos 0) +ℤ pos d
      → x ≡ get_or ps (2 * c) (pos 0) +ℤ pos k → y ≡ get_or ps (2 * c + 1) (pos 0) +ℤ pos 0
      → ◌≡◌ {A = Ended} (record { from_x = u; from_y = v; to_x = x; to_y = y }) (joined (table_of t) (placed ps) c)
  unfolding joined placed
  joined_is ps c f h d k i j e eh ed ek eu ev ex ey =
      let p : parent (table_of t) c ≡ f = parent_is t c i ∙ sym e in
      let z : get_or ps (2 * c + 1) (pos 0) +ℤ pos 0 ≡ get_or ps (2 * c + 1) (pos 0) = omega (whole, sum (get_or ps (2 * c + 1) (pos 0)) (pos 0)) in
      rw (p, width_is t f j, depth_is t f j, width_is t c i, eu, ev, ex, ey, eh, ed, ek, z) refl

-- a child of a table and positions that no question refuses
pub record Endable (t : Columns) (ps : List ℤ) (c : ℕ) : Type 0 where
  pub fit : Fit (table_of t)
  pub near : Near ps t.count
  pub room : 2 * t.count ≤ length ps
  pub few : t.count ≤ most_cells
  pub is : c < t.count
  pub lower : get_or t.parent c 0 < c

pub endable : (t : Columns) (ps : List ℤ) (c : ℕ) (u : ⊤) → Ok u ≡ passed (refusal ends (ends_given (table_of t) ps c)) → Endable t ps c
endable t ps c u e =
    let ok = accepted t ps c (passes _ u e) in
    record { fit = ok.0; near = ok.1; room = ok.1.room; few = count_few t ok.0; is = ok.2; lower = parent_lower t ok.0 c ok.3 ok.2 }

-- The strokes of a sheet are in order. Assumes nothing.
use Rattle.std.specs.Prelude.{◌≡◌, refl, List, [], ◌∷◌, ◌++◌, ℕ, zero, suc, pred, ◌-◌, ◌<◌, T, Float, length, get_or}
use Rattle.std.proofs.Common.{arith}
use Rattle.plan.specs.Lists.{from}
use Rattle.plan.specs.Plan.{Table, cells}
use Rattle.plan.specs.declared.Page.{Page}
use Rattle.rules.specs.Placement.{Placement}
use Rattle.ends.specs.Ended.{joined}
use Rattle.pen.specs.declared.Stroke.{Stroke}
use Rattle.pen.specs.declared.Stroke.TheVariants.{Move, Line, Lift}
use Rattle.pen.specs.Strokes.{each, move, line, box_strokes, from_end_to_end, connector_strokes, strokes}
use Rattle.pen.specs.Orderly.{Pen, up, standing, drawing, orderly, Lined, Lifted}

-- what is in order from a pen, then what is in order from a pen that is up
orderly-on : (q : Pen) (l k : List Stroke) → T (orderly q l) → T (orderly up k) → T (orderly q (l ++ k))
unfolding orderly
orderly-on up [] k h g = g
orderly-on up (Move x y ∷ l) k h g = orderly-on standing l k h g
orderly-on up (Line x y ∷ l) k h g = absurd h
orderly-on up (Lift ∷ l) k h g = absurd h
orderly-on standing [] k h g = absurd h
orderly-on standing (Move x y ∷ l) k h g = absurd h
orderly-on standing (Line x y ∷ l) k h g = orderly-on drawing l k h g
orderly-on standing (Lift ∷ l) k h g = absurd h
orderly-on drawing [] k h g = absurd h
orderly-on drawing (Move x y ∷ l) k h g = absurd h
orderly-on drawing (Line x y ∷ l) k h g = orderly-on drawing l k h g
orderly-on drawing (Lift ∷ l) k h g = orderly-on up l k h g

orderly-each : (f : ℕ → List Stroke) (l : List ℕ) → ((a : ℕ) → T (orderly up (f a))) → T (orderly up (each f l))
unfolding each orderly
orderly-each f [] h = tt
orderly-each f (a ∷ l) h = orderly-on up (f a) (each f l) (h a) (orderly-each f l h)

module _ (t : Table) (p : Placement) (g : Page) where
  box-orderly : (a : ℕ) → T (orderly up (box_strokes t p g a))
  unfolding box_strokes move line orderly
  box-orderly a = tt

  connector_orderly : (a : ℕ) → T (orderly up (connector_strokes t p g a))
  unfolding connector_strokes from_end_to_end joined move line orderly
  connector_orderly a = tt

  -- each drawn path begins with a move and ends with a lift
  pub strokes-orderly : T (orderly up (strokes t p g))
  unfolding strokes
  strokes-orderly =
      orderly-on up (each (box_strokes t p g) (cells t)) (each (connector_strokes t p g) (from 1 (pred (length t))))
      (orderly-each (box_strokes t p g) (cells t) box-orderly) (orderly-each (connector_strokes t p g) (from 1 (pred (length t))) connector_orderly)

-- ---- every lift follows a line
-- the pen has a line behind it, or the stroke before is one
abbrev Behind : Pen → List Stroke → ℕ → Type 0
Behind q l (suc s) = Lined l s
Behind up l zero = ⊥
Behind standing l zero = ⊥
Behind drawing l zero = Unit {0}

later : (a : Stroke) (l : List Stroke) (s : ℕ) → Lined l s → Lined (a ∷ l) (suc s)
later a l s h = record { x = h.x; y = h.y; is = h.is }

after_line : (x y : Float) (l : List Stroke) (s : ℕ) → Behind drawing l s → Lined (Line x y ∷ l) s
after_line x y l zero h = record { x = x; y = y; is = refl }
after_line x y l (suc s) h = later (Line x y) l s h

after-move : (a : Stroke) (l : List Stroke) (s : ℕ) → Behind standing l s → Lined (a ∷ l) s
after-move a l zero h = absurd h
after-move a l (suc s) h = later a l s h

after_lift : (a : Stroke) (l : List Stroke) (s : ℕ) → Behind up l s → Lined (a ∷ l) s
after_lift a l zero h = absurd h
after_lift a l (suc s) h = later a l s h

no_move : (x y : Float) → ¬ (Move x y ≡ Lift)
no_move x y e = let z : ◌≡◌ {A = ℕ} 0 1 = cc in omega arith

no_line : (x y : Float) → ¬ (Line x y ≡ Lift)
no_line x y e = let z : ◌≡◌ {A = ℕ} 0 1 = cc in omega arith

lift_behind : (q : Pen) (l : List Stroke) (s : ℕ) → T (orderly q l) → s < length l → get_or l s Lift ≡ Lift → Behind q l s
unfolding orderly
lift_behind up [] s h i e = absurd (omega arith)
lift_behind up (Move x y ∷ l) zero h i e = absurd (no_move x y e)
lift_behind up (Move x y ∷ l) (suc s) h i e = after-move (Move x y) l s (lift_behind standing l s h (omega arith) e)
lift_behind up (Line x y ∷ l) s h i e = absurd h
lift_behind up (Lift ∷ l) s h i e = absurd h
lift_behind standing [] s h i e = absurd (omega arith)
lift_behind standing (Move x y ∷ l) s h i e = absurd h
lift_behind standing (Line x y ∷ l) zero h i e = absurd (no_line x y e)
lift_behind standing (Line x y ∷ l) (suc s) h i e = after_line x y l s (lift_behind drawing l s h (omega arith) e)
lift_behind standing (Lift ∷ l) s h i e = absurd h
lift_behind drawing [] s h i e = absurd (omega arith)
lift_behind drawing (Move x y ∷ l) s h i e = absurd h
lift_behind drawing (Line x y ∷ l) zero h i e = tt
lift_behind drawing (Line x y ∷ l) (suc s) h i e = after_line x y l s (lift_behind drawing l s h (omega arith) e)
lift_behind drawing (Lift ∷ l) zero h i e = tt
lift_behind drawing (Lift ∷ l) (suc s) h i e = after_lift Lift l s (lift_behind up l s h (omega arith) e)

lift_lined : (l : List Stroke) (s : ℕ) → Behind up l s → Lifted l s
lift_lined l zero h = absurd h
lift_lined l (suc s) h = let e : suc s - 1 ≡ s = omega arith in record { some = omega arith; line = rw e h }

module _ (t : Table) (p : Placement) (g : Page) where
  pub lift_follows : (s : ℕ) → s < length (strokes t p g) → get_or (strokes t p g) s Lift ≡ Lift → Lifted (strokes t p g) s
  lift_follows s i e = lift_lined (strokes t p g) s (lift_behind up (strokes t p g) s (strokes-orderly t p g) i e)

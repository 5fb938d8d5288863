-- The proofs of proofs/Calls.antt. Assumes nothing.
use Rattle.std.specs.Prelude.{◌≡◌, List, ℕ, ◌*◌, ◌-◌, ◌<◌, T, get_or, ℤ, Ok, Err}
use Rattle.std.proofs.Common.{ap}
use native.Mathlib.Omega.{arith}
use Rattle.std.proofs.Math.ListN.{length, length-map}
use Rattle.plan.specs.Pages.{fair}
use Rattle.plan.specs.Questions.{none, refusal, stroke, stroke_given, strokes_of}
use Rattle.plan.specs.Records.{bare, cells_of}
use Rattle.plan.specs.declared.Page.{Page}
use Rattle.plan.specs.declared.Record.{Record}
use Rattle.plan.specs.declared.Refusal.{Refusal}
use Rattle.rules.specs.Placement.{placed}
use Rattle.pen.specs.declared.Stroke.{Stroke}
use Rattle.pen.specs.declared.Stroke.TheVariants.{Lift}
use Rattle.pen.specs.Strokes.{strokes}
use Rattle.pen.specs.Finite.{finite_stroke}
use Rattle.pen.proofs.Laws.Strokes.{strokes-length}
use Rattle.strokes.specs.Stroked.{stroked_of}
use Rattle.strokes.proofs.Laws.Stroked.{passed}
use Rattle.strokes.proofs.Laws.Promised as promised

module _ (t : List Record) (ps : List ℤ) (g : Page) (s : ℕ) where
  pub stroke_refuses : ¬ ((refusal stroke (stroke_given (cells_of t) ps g s)).number ≡ 0)
      → stroked_of (cells_of t) ps g s ≡ Err (refusal stroke (stroke_given (cells_of t) ps g s))
  stroke_refuses = promised.refuses (cells_of t) ps g s

  pub stroke-gives : refusal stroke (stroke_given (cells_of t) ps g s) ≡ none → stroked_of (cells_of t) ps g s ≡ Ok (get_or (strokes (cells_of t) (placed ps) g) s Lift)
  stroke-gives = promised.gives (cells_of t) ps g s

  pub stroke-asks : refusal stroke (stroke_given (cells_of t) ps g s) ≡ none → T (fair g) × (s < length (strokes (cells_of t) (placed ps) g)) × (s < 9 * length t - 3)
  unfolding strokes_of cells_of
  stroke-asks z =
      let h = passed (cells_of t) ps g s (ap (λ (r : Refusal). r.number) z) in
      let n : s < 9 * length (cells_of t) - 3 = h.number in
      let e = strokes-length (cells_of t) (placed ps) g h.fit.some_cell in
      let m : length (cells_of t) ≡ length t = length-map t bare in
      (h.page, omega arith, omega arith)

  pub stroke_finite : (d : Stroke) → stroked_of (cells_of t) ps g s ≡ Ok d → T (finite_stroke d)
  stroke_finite = promised.finite (cells_of t) ps g s

-- WHAT IS PROVED OF THE PLOTTER'S CALL (document 02, E1): what `plotting::stroke_at` answers, by its contract. Assumes nothing.
use Rattle.std.specs.Prelude.{◌≡◌, List, ℕ, ◌*◌, ◌-◌, ◌<◌, T, length, get_or, ℤ, Ok, Err}
use Rattle.plan.specs.Pages.{fair}
use Rattle.plan.specs.Plan.{Table}
use Rattle.plan.specs.Questions.{none, refusal, stroke, stroke_given}
use Rattle.plan.specs.Records.{cells_of}
use Rattle.plan.specs.declared.Page.{Page}
use Rattle.plan.specs.declared.Record.{Record}
use Rattle.rules.specs.Placement.{placed}
use Rattle.pen.specs.declared.Stroke.{Stroke}
use Rattle.pen.specs.declared.Stroke.TheVariants.{Lift}
use Rattle.pen.specs.Strokes.{strokes}
use Rattle.pen.specs.Finite.{finite_stroke}
use Rattle.strokes.specs.Stroked.{stroked_of}
use Rattle.strokes.specs.Worked.{Rows}
use Rattle.strokes.proofs.Laws.Worked as worked
use Rattle.plotting.proofs.Laws.Calls as laws

module _ (t : List Record) (ps : List ℤ) (g : Page) (s : ℕ) where
  abbrev cells : Table
  cells = cells_of t

  -- a refusal is answered by its number and cell
  pub stroke_refuses : ¬ ((refusal stroke (stroke_given cells ps g s)).number ≡ 0)
      → stroked_of cells ps g s ≡ Err (refusal stroke (stroke_given cells ps g s))
  stroke_refuses = laws.stroke_refuses t ps g s

  -- else number s of the strokes is given
  pub stroke-gives : refusal stroke (stroke_given cells ps g s) ≡ none → stroked_of cells ps g s ≡ Ok (get_or (strokes cells (placed ps) g) s Lift)
  stroke-gives = laws.stroke-gives t ps g s

  -- what is not refused is on a page whose pitch is from 0.25 to 16 and whose margins are from 0 to 100, and s is the number of one of its strokes
  pub stroke-asks : refusal stroke (stroke_given cells ps g s) ≡ none → T (fair g) × (s < length (strokes cells (placed ps) g)) × (s < 9 * length t - 3)
  stroke-asks = laws.stroke-asks t ps g s

  -- what is drawn has numbers for coordinates: no NaN, no infinity
  pub stroke_finite : (d : Stroke) → stroked_of cells ps g s ≡ Ok d → T (finite_stroke d)
  stroke_finite = laws.stroke_finite t ps g s

-- Strokes by hand, the questions included.
pub stroke-worked : Rows
stroke-worked = worked.worked

-- E1's sentences, of what the call answers. Assumes nothing.
use Rattle.std.specs.Prelude.{◌≡◌, List, ℕ, get_or, ℤ, T, Ok, Err}
use Rattle.std.proofs.Common.{sym, ◌∙◌, ap}
use Rattle.std.proofs.Math.Decide.{ℕ_discrete}
use Rattle.plan.specs.Plan.{Table}
use Rattle.plan.specs.Questions.{none, refusal, stroke, stroke_given}
use Rattle.plan.specs.declared.Page.{Page}
use Rattle.plan.specs.declared.Refusal.{Refusal}
use Rattle.rules.specs.Placement.{placed}
use Rattle.pen.specs.declared.Stroke.{Stroke}
use Rattle.pen.specs.declared.Stroke.TheVariants.{Lift}
use Rattle.pen.specs.Strokes.{strokes}
use Rattle.pen.specs.Finite.{finite_stroke}
use Rattle.pen.proofs.Theorems.{strokes_finite}
use Rattle.plan.proofs.Laws.Answered.{answered_none, answered_some}
use Rattle.strokes.specs.Stroked.{stroked_of}
use Rattle.strokes.proofs.Laws.Stroked.{passed}

module _ (t : Table) (ps : List ℤ) (g : Page) (s : ℕ) where
  pub refuses : ¬ ((refusal stroke (stroke_given t ps g s)).number ≡ 0) → stroked_of t ps g s ≡ Err (refusal stroke (stroke_given t ps g s))
  unfolding stroked_of
  refuses z = answered_some _ _ z

  pub gives : refusal stroke (stroke_given t ps g s) ≡ none → stroked_of t ps g s ≡ Ok (get_or (strokes t (placed ps) g) s Lift)
  unfolding stroked_of
  gives z = answered_none _ _ (ap (λ (x : Refusal). x.number) z)

  -- what is drawn is finite
  pub finite : (d : Stroke) → stroked_of t ps g s ≡ Ok d → T (finite_stroke d)
  finite d e = go (ℕ_discrete (refusal stroke (stroke_given t ps g s)).number 0)
    where
      go : Dec ((refusal stroke (stroke_given t ps g s)).number ≡ 0) → T (finite_stroke d)
      go (yes z) =
          let h = passed t ps g s z in
          let k : d ≡ get_or (strokes t (placed ps) g) s Lift = unfold stroked_of in cc (sym e ∙ answered_none _ _ z) in
          rw k (strokes_finite t (placed ps) g h.fit (unfold placed in h.near.x) (unfold placed in h.near.y) h.page s)
      go (no z) = cc (sym e ∙ refuses z)

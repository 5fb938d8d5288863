-- Each recorded step is a step of the table. Assumes nothing.
use Rattle.std.specs.Prelude.{◌≡◌, ◌⊎◌, List, [], ◌∷◌, ◌++◌, ℕ, zero, suc}
use Rattle.std.proofs.Common.{subst, sym, ap, inl, inr}
use Rattle.plan.specs.Lists.{At}
use Rattle.plan.specs.Plan.{Table, Is, kind}
use Rattle.plan.specs.Fit.{Fit}
use Rattle.moves.specs.Drill.{Drill, drill_of}
use Rattle.moves.specs.Moves.{Stand, Move, records, runs, repeats, chooses, goes_on, does_it, Reach, stay, then, StepsOf}
use Rattle.moves.proofs.Laws.Moves.{Cells, moved, end-found, ends_there}

at_last : (l : List ℕ) (c i s : ℕ) → At (l ++ c ∷ []) i s → At l i s ⊎ (s ≡ c)
at_last [] c zero s h = inr h
at_last [] c (suc i) s h = absurd h
at_last (x ∷ l) c zero s h = inl h
at_last (x ∷ l) c (suc i) s h = at_last l c i s h

module _ (t : Table) (bs : List ℕ) (fit : Fit t) where
  one_more : {p q : Stand} → Cells t bs fit p.todo → StepsOf t p.steps → Move t bs p q → StepsOf t q.steps
  one_more g h (records {c = c} {ss = ss} e l) =
      λ i s a. elim (at_last ss c i s a) [ inl b ↦ h i s b | inr b ↦ subst (λ (x : ℕ). Is t x × (kind t x ≡ 1)) (sym b) (g.0, e) ]
  one_more g h (runs e) = h
  one_more g h (repeats a e b) = h
  one_more g h (chooses a s e b x) = h
  one_more g h (goes_on e b) = h
  one_more g h (does_it e b) = h

  all : {p q : Stand} → Cells t bs fit p.todo → StepsOf t p.steps → Reach t bs p q → StepsOf t q.steps
  all g h stay = h
  all g h (then m w) = all (moved t bs fit g m).cells (one_more g h m) w

  pub steps_are : StepsOf t (drill_of t bs).steps
  steps_are =
      let e = end-found t bs fit in
      subst (StepsOf t) (sym (ap (λ (d : Drill). d.steps) (ends_there t bs fit e.reached e.stops))) (all (fit.some_cell, tt) (λ i s h. absurd h) e.reached)

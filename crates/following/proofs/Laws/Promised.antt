-- E12's sentences, of what a drill answers and leaves in its list. Assumes nothing.
use Rattle.std.specs.Prelude.{◌≡◌, List, ◌++◌, ◌↔◌, ℕ, length, take, drop, Result, Ok, Err}
use Rattle.std.proofs.Math.Path.{refl, sym, ap}
use Rattle.std.proofs.Common.{◌∙◌, eq-eqb, ne_eqb}
use Rattle.plan.specs.Plan.{Table}
use Rattle.plan.specs.Fit.{Fit}
use Rattle.plan.specs.Questions.{drill, none, refusal, drill_given}
use Rattle.plan.proofs.Laws.Answered.{answered_none, answered_some}
use Rattle.plan.specs.declared.Refusal.{Refusal}
use Rattle.moves.specs.Drill.{Outcome, finished, spent, wrong, full, Drill, drill_of}
use Rattle.moves.specs.Moves.{Stand, Reached, Stops, Ends, used_at}
use Rattle.moves.proofs.Laws.Moves as moves
use Rattle.moves.proofs.Laws.Beyond as beyond
use Rattle.following.specs.declared.Drilled.{Drilled}
use Rattle.following.specs.declared.Drilled.TheVariants.{Finished, Spent, Wrong, Full}
use Rattle.following.specs.Drilled.{told_as, drill_told, list_after, Drills, Tells}
use Rattle.following.proofs.Laws.Drilled.{asks}

-- which outcome an answer tells
outcome_in : Result Drilled Refusal → Outcome
outcome_in (Ok (Finished u n)) = finished
outcome_in (Ok (Spent u n)) = spent
outcome_in (Ok (Wrong u n)) = wrong
outcome_in (Ok (Full u n)) = full
outcome_in (Err r) = finished

outcome-told : (o : Outcome) (u n : ℕ) → outcome_in (Ok (told_as o u n)) ≡ o
outcome-told finished u n = unfold outcome_in in refl
outcome-told spent u n = unfold outcome_in in refl
outcome-told wrong u n = unfold outcome_in in refl
outcome-told full u n = unfold outcome_in in refl

module _ (t : Table) (bs xs xs' : List ℕ) (r : Result Drilled Refusal) (g : Drills t bs xs xs' r) where
  abbrev why : Refusal
  why = refusal drill (drill_given t (length bs) (length xs))

  -- a refusal is answered by its number and cell, and leaves the list as it was
  pub unchanged : ¬ (why.number ≡ 0) → (r ≡ Err why) × (xs' ≡ xs)
  unfolding list_after
  unchanged z = (g.answer ∙ answered_some why _ z, g.list ∙ rw (ne_eqb why.number 0 z))

  -- ---- where no question refuses
  module _ (z : why ≡ none) where
    abbrev zero_is : why.number ≡ 0
    zero_is = ap (λ (x : Refusal). x.number) z

    pub fit : Fit t
    fit = (asks t bs xs zero_is).0

    pub gives : (r ≡ Ok (drill_told (drill_of t bs))) × (xs' ≡ (drill_of t bs).steps ++ drop (length (drill_of t bs).steps) xs)
    unfolding list_after
    gives = (g.answer ∙ answered_none why _ zero_is, g.list ∙ rw (eq-eqb why.number 0 zero_is))

    -- an outcome is answered exactly when the moves stop so
    pub exactly : (o : Outcome) → Tells o r ↔ Ends t bs o
    unfolding drill_told
    exactly o = ((λ h. (moves.ends_exactly t bs fit o).0 (is h)), λ h. tells ((moves.ends_exactly t bs fit o).1 h))
      where
        is : Tells o r → (drill_of t bs).outcome ≡ o
        is h = sym (outcome-told (drill_of t bs).outcome (drill_of t bs).used (length (drill_of t bs).steps)) ∙ ap outcome_in (sym gives.0 ∙ h.is) ∙ outcome-told o h.used h.records

        tells : (drill_of t bs).outcome ≡ o → Tells o r
        tells e = record { used = (drill_of t bs).used; records = length (drill_of t bs).steps; is = gives.0 ∙ ap (λ (x : Outcome). Ok (told_as x (drill_of t bs).used (length (drill_of t bs).steps))) e }

    -- where the moves stop, there are the bytes used and the records
    pub stops_there : (o : Outcome) (p : Stand) → Reached t bs p → Stops t bs o p
        → (r ≡ Ok (told_as o (used_at o p.used) (length p.steps))) × (xs' ≡ p.steps ++ drop (length p.steps) xs)
    unfolding drill_told
    stops_there o p w s =
        let e = moves.ends_there t bs fit w s in
        (gives.0 ∙ rw e, gives.1 ∙ rw e)

-- two calls whose answers agree in the bytes that the first one used
pub beyond_used : (t : Table) (bs cs xs xs' ys : List ℕ) (r q : Result Drilled Refusal) → Drills t bs xs xs' r → Drills t cs xs ys q
    → refusal drill (drill_given t (length bs) (length xs)) ≡ none → refusal drill (drill_given t (length cs) (length xs)) ≡ none
    → ¬ Tells spent r → take (drill_of t bs).used cs ≡ take (drill_of t bs).used bs → (q ≡ r) × (ys ≡ xs')
beyond_used t bs cs xs xs' ys r q g h z y n e =
    let a = gives t bs xs xs' r g z in
    let b = gives t cs xs ys q h y in
    let same : drill_of t cs ≡ drill_of t bs = beyond.bytes-beyond t (fit t bs xs xs' r g z) bs cs (λ o. n ((exactly t bs xs xs' r g z spent).1 ((moves.ends_exactly t bs (fit t bs xs xs' r g z) spent).0 o))) e in
    (b.0 ∙ ap (λ (d : Drill). Ok (drill_told d)) same ∙ sym a.0, b.1 ∙ ap (λ (d : Drill). d.steps ++ drop (length d.steps) xs) same ∙ sym a.1)

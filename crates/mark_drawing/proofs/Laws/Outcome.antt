-- The outcome, from what the reader and Mark answer. Assumes nothing.
use Rattle.std.proofs.Math.Path.{◌≡◌, ap}
use Rattle.std.specs.Prelude.{refl, Bool, true, false, ◌&&◌, cond, List, ℕ, ◌*◌, leb, ℤ, pos, length, Result, Ok, Err, IsErrAnd, ⊤}
use Rattle.std.proofs.Common.{◌∙◌, arith, le-leb, leb-true}
use Rattle.std.proofs.lemmas.List.{length-replicate}
use Rattle.plan.specs.Limits.{most_cells, scratch_size}
use Rattle.plan.specs.Plan.{Table}
use Rattle.plan.specs.Questions.{mark, refusal, mark_given}
use Rattle.listing.specs.Printed.{Bytes}
use Rattle.drawing_spec.specs.Said.{Said, placed_at, wrong, said}
use Rattle.drawing_spec.specs.declared.Fault.TheVariants.{Long}
use Rattle.plan.specs.declared.Refusal.{Refusal}
use Rattle.drawing_spec.specs.declared.DrawError.{DrawError}
use Rattle.drawing_spec.specs.declared.DrawError.TheVariants.{Wrong, Refused}
use Rattle.drawing.specs.Drawn.{most_text, drawn_of, positions_after, Draws}
use Rattle.mark_spec.specs.Marked.{marked_of, Marks}
use Rattle.mark_spec.specs.declared.Marked.{Marked}
use Rattle.mark_drawing.specs.Outcome.{no_places, mark_at, taken, by_said, outcome}

mark-is : (t : Table) (al : ℕ) (ps : List ℤ) (s s' : List ℕ) (m : Result Marked Refusal) → Marks t ps al s s' m → length s ≡ scratch_size → m ≡ mark_at t al ps
unfolding mark_at
mark-is t al ps s s' m g e = g.answers ∙ ap (λ k. marked_of t ps al (refusal mark (mark_given t ps al k))) e

room : (n : ℕ) → leb n most_cells ≡ true → leb (2 * n) (length no_places) ≡ true
room n e = le-leb (2 * n) (length no_places) (rw (length-replicate {A = ℤ} (2 * most_cells) (pos 0)) (omega (arith, leb-true n most_cells e)))

-- what `?` hands on, of the reader's error and of Mark's refusal
handed : (y : Result Marked DrawError) (e : DrawError) → IsErrAnd y (λ d. d ≡ e) → y ≡ Err e
handed (Ok m) e p = absurd p
handed (Err d) e p = ap Err p

module _ (n : ℕ) (t : Table) (al : ℕ) (text : Bytes) (ps' : List ℤ) where
  -- by the three tests and what the text says
  module _ (r : Result ⊤ DrawError) (d : Draws n text no_places ps' r) (P : Result Marked DrawError → Type 0) where
    cases : ((a b c : Bool) (x : Said) → (a ≡ true → b ≡ true)
        → r ≡ cond a (cond b (cond c (drawn_of x) (Err (Wrong Long))) (Err (Refused (record { number = 1; cell = 0 })))) (Err (Refused (record { number = 4; cell = 0 })))
        → ps' ≡ cond (a && b && c) (positions_after n x no_places) no_places
        → P (cond a (cond c (by_said n t al x) (Err (Wrong Long))) (Err (Refused (record { number = 4; cell = 0 }))))) → P (outcome n t al text)
    unfolding outcome
    cases f = f (leb n most_cells) (leb (2 * n) (length no_places)) (leb (length text) most_text) (said n text) (room n) d.answers d.positions

  -- the text says a drawing: Mark's answer
  outcome_placed : (u : ⊤) → Draws n text no_places ps' (Ok u) → (s s' : List ℕ) (m : Result Marked Refusal) → Marks t ps' al s s' m → length s ≡ scratch_size → taken m ≡ outcome n t al text
  unfolding drawn_of positions_after by_said
  outcome_placed u d s s' m g l = cases (Ok u) d (λ o. taken m ≡ o) go
    where
      at : (x : Said) → Ok u ≡ drawn_of x → ps' ≡ positions_after n x no_places → taken m ≡ by_said n t al x
      at (placed_at qs) q p = rw p at (ap taken (mark-is t al ps' s s' m g l))
      at (wrong f) q p = cc

      go : (a b c : Bool) (x : Said) → (a ≡ true → b ≡ true)
          → Ok u ≡ cond a (cond b (cond c (drawn_of x) (Err (Wrong Long))) (Err (Refused (record { number = 1; cell = 0 })))) (Err (Refused (record { number = 4; cell = 0 })))
          → ps' ≡ cond (a && b && c) (positions_after n x no_places) no_places
          → taken m ≡ cond a (cond c (by_said n t al x) (Err (Wrong Long))) (Err (Refused (record { number = 4; cell = 0 })))
      go true true true x k q p = at x q p
      go true true false x k q p = cc
      go true false c x k q p = cc
      go false b c x k q p = cc

  -- it does not: the reader's error
  outcome_wrong : (e : DrawError) → Draws n text no_places ps' (Err e) → Err e ≡ outcome n t al text
  unfolding drawn_of by_said
  outcome_wrong e d = cases (Err e) d (λ o. Err e ≡ o) go
    where
      at : (x : Said) → ◌≡◌ {A = Result ⊤ DrawError} (Err e) (drawn_of x) → Err e ≡ by_said n t al x
      at (placed_at qs) q = cc
      at (wrong g) q = let z : e ≡ Wrong g = cc in ap Err z

      go : (a b c : Bool) (x : Said) → (a ≡ true → b ≡ true)
          → ◌≡◌ {A = Result ⊤ DrawError} (Err e) (cond a (cond b (cond c (drawn_of x) (Err (Wrong Long))) (Err (Refused (record { number = 1; cell = 0 })))) (Err (Refused (record { number = 4; cell = 0 }))))
          → ps' ≡ cond (a && b && c) (positions_after n x no_places) no_places
          → Err e ≡ cond a (cond c (by_said n t al x) (Err (Wrong Long))) (Err (Refused (record { number = 4; cell = 0 })))
      go true true true x k q p = at x q
      go true true false x k q p = let z : e ≡ Wrong Long = cc in ap Err z
      go true false c x k q p = let z : ◌≡◌ {A = Bool} false true = k refl in let y : ◌≡◌ {A = ℕ} 0 1 = cc in absurd (omega arith)
      go false b c x k q p = let z : e ≡ Refused (record { number = 4; cell = 0 }) = cc in ap Err z

  pub outcome-wrong : (e : DrawError) → Draws n text no_places ps' (Err e) → (y : Result Marked DrawError) → IsErrAnd y (λ d. d ≡ e) → y ≡ outcome n t al text
  outcome-wrong e d y p = handed y e p ∙ outcome_wrong e d

  module _ (u : ⊤) (d : Draws n text no_places ps' (Ok u)) (s s' : List ℕ) (l : length s ≡ scratch_size) where
    pub outcome-marked : (m : Marked) → Marks t ps' al s s' (Ok m) → Ok m ≡ outcome n t al text
    unfolding taken
    outcome-marked m g = outcome_placed u d s s' (Ok m) g l

    pub outcome-refused : (e : Refusal) → Marks t ps' al s s' (Err e) → (y : Result Marked DrawError) → IsErrAnd y (λ d. d ≡ Refused e) → y ≡ outcome n t al text
    unfolding taken
    outcome-refused e g y p = handed y (Refused e) p ∙ outcome_placed u d s s' (Err e) g l

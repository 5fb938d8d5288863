-- Every pass through a cell ends the drill, or uses an answer, or records a step: so no drill goes on for ever. Assumes nothing.
use Rattle.std.specs.Prelude.{◌≡◌, ◌⊎◌, Bool, length, get_or, T}
use Rattle.std.proofs.Math.Path.{refl}
use Rattle.std.proofs.Math.Logic.{inl, inr}
use mathlib.Core.List.{List, [], ◌∷◌}
use Rattle.std.proofs.Math.Bool.{true, false}
use Prim.Native.Nat.{ℕ, zero, suc, ◌+◌, ◌≤◌, ◌<◌}
use Rattle.std.proofs.Common.{arith, ltb-true}
use Rattle.std.proofs.Math.ListN.{length-append}
use Rattle.std.proofs.Math.Dec.{ltb}
use Rattle.plan.specs.Limits.{most_level, most_steps}
use Rattle.plan.specs.Lists.{At}
use Rattle.plan.proofs.Laws.Lists.{at_get_or}
use Rattle.plan.specs.Plan.{Table, Is, kind, children, level}
use Rattle.plan.proofs.Laws.Plan.{child-read}
use Rattle.plan.proofs.Laws.Trees.{level-child}
use Rattle.plan.specs.Kinds.{allows}
use Rattle.plan.specs.Fit.{Fit}
use Rattle.moves.specs.Drill.{Outcome, finished, spent, wrong, full, Drill, HasEnded, unless_ended, recorded, taken, in_order, times, chosen, waited, by_kind, does, doing}
use Rattle.moves.specs.Moves.{tally, Spends}
use Rattle.moves.proofs.Laws.Drill.{does-ended, no_kind, no-kind-more, run-children}

abbrev Holds : Drill → Drill → Type 0
Holds d e = HasEnded e.outcome ⊎ (tally d ≤ tally e)

unless_spends : (o : Outcome) (f : Drill → Drill) (d : Drill) → (HasEnded o → HasEnded d.outcome) → Spends d (f d) → Spends d (unless_ended o f d)
unless_spends finished f d k h = h
unless_spends spent f d k h = inl (k tt)
unless_spends wrong f d k h = inl (k tt)
unless_spends full f d k h = inl (k tt)

module _ (t : Table) (fit : Fit t) (bs : List ℕ) where
  module _ (n : ℕ) where
    abbrev f : ℕ → Drill → Drill
    f = does t bs n

    order_ended : (cs : List ℕ) (d : Drill) → HasEnded d.outcome → HasEnded (in_order f cs d).outcome
    unfolding in_order
    order_ended [] d h = h
    order_ended (c ∷ cs) d h = order_ended cs (f c d) (rw (does-ended t bs n c d h) h)

    module _ (cs : List ℕ) (each : (i s : ℕ) → At cs i s → (d : Drill) → Spends d (f s d)) where
      order_holds_from : (l : List ℕ) → ((i s : ℕ) → At l i s → (d : Drill) → Spends d (f s d)) → (d : Drill) → Holds d (in_order f l d)
      unfolding in_order
      order_holds_from [] h d = inr (omega arith)
      order_holds_from (c ∷ l) h d = go (h 0 c refl d) (order_holds_from l (λ i. h (suc i)) (f c d))
        where
          go : Spends d (f c d) → Holds (f c d) (in_order f l (f c d)) → Holds d (in_order f l (f c d))
          go (inl e) k = inl (order_ended l (f c d) e)
          go (inr l) (inl e) = inl e
          go (inr l) (inr m) = inr (omega arith)

      order_holds : (d : Drill) → Holds d (in_order f cs d)
      order_holds d = order_holds_from cs each d

      order_spends_from : (l : List ℕ) → ((i s : ℕ) → At l i s → (d : Drill) → Spends d (f s d)) → 1 ≤ length l → (d : Drill) → Spends d (in_order f l d)
      unfolding in_order
      order_spends_from [] h k d = absurd (omega arith)
      order_spends_from (c ∷ l) h k d = go (h 0 c refl d) (order_holds_from l (λ i. h (suc i)) (f c d))
        where
          go : Spends d (f c d) → Holds (f c d) (in_order f l (f c d)) → Spends d (in_order f l (f c d))
          go (inl e) k = inl (order_ended l (f c d) e)
          go (inr l) (inl e) = inl e
          go (inr l) (inr m) = inr (omega arith)

      times-ended : (a : ℕ) (d : Drill) → HasEnded d.outcome → HasEnded (times a (in_order f cs) d).outcome
      unfolding times
      times-ended zero d h = h
      times-ended (suc a) d h = times-ended a (in_order f cs d) (order_ended cs d h)

      times-holds : (a : ℕ) (d : Drill) → Holds d (times a (in_order f cs) d)
      unfolding times
      times-holds zero d = inr (omega arith)
      times-holds (suc a) d = go (order_holds d) (times-holds a (in_order f cs d))
        where
          go : Holds d (in_order f cs d) → Holds (in_order f cs d) (times a (in_order f cs) (in_order f cs d)) → Holds d (times a (in_order f cs) (in_order f cs d))
          go (inl e) k = inl (times-ended a (in_order f cs d) e)
          go (inr l) (inl e) = inl e
          go (inr l) (inr m) = inr (omega arith)

      chosen-holds : (a : ℕ) (d : Drill) → Holds d (chosen f cs a d)
      unfolding chosen
      chosen-holds a d = go (ltb a (length cs)) refl
        where
          on : (e : Drill) → Spends d e → Holds d e
          on e (inl x) = inl x
          on e (inr x) = inr (omega arith)

          go : (b : Bool) → ltb a (length cs) ≡ b → Holds d (chosen f cs a d)
          go true q = rw (q, chosen) (on (f (get_or cs a 0) d) (each a (get_or cs a 0) (at_get_or cs a 0 (ltb-true a (length cs) q)) d))
          go false q = rw (q, chosen) (inl tt)

      waited-holds : (a : ℕ) (d : Drill) → Holds d (waited f cs a d)
      unfolding waited
      waited-holds zero d = inr (omega arith)
      waited-holds (suc zero) d = order_holds d
      waited-holds (suc (suc a)) d = inl tt

      -- a byte is used
      taken_spends : (g : ℕ → Drill → Drill) → ((a : ℕ) (d : Drill) → Holds d (g a d)) → (d : Drill) → Spends d (taken bs g d)
      unfolding taken
      taken_spends g h d = go (ltb d.used (length bs)) refl
        where
          d' : Drill
          d' = record { outcome = finished; used = suc d.used; steps = d.steps }

          on : (e : Drill) → Holds d' e → Spends d e
          on e (inl x) = inl x
          on e (inr x) = inr (omega arith)

          go : (b : Bool) → ltb d.used (length bs) ≡ b → Spends d (taken bs g d)
          go true q = rw (q, taken) (on (g (get_or bs d.used 0) d') (h (get_or bs d.used 0) d'))
          go false q = rw (q, taken) (inl tt)

      recorded_spends : (c : ℕ) (d : Drill) → Spends d (recorded c d)
      unfolding recorded
      recorded_spends c d = go (ltb (length d.steps) most_steps) refl
        where
          go : (b : Bool) → ltb (length d.steps) most_steps ≡ b → Spends d (recorded c d)
          go true q = rw (q, recorded) (inr (omega (arith, length-append d.steps (c ∷ []))))
          go false q = rw (q, recorded) (inl tt)

      kind_spends : (k c : ℕ) → T (allows k (length cs)) → (d : Drill) → Spends d (by_kind bs f k c cs d)
      unfolding by_kind
      kind_spends zero c h d = absurd (no_kind (length cs) h)
      kind_spends (suc zero) c h d = recorded_spends c d
      kind_spends (suc (suc zero)) c h d = order_spends_from cs each (run-children h) d
      kind_spends (suc (suc (suc zero))) c h d = taken_spends _ times-holds d
      kind_spends (suc (suc (suc (suc zero)))) c h d = taken_spends (chosen f cs) chosen-holds d
      kind_spends (suc (suc (suc (suc (suc zero))))) c h d = taken_spends (waited f cs) waited-holds d
      kind_spends (suc (suc (suc (suc (suc (suc k)))))) c h d = absurd (no-kind-more k (length cs) h)

  spends : (n c : ℕ) → Is t c → most_level < level t c + n → (d : Drill) → Spends d (does t bs n c d)
  unfolding does
  spends zero c i l d = absurd (omega (arith, fit.not_too_low c i))
  spends (suc n) c i l d =
      unless_spends d.outcome _ d (λ x. x)
      (kind_spends n (children t c) (λ j s h. spends n s (child-read t c j s h).is (omega (arith, level-child t fit.sound c j s h))) (kind t c) c (fit.family c i) d)

  -- THEOREM: a pass through a cell ends the drill, or uses an answer or records a step
  pub every_pass : (c : ℕ) → Is t c → (d : Drill) → Spends d (doing t bs c d)
  every_pass c i d = spends (suc most_level) c i (omega arith) d

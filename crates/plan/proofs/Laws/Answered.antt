-- Code that answers nothing or the refusal, and stops at the first refusal by `?`. Assumes nothing.
use Rattle.std.specs.Prelude.{◌≡◌, Result, Ok, Err, IsErrAnd, ⊤}
use Rattle.std.proofs.Math.Path.{refl, ap}
use Rattle.std.proofs.Common.{sym, ◌∙◌, eq-eqb, ne_eqb}
use Prim.Native.Nat.{ℕ, ◌+◌, ◌-◌, ◌≤◌, ◌<◌}
use Rattle.std.proofs.Math.Decide.{ℕ_discrete}
use Rattle.plan.specs.declared.Refusal.{Refusal}
use Rattle.plan.specs.Questions.{none, or_else, at_each, answered, passed}
use Rattle.plan.proofs.Laws.Questions.{first-none, first_some, each-stops, each-goes_on, each-ends}

module _ {A : Type 0} (r : Refusal) (v : A) where
  pub answered_none : r.number ≡ 0 → answered r v ≡ Ok v
  unfolding answered
  answered_none h = rw (eq-eqb r.number 0 h)

  pub answered_some : ¬ (r.number ≡ 0) → answered r v ≡ Err r
  unfolding answered
  answered_some h = rw (ne_eqb r.number 0 h)

  -- a refusal that is answered is that of the questions, and not none
  pub refused_by : (e : Refusal) → Err e ≡ answered r v → (e ≡ r) × ¬ (r.number ≡ 0)
  refused_by e h = go (ℕ_discrete r.number 0)
    where
      go : Dec (r.number ≡ 0) → (e ≡ r) × ¬ (r.number ≡ 0)
      go (yes z) = cc (h ∙ answered_none z)
      go (no z) = (cc (h ∙ answered_some z), z)

  -- an answer is given where nothing is refused
  pub not_refused : (w : A) → Ok w ≡ answered r v → r.number ≡ 0
  not_refused w h = go (ℕ_discrete r.number 0)
    where
      go : Dec (r.number ≡ 0) → r.number ≡ 0
      go (yes z) = z
      go (no z) = cc (h ∙ answered_some z)

that_err : {A : Type 0} (y : Result A Refusal) (e : Refusal) → IsErrAnd y (λ d. d ≡ e) → y ≡ Err e
that_err (Ok v) e p = absurd p
that_err (Err d) e p = ap Err p

-- ---- questions whose refusal is r have been put. In the arm of `?` for a refusal e, which hands on y
module _ {A : Type 0} (v : A) (r e : Refusal) (y : Result A Refusal) (h : Err e ≡ passed r) (p : IsErrAnd y (λ d. d ≡ e)) where
  -- a call that asks nothing else answers it
  pub answers_err : y ≡ answered r v
  answers_err = let f = refused_by r tt e h in that_err y e p ∙ ap Err f.0 ∙ sym (answered_some r v f.1)

  -- of a call that asks more, it is the first
  pub err_stops : (b : Refusal) → y ≡ answered (or_else r b) v
  err_stops b = answers_err ∙ ap (λ a. answered a v) (sym (first_some r b (refused_by r tt e h).1))

-- in the arm for no refusal
module _ (r : Refusal) (u : ⊤) (h : Ok u ≡ passed r) where
  pub passes : r.number ≡ 0
  passes = not_refused r tt u h

  module _ {A : Type 0} (v : A) where
    pub answers_ok : Ok v ≡ answered r v
    answers_ok = sym (answered_none r v passes)

    pub ok_goes_on : (b : Refusal) (y : Result A Refusal) → y ≡ answered b v → y ≡ answered (or_else r b) v
    ok_goes_on b y q = q ∙ ap (λ a. answered a v) (sym (first-none r b passes))

-- ---- a loop over n cells that has passed c of them
module _ (f : ℕ → Refusal) (c n : ℕ) (before : at_each f 0 n ≡ at_each f c (n - c)) where
  pub each_err : (e : Refusal) (y : Result ⊤ Refusal) → c < n → Err e ≡ passed (f c) → IsErrAnd y (λ d. d ≡ e) → y ≡ passed (at_each f 0 n)
  each_err e y l h p = answers_err tt (f c) e y h p ∙ ap passed (sym (before ∙ each-stops f c n l (refused_by (f c) tt e h).1))

  pub each_ok : (u : ⊤) → c < n → Ok u ≡ passed (f c) → at_each f 0 n ≡ at_each f (c + 1) (n - (c + 1))
  each_ok u l h = before ∙ each-goes_on f c n l (passes (f c) u h)

  pub all_ok : n ≤ c → Ok tt ≡ passed (at_each f 0 n)
  all_ok l = sym (ap passed (before ∙ each-ends f c n l) ∙ answered_none none tt refl)

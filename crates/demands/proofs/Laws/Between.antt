-- A refusal whose number is 0 is none at all: of a call, and of a join. Nothing that a reader must believe stands here. Assumes nothing.
use Rattle.std.specs.Prelude.{◌≡◌, ◌⊎◌, ℕ}
use Rattle.std.proofs.Math.Path.{refl, ap}
use Rattle.std.proofs.Common.{◌∙◌, inl, inr}
use mathlib.Core.List.{List, [], ◌∷◌}
use Rattle.std.proofs.Math.Decide.{ℕ_discrete}
use Rattle.plan.specs.Plan.{Table}
use Rattle.plan.specs.Questions.{Call, Given, none, kept, sequence, or_else, take_step, refusal}
use Rattle.plan.proofs.Laws.Questions.{both-none}
use Rattle.plan.proofs.Laws.Kept.{none_first}
use Rattle.plan.specs.declared.Refusal.{Refusal}
use Rattle.least.proofs.Laws.Refusals.{step-read, step_show, steps-read, steps_show}
use Rattle.plan.specs.declared.Record.{Record}
use Rattle.planfile_spec.specs.Reading.{label_refusal}
use Rattle.content.specs.Clean.{copy_refusal}
use Rattle.graft.specs.Sequence.{Asks, of, join_sequence, join_given, ask_one, ask_all, join_refusal}

pub number-none : (call : Call) (g : Given) → (refusal call g).number ≡ 0 → refusal call g ≡ none
unfolding refusal
number-none call g z = steps_show g (kept call sequence) (steps-read g (kept call sequence) z)

module _ (room : ℕ) (t u : Table) (c : ℕ) where
  asks_none : (asks : List Asks) → (ask_all room t u c asks).number ≡ 0 → ask_all room t u c asks ≡ none
  unfolding ask_all ask_one
  asks_none [] z = refl
  asks_none (of w s ∷ rest) z =
      let g = join_given room t u c w in
      let (a, b) = both-none (take_step g s) _ z in
      ap (λ (x : Refusal). or_else x (ask_all room t u c rest)) (step_show g s (step-read g s a)) ∙ none_first _ ∙ asks_none rest b

  pub join-number-none : (join_refusal room t u c).number ≡ 0 → join_refusal room t u c ≡ none
  unfolding join_refusal
  join-number-none z = asks_none join_sequence z

-- one of the two
either_of : (r : Refusal) → (r.number ≡ 0 → r ≡ none) → (r ≡ none) ⊎ (¬ (r.number ≡ 0))
either_of r h = go (ℕ_discrete r.number 0)
  where
    go : Dec (r.number ≡ 0) → (r ≡ none) ⊎ (¬ (r.number ≡ 0))
    go (yes z) = inl (h z)
    go (no z) = inr z

pub none_or_refused : (call : Call) (g : Given) → (refusal call g ≡ none) ⊎ (¬ ((refusal call g).number ≡ 0))
none_or_refused call g = either_of (refusal call g) (number-none call g)

pub join_none_or_refused : (room : ℕ) (t u : Table) (c : ℕ) → (join_refusal room t u c ≡ none) ⊎ (¬ ((join_refusal room t u c).number ≡ 0))
join_none_or_refused room t u c = either_of (join_refusal room t u c) (join-number-none room t u c)

pub label_none_or_refused : (f : List ℕ) (c : ℕ) → (label_refusal f c ≡ none) ⊎ (¬ ((label_refusal f c).number ≡ 0))
unfolding label_refusal
label_none_or_refused f c = none_or_refused _ _

pub copy_none_or_refused : (rs : List Record) (letters : List ℕ) (al room : ℕ) → (copy_refusal rs letters al room ≡ none) ⊎ (¬ ((copy_refusal rs letters al room).number ≡ 0))
unfolding copy_refusal
copy_none_or_refused rs letters al room = none_or_refused _ _

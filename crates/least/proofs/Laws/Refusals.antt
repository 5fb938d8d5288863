-- A call refuses nothing exactly where each question that it puts is answered yes. Assumes nothing.
use Rattle.std.specs.Prelude.{◌≡◌, Bool, cond, ◌↔◌, ℕ, length, eqb}
use Rattle.std.proofs.Math.Path.{refl}
use Rattle.std.proofs.Common.{ap, ◌∙◌}
use mathlib.Core.List.{List, [], ◌∷◌}
use Rattle.std.proofs.Math.Bool.{true, false}
use Rattle.std.proofs.Math.Dec.{T, eqb_refl}
use Rattle.whole.proofs.Laws.Says.{itself, is_true}
use Rattle.plan.specs.Questions as asked
use Rattle.plan.specs.Questions.{Call, Given, Question, Step, once, each, number, kept, sequence, none, ask, ask_all, take_step, take_steps, refusal}
use Rattle.plan.proofs.Laws.Questions.{both-none, each_none, each_same}
use Rattle.plan.proofs.Laws.Kept.{none_first, each-nothing}
use Rattle.plan.specs.declared.Refusal.{Refusal}
use Rattle.least.specs.Refusals.{Yes, YesStep, YesSteps}

-- ---- the first "no" of several
abbrev pub Passes : Refusal → Type 0
Passes r = r.number ≡ 0

-- no question has the number 0
zero_number : (q : Question) → T (eqb (number q) 0) → ⊥
unfolding number
zero_number asked.buffers_long h = h
zero_number _ h = elim h [ ]

pub not_zero : (q : Question) → ¬ (number q ≡ 0)
not_zero q e = zero_number q (rw e (eqb_refl 0))

module _ (g : Given) where
  pub ask-read : (q : Question) (c : ℕ) → Passes (ask g q c) → T (asked.holds g q c)
  unfolding ask asked.asked
  ask-read q c h = go (asked.holds g q c) h
    where
      go : (v : Bool) → Passes (cond v none (record { number = number q; cell = c })) → T v
      go true h = tt
      go false h = absurd (not_zero q h)

  pub ask_show : (q : Question) (c : ℕ) → T (asked.holds g q c) → ask g q c ≡ none
  unfolding ask asked.asked
  ask_show q c h = rw (is_true (itself (asked.holds g q c)) h, ask, asked.asked)

  pub all_read : (qs : List Question) (c : ℕ) → Passes (ask_all g qs c) → Yes g qs c
  unfolding ask_all
  all_read [] c h = tt
  all_read (q ∷ qs) c h = let (a, b) = both-none (ask g q c) _ h in (ask-read q c a, all_read qs c b)

  pub all_show : (qs : List Question) (c : ℕ) → Yes g qs c → ask_all g qs c ≡ none
  unfolding ask_all
  all_show [] c y = refl
  all_show (q ∷ qs) c y = rw (ask_show q c y.0, all_show qs c y.1) (none_first none)

  pub step-read : (s : Step) → Passes (take_step g s) → YesStep g s
  unfolding take_step
  step-read (once q) h = ask-read q 0 h
  step-read (each qs) h = λ c i. all_read qs c (each_none (ask_all g qs) (length g.table) h c i)

  pub step_show : (s : Step) → YesStep g s → take_step g s ≡ none
  unfolding take_step
  step_show (once q) y = ask_show q 0 y
  step_show (each qs) y = each_same (ask_all g qs) (λ _. none) (length g.table) (λ c i. all_show qs c (y c i)) ∙ each-nothing (λ _. none) 0 (length g.table) (λ _. refl)

  pub steps-read : (ss : List Step) → Passes (take_steps g ss) → YesSteps g ss
  unfolding take_steps
  steps-read [] h = tt
  steps-read (s ∷ ss) h = let (a, b) = both-none (take_step g s) _ h in (step-read s a, steps-read ss b)

  pub steps_show : (ss : List Step) → YesSteps g ss → take_steps g ss ≡ none
  unfolding take_steps
  steps_show [] y = refl
  steps_show (s ∷ ss) y = rw (step_show s y.0, steps_show ss y.1) (none_first none)

pub refusal-none : (call : Call) (g : Given) → (refusal call g ≡ none) ↔ YesSteps g (kept call sequence)
unfolding refusal
refusal-none call g = (λ e. steps-read g (kept call sequence) (ap (λ (r : Refusal). r.number) e), steps_show g (kept call sequence))

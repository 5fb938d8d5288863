-- A join's refusal is the first "no" of its sequence. Assumes nothing.
use Rattle.std.specs.Prelude.{◌≡◌, ◌↔◌, ℕ, ◌≤◌}
use Rattle.std.proofs.Math.Path.{refl, ap}
use Rattle.std.proofs.Common.{sym, ◌∙◌, arith}
use mathlib.Core.List.{List, [], ◌∷◌, ◌++◌}
use Rattle.std.proofs.Math.Decide.{ℕ_discrete}
use Rattle.plan.specs.Plan.{Table}
use Rattle.plan.specs.Questions.{Given, Step, none, or_else, take_step, take_steps}
use Rattle.plan.proofs.Laws.Questions.{first-none, first_some, both-none}
use Rattle.plan.proofs.Laws.Kept.{none_first}
use Rattle.plan.specs.declared.Refusal.{Refusal}
use Rattle.least.specs.FirstNo.{FirstNoOf}
use Rattle.least.proofs.Laws.FirstNo.{steps_find, found_refuses}
use Rattle.least.proofs.Laws.Refusals.{step-read, step_show}
use Rattle.graft.specs.Sequence.{Asks, of, join_sequence, join_given, ask_one, ask_all, join_refusal}
use Rattle.graft.specs.FirstNo.{YesAll, JoinFirstNoOf, JoinFirstNo}

abbrev no_at : ℕ → ℕ → Refusal
no_at k a = record { number = k; cell = a }

-- one step alone
alone_find : (g : Given) (s : Step) (k a : ℕ) → take_step g s ≡ no_at k a → ¬ (k ≡ 0) → FirstNoOf g (s ∷ []) k a
alone_find g s k a e n = steps_find g (s ∷ []) k a (unfold take_steps in ap (λ (r : Refusal). or_else r none) e ∙ first_some (no_at k a) none n) n

alone_no : (g : Given) (s : Step) (k a : ℕ) → FirstNoOf g (s ∷ []) k a → ¬ (k ≡ 0) → take_step g s ≡ no_at k a
alone_no g s k a f n = go (ℕ_discrete (take_step g s).number 0)
  where
    whole : or_else (take_step g s) none ≡ no_at k a
    whole = unfold take_steps in found_refuses g (s ∷ []) k a f

    go : Dec ((take_step g s).number ≡ 0) → take_step g s ≡ no_at k a
    go (yes z) = absurd (n (ap (λ (r : Refusal). r.number) (sym whole ∙ first-none (take_step g s) none z)))
    go (no z) = sym (first_some (take_step g s) none z) ∙ whole

module _ (room : ℕ) (t u : Table) (c : ℕ) where
  find : (asks : List Asks) (k a : ℕ) → ask_all room t u c asks ≡ no_at k a → ¬ (k ≡ 0) → JoinFirstNoOf room t u c asks k a
  unfolding ask_all ask_one
  find [] k a e n = absurd (n (ap (λ (r : Refusal). r.number) (sym e)))
  find (of w s ∷ rest) k a e n = go (ℕ_discrete (take_step (join_given room t u c w) s).number 0) (λ z. find rest k a z n)
    where
      g : Given
      g = join_given room t u c w

      go : Dec ((take_step g s).number ≡ 0) → (ask_all room t u c rest ≡ no_at k a → JoinFirstNoOf room t u c rest k a) → JoinFirstNoOf room t u c (of w s ∷ rest) k a
      go (yes z) more =
          let f = more (sym (first-none (take_step g s) _ z) ∙ e) in
          record {
            earlier = of w s ∷ f.earlier;
            whose = f.whose;
            step = f.step;
            later = f.later;
            order = ap (λ (l : List Asks). of w s ∷ l) f.order;
            earlier_yes = (step-read g s z, f.earlier_yes);
            no = f.no;
          }
      go (no z) more =
          record { earlier = []; whose = w; step = s; later = rest; order = refl; earlier_yes = tt; no = alone_find g s k a (sym (first_some (take_step g s) _ z) ∙ e) n }

  refuses : (earlier : List Asks) (a : Asks) (later : List Asks) (r : Refusal) → YesAll room t u c earlier → ask_one room t u c a ≡ r → ¬ (r.number ≡ 0)
      → ask_all room t u c (earlier ++ (a ∷ later)) ≡ r
  unfolding ask_all ask_one
  refuses [] a later r y e n = ap (λ (x : Refusal). or_else x (ask_all room t u c later)) e ∙ first_some r _ n
  refuses (of w s ∷ earlier) a later r y e n =
      ap (λ (x : Refusal). or_else x (ask_all room t u c (earlier ++ (a ∷ later)))) (step_show (join_given room t u c w) s y.0) ∙ none_first _ ∙ refuses earlier a later r y.1 e n

  found : (asks : List Asks) (k a : ℕ) → ¬ (k ≡ 0) → JoinFirstNoOf room t u c asks k a → ask_all room t u c asks ≡ no_at k a
  unfolding ask_one
  found asks k a n f =
      rw f.order (refuses f.earlier (of f.whose f.step) f.later (no_at k a) f.earlier_yes (alone_no (join_given room t u c f.whose) f.step k a f.no n) n)

  all_yes : (asks : List Asks) → YesAll room t u c asks → ask_all room t u c asks ≡ none
  unfolding ask_all ask_one
  all_yes [] y = refl
  all_yes (of w s ∷ rest) y = ap (λ (x : Refusal). or_else x (ask_all room t u c rest)) (step_show (join_given room t u c w) s y.0) ∙ none_first _ ∙ all_yes rest y.1

  yes_all : (asks : List Asks) → (ask_all room t u c asks).number ≡ 0 → YesAll room t u c asks
  unfolding ask_all ask_one
  yes_all [] e = tt
  yes_all (of w s ∷ rest) e = let (p, q) = both-none (take_step (join_given room t u c w) s) _ e in (step-read (join_given room t u c w) s p, yes_all rest q)

  pub join-first_no : (k a : ℕ) → 1 ≤ k → (join_refusal room t u c ≡ record { number = k; cell = a }) ↔ JoinFirstNo room t u c k a
  unfolding join_refusal
  join-first_no k a h = (λ e. find join_sequence k a e (λ z. absurd (omega arith)), found join_sequence k a (λ z. absurd (omega arith)))

  pub join-no-no : (join_refusal room t u c ≡ none) ↔ YesAll room t u c join_sequence
  unfolding join_refusal
  join-no-no = (λ e. yes_all join_sequence (ap (λ (r : Refusal). r.number) e), all_yes join_sequence)

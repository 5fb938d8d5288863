-- Label's refusal whose number is 0 is none at all. Assumes nothing.
use Rattle.std.specs.Prelude.{◌≡◌, List, ℕ}
use Rattle.plan.specs.Questions.{label, none, kept, sequence, refusal}
use Rattle.planfile_spec.specs.Reading.{label_refusal}
use Rattle.least.proofs.Laws.Refusals.{steps-read, steps_show}

pub label-none : (f : List ℕ) (c : ℕ) → (label_refusal f c).number ≡ 0 → label_refusal f c ≡ none
unfolding label_refusal refusal
label-none f c z = steps_show _ (kept label sequence) (steps-read _ (kept label sequence) z)

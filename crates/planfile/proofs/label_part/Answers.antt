use mathlib.Core.Path.{◌≡◌, ◌∙◌}
use Rattle.std.specs.Prelude.{List}
use Prim.Native.Nat.{ℕ}
use Rattle.std.proofs.Math.Decide.{ℕ_discrete}
use Rattle.std.specs.Result.{result_unwrap_or}
use Rattle.plan.specs.Questions.{answered}
use Rattle.plan.proofs.Laws.Answered.{answered_none, answered_some}
use Rattle.planfile_spec.specs.Reading.{label_refusal, label_part}
use Rattle.planfile_spec.proofs.Laws.Label.{part_none}
use Rattle.planfile.proofs.label_part.Goals as goal

or_empty : (f : List ℕ) (c : ℕ) → result_unwrap_or (answered (label_refusal f c) (label_part f c)) (record { start = 0; end = 0 }) ≡ label_part f c
or_empty f c = go (ℕ_discrete (label_refusal f c).number 0)
  where
    go : Dec ((label_refusal f c).number ≡ 0) → result_unwrap_or (answered (label_refusal f c) (label_part f c)) (record { start = 0; end = 0 }) ≡ label_part f c
    go (yes z) = rw (answered_none (label_refusal f c) (label_part f c) z)
    go (no z) = rw (answered_some (label_refusal f c) (label_part f c) z, part_none f c z)

pub returns : goal.returns
returns c = c.unwrap_or.ensures ∙ rw c.placed.ensures (or_empty c.args.file.now c.args.cell)

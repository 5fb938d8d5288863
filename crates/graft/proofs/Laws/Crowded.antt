-- A table of more than 256 records is refused by its length alone, as the first of a join or as the second. Assumes nothing.
use Rattle.std.specs.Prelude.{◌≡◌, ℕ, ◌<◌, leb, length}
use Rattle.std.proofs.Common.{ap, ◌∙◌, arith, le-leb}
use Rattle.std.proofs.lemmas.Bool.{lt-leb}
use Rattle.plan.specs.Limits.{most_cells}
use Rattle.plan.specs.Plan.{Table}
use Rattle.plan.specs.Questions.{asked, or_else}
use Rattle.plan.proofs.Laws.Questions.{first_some}
use Rattle.plan.proofs.Laws.Crowded.{crowded}
use Rattle.plan.specs.Steps.{cells_refusal}
use Rattle.plan.specs.declared.Refusal.{Refusal}
use Rattle.graft.specs.Sequence.{join_refusal, counted, part_refusal}
use Rattle.graft.proofs.Laws.Sequence.{join-puts}

not_counted : (n : ℕ) → most_cells < n → counted n ≡ crowded
unfolding asked
not_counted n h = rw (le-leb 1 n (omega arith), lt-leb n most_cells h)

stops : (v : Table) (r : Refusal) → most_cells < length v → or_else (part_refusal v) r ≡ crowded
stops v r h =
    let e : part_refusal v ≡ crowded = ap (λ (x : Refusal). or_else x (cells_refusal v)) (not_counted (length v) h) ∙ first_some crowded _ (omega arith) in
    ap (λ (x : Refusal). or_else x r) e ∙ first_some crowded r (omega arith)

module _ (room c : ℕ) where
  pub first-crowded : (v w : Table) → most_cells < length v → join_refusal room v w c ≡ or_else (asked 1 (leb most_cells room) 0) crowded
  first-crowded v w h = join-puts room v w c ∙ ap (or_else (asked 1 (leb most_cells room) 0)) (stops v _ h)

  pub second-crowded : (v w : Table) → most_cells < length w → join_refusal room v w c ≡ or_else (asked 1 (leb most_cells room) 0) (or_else (part_refusal v) crowded)
  second-crowded v w h = join-puts room v w c ∙ ap (λ (x : Refusal). or_else (asked 1 (leb most_cells room) 0) (or_else (part_refusal v) x)) (stops w _ h)

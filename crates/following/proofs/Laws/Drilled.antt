-- From the questions and the loop to the answer: for the code. Nothing that a reader must believe stands here. Assumes nothing.
use Rattle.std.specs.Prelude.{◌≡◌, List, ◌++◌, ℕ, ◌≤◌, length, drop, leb, Result, Ok, Err, IsErrAnd, ⊤}
use Rattle.std.proofs.Common.{◌∙◌, ap, sym, leb→le, eq-eqb, ne_eqb}
use Rattle.plan.specs.Limits.{most_steps, most_answers}
use Rattle.plan.specs.Plan.{Table}
use Rattle.plan.specs.Fit.{Fit}
use Rattle.plan.proofs.Laws.Fit.{counted_fit}
use Rattle.plan.specs.Questions.{drill, refusal, drill_given, asked, or_else, passed}
use Rattle.plan.proofs.Laws.Questions.{both-none, asked_yes}
use Rattle.plan.proofs.Laws.Answered.{refused_by, answers_err, passes, answered_none}
use Rattle.plan.specs.Steps.{counted_refusal}
use Rattle.plan.proofs.Laws.Calls.{drill-refusal}
use Rattle.plan.specs.declared.Refusal.{Refusal}
use Rattle.moves.specs.Drill.{drill_of}
use Rattle.following.specs.declared.Drilled.{Drilled}
use Rattle.following.specs.Drilled.{drill_told, list_after, Drills}

module _ (t : Table) (bs xs : List ℕ) where
  -- the refusal of the questions
  abbrev pub why : Refusal
  why = refusal drill (drill_given t (length bs) (length xs))

  pub refused : (q : Refusal) (y : Result Drilled Refusal) → Err q ≡ passed why → IsErrAnd y (λ d. d ≡ q) → Drills t bs xs xs y
  unfolding list_after
  refused q y h p = record { answer = answers_err (drill_told (drill_of t bs)) why q y h p; list = rw (ne_eqb why.number 0 (refused_by why tt q h).1) }

  pub asks : why.number ≡ 0 → Fit t × (most_steps ≤ length xs)
  asks z =
      let y : (or_else (asked 1 (leb most_steps (length xs)) 0) (or_else (counted_refusal t) (asked 21 (leb (length bs) most_answers) 0))).number ≡ 0 = ap (λ (x : Refusal). x.number) (sym (drill-refusal t (length bs) (length xs))) ∙ z in
      let (one, rest) = both-none (asked 1 (leb most_steps (length xs)) 0) _ y in
      (counted_fit t (both-none (counted_refusal t) _ rest).0, leb→le most_steps (length xs) (asked_yes 0 _ 0 one))

  -- then the drill
  pub done : (u : ⊤) → Ok u ≡ passed why → {ys : List ℕ} {a : Drilled} → a ≡ drill_told (drill_of t bs) → ys ≡ (drill_of t bs).steps ++ drop (length (drill_of t bs).steps) xs → Drills t bs xs ys (Ok a)
  unfolding list_after
  done u h ea ey =
      let z = passes why u h in
      record { answer = ap Ok ea ∙ sym (answered_none why _ z); list = rw (eq-eqb why.number 0 z) ey }

-- Start: what each case of the call answers. Nothing that a reader must believe stands here. Assumes nothing.
use Rattle.std.specs.Prelude.{◌≡◌, ℕ, length, take, Result, Ok, Err, IsErrAnd, ⊤}
use Rattle.std.proofs.Common.{sym, ◌∙◌, length-take-le}
use Rattle.std.proofs.Math.Path.{ap}
use mathlib.Core.List.{List, ◌++◌}
use Rattle.std.proofs.Math.ListN.{drop, replicate}
use borrow.Author.Tests.{eq-eqb, ne_eqb}
use Rattle.plan.specs.Limits.{scratch_size, second_size}
use Rattle.plan.specs.Plan.{Table}
use Rattle.plan.specs.declared.Refusal.{Refusal}
use Rattle.plan.specs.Questions.{passed}
use Rattle.plan.proofs.Laws.Answered.{refused_by, answers_err, answered_none}
use Rattle.finishing_asks.specs.Asks.{start_no}
use Rattle.finishing.specs.Finishing.{started_as, Starts}
use Rattle.finishing_asks.proofs.Laws.Asks.{start-asks}

-- the questions, then the rest
module _ (t : Table) (al : ℕ) (xs ms : List ℕ) where
  abbrev no : Refusal
  no = start_no t al (length xs) (length ms)

  pub start-refused : (e : Refusal) (y : Result ⊤ Refusal) → Err e ≡ passed no → IsErrAnd y (λ d. d ≡ e) → Starts t al xs xs ms ms y
  unfolding started_as
  start-refused e y h p =
      let z = (refused_by no tt e h).1 in
      record { answers = answers_err tt no e y h p; scratch = rw (ne_eqb no.number 0 z); second = rw (ne_eqb no.number 0 z) }

  pub start-done : no.number ≡ 0 → {ys ns : List ℕ} → ys ≡ replicate (length (take scratch_size xs)) 0 → ns ≡ replicate (length (take second_size ms)) 0
      → Starts t al xs (ys ++ drop scratch_size xs) ms (ns ++ drop second_size ms) (Ok tt)
  unfolding started_as
  start-done z {ys = ys} {ns = ns} ey en =
      let (f, lx, lm) = start-asks t al xs ms z in
      let ry : ys ≡ replicate scratch_size 0 = ey ∙ ap (λ (n : ℕ). replicate {A = ℕ} n 0) (length-take-le scratch_size xs lx) in
      let rn : ns ≡ replicate second_size 0 = en ∙ ap (λ (n : ℕ). replicate {A = ℕ} n 0) (length-take-le second_size ms lm) in
      record {
        answers = sym (answered_none no tt z);
        scratch = rw (eq-eqb no.number 0 z) (ap (λ (l : List ℕ). l ++ drop scratch_size xs) ry);
        second = rw (eq-eqb no.number 0 z) (ap (λ (l : List ℕ). l ++ drop second_size ms) rn);
      }

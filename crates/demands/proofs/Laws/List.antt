-- What List answers where question 1 does not refuse the output, and where it does. Nothing that a reader must believe stands here. Assumes nothing.
use Rattle.std.specs.Prelude.{◌≡◌, ℕ, length, Result, Ok, Err}
use Rattle.std.proofs.Common.{ap, ◌∙◌}
use Rattle.plan.specs.Questions.{list, none, refusal, list_given}
use Rattle.plan.specs.declared.Refusal.{Refusal}
use Rattle.plan.proofs.Laws.Answered.{answered_none, answered_some}
use Rattle.listing.specs.Printed.{Bytes}
use Rattle.printing.specs.Printing.{text_of, listed_of, out_after, size, Lists}
use Rattle.demands.specs.Outcomes.{Listing}

module _ (f out out' : Bytes) (r : Result ℕ Refusal) (l : Lists f out out' r) where
  abbrev why : Refusal
  why = refusal list (list_given (length out))

  pub gives : why ≡ none → Listing f out out' r
  unfolding listed_of out_after size
  gives z =
      let e : r ≡ Ok (length (text_of f)) = l.answers ∙ answered_none why _ (ap (λ (x : Refusal). x.number) z) in
      record { answers = e; bytes = l.bytes ∙ rw e; suffices = rw e at l.suffices }

  pub unchanged : ¬ (why.number ≡ 0) → (r ≡ Err why) × (out' ≡ out)
  unfolding listed_of out_after
  unchanged z = let e : r ≡ Err why = l.answers ∙ answered_some why _ z in (e, l.bytes ∙ rw e)

-- What the join of two files answers and leaves, case by case: the proofs. Assumes nothing.
use Rattle.std.specs.Prelude.{◌≡◌, Result, Ok, Err, List, ◌++◌, ℕ, ◌≤◌, ◌<◌, length, drop}
use Rattle.std.proofs.Common.{◌∙◌, arith}
use borrow.Author.Tests.{eq-eqb, ne_eqb}
use Rattle.whole.proofs.Laws.Says.{is_true, is_false, says_le}
use Rattle.plan.specs.Limits.{most_cells, most_file}
use Rattle.plan.specs.declared.Refusal.{Refusal}
use Rattle.planfile_spec.specs.Reading.{reading_of}
use Rattle.join_file_spec.specs.Joined.{too_short, joined_file, tables_refusal, joined_of, joined_after, JoinsFiles}
use Rattle.join_file_spec.specs.declared.JoinError.{JoinError}
use Rattle.join_file_spec.specs.declared.JoinError.TheVariants.{FirstRefused, SecondRefused, Refused}

module _ (f : List ℕ) (c : ℕ) (g out out' : List ℕ) (r : Result ℕ JoinError) (h : JoinsFiles f c g out out' r) where
  abbrev a : Refusal
  a = (reading_of f most_cells).refusal

  abbrev b : Refusal
  b = (reading_of g most_cells).refusal

  pub short_refused : length out < most_file → (r ≡ Err (Refused too_short)) × (out' ≡ out)
  unfolding joined_of joined_after
  short_refused l =
      let e : r ≡ Err (Refused too_short) = h.answers ∙ rw (is_false (says_le most_file (length out)) (λ k. absurd (omega arith))) in
      (e, h.output ∙ rw e)

  module _ (room : most_file ≤ length out) where
    pub first-refused : ¬ ((reading_of f most_cells).refusal.number ≡ 0) → (r ≡ Err (FirstRefused (reading_of f most_cells).refusal)) × (out' ≡ out)
    unfolding joined_of joined_after
    first-refused x =
        let e : r ≡ Err (FirstRefused a) = h.answers ∙ rw (is_true (says_le most_file (length out)) room, ne_eqb a.number 0 x) in
        (e, h.output ∙ rw e)

    pub second-refused : (reading_of f most_cells).refusal.number ≡ 0 → ¬ ((reading_of g most_cells).refusal.number ≡ 0)
        → (r ≡ Err (SecondRefused (reading_of g most_cells).refusal)) × (out' ≡ out)
    unfolding joined_of joined_after
    second-refused x y =
        let e : r ≡ Err (SecondRefused b) = h.answers ∙ rw (is_true (says_le most_file (length out)) room, eq-eqb a.number 0 x, ne_eqb b.number 0 y) in
        (e, h.output ∙ rw e)

    module _ (x : (reading_of f most_cells).refusal.number ≡ 0) (y : (reading_of g most_cells).refusal.number ≡ 0) where
      pub join-refused : ¬ ((tables_refusal f c g).number ≡ 0) → (r ≡ Err (Refused (tables_refusal f c g))) × (out' ≡ out)
      unfolding joined_of joined_after
      join-refused z =
          let e : r ≡ Err (Refused (tables_refusal f c g))
          = h.answers ∙ rw (is_true (says_le most_file (length out)) room, eq-eqb a.number 0 x, eq-eqb b.number 0 y, ne_eqb (tables_refusal f c g).number 0 z) in
          (e, h.output ∙ rw e)

      pub written : (tables_refusal f c g).number ≡ 0 → (r ≡ Ok (length (joined_file f c g))) × (out' ≡ joined_file f c g ++ drop (length (joined_file f c g)) out)
      unfolding joined_of joined_after
      written z =
          let e : r ≡ Ok (length (joined_file f c g))
          = h.answers ∙ rw (is_true (says_le most_file (length out)) room, eq-eqb a.number 0 x, eq-eqb b.number 0 y, eq-eqb (tables_refusal f c g).number 0 z) in
          (e, h.output ∙ rw e)

-- WHAT IS PROVED OF A JOIN (document 02, E10), of every two plans and every allowance. A table is asked what the questions ask: that it has a cell (question 4),
-- that parents have lower numbers (question 6); or that the join is accepted. Assumes nothing.
use Rattle.std.specs.Prelude.{◌≡◌, List, [], ◌∷◌, ◌++◌, ◌↔◌, ℕ, ◌+◌, ◌*◌, ◌≤◌, length, T}
use Rattle.plan.specs.Limits.{most_allowance, scratch_size}
use Rattle.plan.specs.Lists.{At}
use Rattle.plan.specs.Plan.{Table, Is, Sound, rank, children, within}
use Rattle.plan.specs.Records.{cells_of}
use Rattle.plan.specs.Questions.{layout, none, refusal, layout_given}
use Rattle.plan.specs.declared.Record.{Record}
use Rattle.rules.specs.Placement.{left_extent, right_extent}
use Rattle.contours.specs.Sheet.{sheet}
use Rattle.graft.specs.Joined.{joined, joined_records}
use Rattle.graft.specs.Placed.{put_in}
use Rattle.graft.specs.Sequence.{join_sequence, join_refusal}
use Rattle.graft.specs.FirstNo.{YesAll, JoinFirstNo}
use Rattle.graft.proofs.Laws.Joined as joins
use Rattle.graft.proofs.Laws.Placed as placed
use Rattle.graft.proofs.Laws.Reaches as reaches
use Rattle.graft.proofs.Laws.Laid as laid
use Rattle.graft.proofs.Laws.Sequence as sequence
use Rattle.graft.proofs.Laws.FirstNo as first_no

-- 1. The joined records are the joined table: what Layout and Check see of them does not hang on the label fields.
pub joined-cells : (t u : List Record) (c : ℕ) → cells_of (joined_records t u c) ≡ joined (cells_of t) (cells_of u) c
joined-cells = joins.joined-cells

module _ (t u : Table) (st : Sound t) (su : Sound u) (some_first : 1 ≤ length t) (some_second : 1 ≤ length u) (c : ℕ) (at : Is t c) where
  -- 2. The named cell has the children it had, in their order, and the second's root before the first of a greater rank (E13);
  pub named-children : children (joined t u c) c ≡ put_in (rank (joined t u c)) (length t) (children t c)
  named-children = placed.named-children t u st some_first some_second c at

  -- the root's rank is the one it had;
  pub root_rank : rank (joined t u c) (length t + 0) ≡ rank u 0
  root_rank = joins.second-rank t u c 0 some_second

  -- it is "the last son" where none of them has a greater one, as where all ranks are equal.
  pub last_child : ((i s : ℕ) → At (children t c) i s → rank t s ≤ rank (joined t u c) (length t)) → children (joined t u c) c ≡ children t c ++ (length t ∷ [])
  last_child = placed.last_child t u st some_first some_second c at

  -- 3. "Under one allowance every sub-diagram of the second plan must reach left and right exactly as in its own sheet",
  pub second_reaches : (al b : ℕ) → Is u b
      → (left_extent (joined t u c) (sheet (joined t u c) al) (length t + b) ≡ left_extent u (sheet u al) b)
      × (right_extent (joined t u c) (sheet (joined t u c) al) (length t + b) ≡ right_extent u (sheet u al) b)
  second_reaches = reaches.second_reaches t u st su some_first some_second c at

  -- 4. "and so must, if the first has a sheet of its own, each of its sub-diagrams that doesn't hold the named cell". (By question 6 alone.)
  pub first_reaches : (al a : ℕ) → Is t a → ¬ T (within t a c)
      → (left_extent (joined t u c) (sheet (joined t u c) al) a ≡ left_extent t (sheet t al) a)
      × (right_extent (joined t u c) (sheet (joined t u c) al) a ≡ right_extent t (sheet t al) a)
  first_reaches = reaches.first_reaches t u st su some_first some_second c at

module _ (room : ℕ) (t u : Table) (c : ℕ) where
  -- 5. Where the join is accepted, the second plan has a sheet of its own: Layout refuses nothing of it, with long enough buffers;
  pub second_laid : (join_refusal room t u c).number ≡ 0 → (al s p : ℕ) → al ≤ most_allowance → scratch_size ≤ s → 2 * length u ≤ p → refusal layout (layout_given u al s p) ≡ none
  second_laid z = laid.second_laid room t u c (sequence.accepted room t u c z)

  -- and so has the joined one.
  pub joined_laid : (join_refusal room t u c).number ≡ 0 → (al s p : ℕ) → al ≤ most_allowance → scratch_size ≤ s → 2 * length (joined t u c) ≤ p
      → refusal layout (layout_given (joined t u c) al s p) ≡ none
  joined_laid z = laid.joined_laid room t u c (sequence.accepted room t u c z)

  -- 6. The refusal is number k at cell a exactly where that is the first "no" of the join's sequence; there is none exactly where there is no "no".
  pub join-first_no : (k a : ℕ) → 1 ≤ k → (join_refusal room t u c ≡ record { number = k; cell = a }) ↔ JoinFirstNo room t u c k a
  join-first_no = first_no.join-first_no room t u c

  pub join-no-no : (join_refusal room t u c ≡ none) ↔ YesAll room t u c join_sequence
  join-no-no = first_no.join-no-no room t u c

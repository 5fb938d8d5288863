-- THE QUESTIONS OF A JOIN, IN THEIR ORDER, to be held against the paper (document 02, E10: "Questions 1, 4 and 6 to 8 apply to the first table, then to the second (cells by its own
-- numbers), 16 to the cell, then 4 and 11 to 13 to the joined one"): of each the table that it is put to, and its number. Computed from `join_sequence`. Assumes nothing.
use Rattle.std.specs.Prelude.{◌≡◌, List, [], ◌∷◌, ◌++◌, map, ℕ}
use Rattle.plan.specs.Plan.{Table}
use Rattle.plan.specs.Order as plan
use Rattle.graft.specs.Sequence.{Whose, first, second, both, Asks, of, join_sequence, join_given}

module _ (room : ℕ) (t u : Table) (c : ℕ) where
  unfoldable pub in_order : List Asks → List (Whose × ℕ)
  in_order [] = []
  in_order (of w s ∷ rest) = map (λ k. (w, k)) (plan.in_order (join_given room t u c w) (s ∷ [])) ++ in_order rest

pub record Rows : Type 0 where
  pub of_join : (room : ℕ) (t u : Table) (c : ℕ) → in_order room t u c join_sequence
      ≡ (first, 1) ∷ (first, 4) ∷ (first, 6) ∷ (first, 7) ∷ (first, 8)
      ∷ (second, 4) ∷ (second, 6) ∷ (second, 7) ∷ (second, 8)
      ∷ (first, 16)
      ∷ (both, 4) ∷ (both, 11) ∷ (both, 12) ∷ (both, 13) ∷ []

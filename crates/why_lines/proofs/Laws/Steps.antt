-- The lines of a chain, one after the other. Assumes nothing.
use Rattle.std.specs.Prelude.{◌≡◌, List, ◌++◌, ℕ, ◌+◌, ◌≤◌, get_or, pos, ◌-ℤ◌}
use Rattle.std.proofs.Math.Numerals.{add-one}
use Rattle.std.proofs.Common.{arith}
use Rattle.listing.specs.Put.{Put}
use Rattle.listing.proofs.Laws.Put.{then, put-none}
use Rattle.why_lines.specs.Printed.{link_line, last_line}
use Rattle.why_lines.specs.Steps.{x_of, step_line, steps_text, end_line}

module _ (cells rules xs : List ℕ) where
  steps-more : (k : ℕ) → steps_text cells rules xs (k + 1) ≡ steps_text cells rules xs k ++ step_line cells rules xs k
  unfolding steps_text
  steps-more k = rw add-one

  pub put-no-steps : (l : List ℕ) (i : ℕ) → Put l i (steps_text cells rules xs 0) l i
  unfolding steps_text
  put-no-steps l i = put-none l i

  pub put_step : {l m n : List ℕ} {i j k : ℕ} (a : ℕ) → Put l i (steps_text cells rules xs a) m j → Put m j (step_line cells rules xs a) n k → Put l i (steps_text cells rules xs (a + 1)) n k
  put_step a p q = rw (steps-more a) (then p q)

  pub put-steps-done : {l m : List ℕ} {i k : ℕ} (a n : ℕ) → Put l i (steps_text cells rules xs a) m k → a ≤ n → n ≤ a → Put l i (steps_text cells rules xs n) m k
  put-steps-done a n p g h = let e : a ≡ n = omega arith in rw e at p

  -- the lines by the numbers that the code reads
  pub step-named : (j r f a b : ℕ) → r ≡ get_or rules j 0 → f ≡ x_of cells xs 0 → a ≡ x_of cells xs j → b ≡ x_of cells xs (j + 1)
      → link_line (record { rule = r; from = get_or cells j 0; to = get_or cells (j + 1) 0; apart = pos b -ℤ pos a }) (pos b -ℤ pos f) ≡ step_line cells rules xs j
  unfolding step_line
  step-named j r f a b d e g h = rw (d, e, g, h)

pub end-named : (cells xs : List ℕ) (k w x f : ℕ) → x ≡ x_of cells xs k → f ≡ x_of cells xs 0 → last_line (get_or cells k 0) w (pos (x + w) -ℤ pos f) ≡ end_line cells xs k w
unfolding end_line
end-named cells xs k w x f e g = rw (e, g)

-- WHAT THE READER OF DRAWINGS ANSWERS, and what it leaves in the positions lent to it, on every input. Assumes nothing.
use Rattle.std.specs.Prelude.{◌≡◌, cond, ◌&&◌, List, ◌++◌, ℕ, ◌*◌, leb, ℤ, length, drop, Result, Ok, Err, ⊤}
use Rattle.plan.specs.Limits.{most_cells}
use Rattle.listing.specs.Printed.{Bytes}
use Rattle.drawing_spec.specs.Said.{Said, placed_at, wrong, said}
use Rattle.drawing_spec.specs.declared.Fault.TheVariants.{Long}
use Rattle.drawing_spec.specs.declared.DrawError.{DrawError}
use Rattle.drawing_spec.specs.declared.DrawError.TheVariants.{Wrong, Refused}

-- what a text says, as the answer
unfoldable pub drawn_of : Said → Result ⊤ DrawError
drawn_of (placed_at ps) = Ok tt
drawn_of (wrong f) = Err (Wrong f)

-- the lent positions after it: x then y of each of n cells, nothing beyond; as they were if the text is wrong
unfoldable pub positions_after : (n : ℕ) → Said → List ℤ → List ℤ
positions_after n (placed_at qs) ps = qs ++ drop (2 * n) ps
positions_after n (wrong f) ps = ps

-- bytes of a text that is read, at most
abbrev pub most_text : ℕ
most_text = 65536

-- a call: the answer, and the positions before and after it. More than 256 cells are refused by question 4, positions that are too short by question 1; a longer text is not read
pub record Draws (n : ℕ) (text : Bytes) (ps ps' : List ℤ) (r : Result ⊤ DrawError) : Type 0 where
  pub answers : r ≡ cond (leb n most_cells) (cond (leb (2 * n) (length ps)) (cond (leb (length text) most_text) (drawn_of (said n text)) (Err (Wrong Long))) (Err (Refused (record { number = 1; cell = 0 })))) (Err (Refused (record { number = 4; cell = 0 })))
  pub positions : ps' ≡ cond (leb n most_cells && leb (2 * n) (length ps) && leb (length text) most_text) (positions_after n (said n text) ps) ps

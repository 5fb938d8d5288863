-- Ends' answer: document 01's numbers and values for each case, half a width by document 02. Assumes nothing.
use Rattle.std.specs.Prelude.{List, Bool, cond, ℕ, ◌+◌, ◌/◌, ◌%◌, eqb, ℤ, pos, ◌+ℤ◌, Result}
use Rattle.plan.specs.Plan.{Table, parent, box_width, box_depth}
use Rattle.plan.specs.Questions.{refusal, ends, ends_given, answered}
use Rattle.plan.specs.declared.Refusal.{Refusal}
use Rattle.rules.specs.Placement.{Placement, placed}
use Rattle.ends.specs.declared.Ended.{Ended}

abbrev pub even : ℕ → Bool
even n = eqb (n % 2) 0

-- THE half of a width (document 02, E3): "the nearer whole number, a tie going to the even one".
-- An odd width is the tie: its half lies midway between w / 2, which is rounded down, and the next number.
unfoldable pub half : ℕ → ℕ
half w = cond (even w) (w / 2) (cond (even (w / 2)) (w / 2) (w / 2 + 1))

-- "for a son, (father x + W/2, father y + D) and (son x + W/2, son y)"
unfoldable pub joined : Table → Placement → ℕ → Ended
joined t p c =
    record {
      from_x = p.x (parent t c) +ℤ pos (half (box_width t (parent t c)));
      from_y = p.y (parent t c) +ℤ pos (box_depth t (parent t c));
      to_x = p.x c +ℤ pos (half (box_width t c));
      to_y = p.y c;
    }

unfoldable pub ended_of : Table → List ℤ → (cell : ℕ) → Result Ended Refusal
ended_of t ps c = answered (refusal ends (ends_given t ps c)) (joined t (placed ps) c)

-- The worked sheets of crate least's table, marked, the questions included: every sheet of ours gets full marks, ◆G is 10 wide where 9 is the least width, ◆H, ◆I and ◆J
-- are broken. Assumes nothing.
use Rattle.std.specs.Prelude.{List, [], ◌∷◌, length, Result, Ok}
use Rattle.plan.specs.Limits.{scratch_size}
use Rattle.plan.specs.declared.Refusal.{Refusal}
use Rattle.plan.specs.Questions.{refusal, mark, mark_given}
use Rattle.least.specs.Worked.{Row, shown}
use Rattle.positions.specs.Written.{corners}
use Rattle.mark_spec.specs.declared.Marked.{Marked}
use Rattle.mark_spec.specs.Marked.{full_of, wide_of, broken_of, marked_of}

-- what Mark answers to the placement of a row, with a scratch that is long enough
unfoldable pub gives : Row → Result Marked Refusal
gives r =
    let ps = corners (shown r) 0 (length r.table) in
    marked_of r.table ps r.allowance (refusal mark (mark_given r.table ps r.allowance scratch_size))

-- the mark of each row of `sheets`, in their order and with their comments
unfoldable pub due : List (Result Marked Refusal)
due =
    Ok (full_of 5 2)
    ∷ Ok (full_of 9 4)
    ∷ Ok (full_of 11 4)
    ∷ Ok (full_of 11 4)
    ∷ Ok (full_of 13 6)
    ∷ Ok (full_of 10 6)
    ∷ Ok (full_of 9 6)
    ∷ Ok (full_of 9 6)
    ∷ Ok (full_of 25 10)
    ∷ Ok (full_of 30 10)
    -- ◆G, wide by 1, and ◆H
    ∷ Ok (wide_of 10 9 4)
    ∷ Ok (broken_of 3 1 2)
    -- ◆I; and at 3
    ∷ Ok (broken_of 5 1 3)
    ∷ Ok (broken_of 5 1 3)
    -- ◆J
    ∷ Ok (broken_of 4 4 11)
    -- S3
    ∷ Ok (full_of 12 6)
    ∷ Ok (full_of 13 6)
    ∷ Ok (broken_of 3 1 3)
    ∷ Ok (broken_of 3 1 4)
    -- E6
    ∷ Ok (full_of 9 4)
    ∷ Ok (full_of 13 6)
    ∷ Ok (full_of 13 6)
    ∷ Ok (full_of 21 8)
    -- S2 at a choice
    ∷ Ok (wide_of 10 9 4)
    ∷ Ok (broken_of 2 0 2)
    ∷ Ok (broken_of 2 0 1)
    ∷ Ok (broken_of 2 2 3)
    ∷ Ok (wide_of 17 13 6)
    -- E13, by rank
    ∷ Ok (full_of 10 4)
    ∷ Ok (full_of 11 4)
    ∷ Ok (full_of 11 4)
    ∷ Ok (full_of 19 4)
    ∷ Ok (full_of 12 4)
    ∷ Ok (full_of 13 6)
    ∷ Ok (broken_of 2 0 1)
    ∷ Ok (broken_of 3 2 1)
    ∷ Ok (broken_of 2 0 3)
    ∷ Ok (broken_of 2 0 2)
    ∷ []

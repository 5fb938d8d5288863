-- THE MARK OF A DRAWING AS TEXT, of a plan of n cells under an allowance: Mark of the positions that the text says. Assumes nothing.
use Rattle.std.specs.Prelude.{cond, List, ◌++◌, ℕ, ◌*◌, leb, ℤ, pos, length, drop, replicate, Result, Ok, Err}
use Rattle.plan.specs.Limits.{most_cells, scratch_size}
use Rattle.plan.specs.Plan.{Table}
use Rattle.plan.specs.Questions.{mark, refusal, mark_given}
use Rattle.listing.specs.Printed.{Bytes}
use Rattle.drawing_spec.specs.Said.{Said, placed_at, wrong, said}
use Rattle.drawing_spec.specs.declared.Fault.TheVariants.{Long}
use Rattle.drawing.specs.Drawn.{most_text}
use Rattle.mark_spec.specs.Marked.{marked_of}
use Rattle.plan.specs.declared.Refusal.{Refusal}
use Rattle.drawing_spec.specs.declared.DrawError.{DrawError}
use Rattle.drawing_spec.specs.declared.DrawError.TheVariants.{Wrong, Refused}
use Rattle.mark_spec.specs.declared.Marked.{Marked}

-- room for 256 cells
abbrev pub no_places : List ℤ
no_places = replicate (2 * most_cells) (pos 0)

-- what Mark answers of these positions, with a scratch that is long enough
unfoldable pub mark_at : Table → (allowance : ℕ) → List ℤ → Result Marked Refusal
mark_at t al ps = marked_of t ps al (refusal mark (mark_given t ps al scratch_size))

-- the mark, or a refusal, as the outcome
unfoldable pub taken : Result Marked Refusal → Result Marked DrawError
taken (Ok m) = Ok m
taken (Err r) = Err (Refused r)

unfoldable pub by_said : (n : ℕ) → Table → (allowance : ℕ) → Said → Result Marked DrawError
by_said n t al (placed_at qs) = taken (mark_at t al (qs ++ drop (2 * n) no_places))
by_said n t al (wrong f) = Err (Wrong f)

-- a plan of more than 256 cells is refused; a text of more than 65,536 bytes is not read
unfoldable pub outcome : (n : ℕ) → Table → (allowance : ℕ) → Bytes → Result Marked DrawError
outcome n t al text = cond (leb n most_cells) (cond (leb (length text) most_text) (by_said n t al (said n text)) (Err (Wrong Long))) (Err (Refused (record { number = 4; cell = 0 })))

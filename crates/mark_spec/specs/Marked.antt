-- WHAT MARK ANSWERS OF A DRAWING, and what it leaves in the scratch lent to it, on every input: by Check's verdict and the width of our sheet. Full marks go to a
-- drawing that keeps the rules and is as narrow as they permit (proofs/Promised.antt). Assumes nothing.
use Rattle.std.specs.Prelude.{◌≡◌, cond, List, ◌++◌, ℕ, length, drop, replicate, leb, ℤ, Result, Ok, Err}
use Rattle.whole.specs.Whole.{plus}
use Rattle.plan.specs.Limits.{scratch_size}
use Rattle.plan.specs.Plan.{Table}
use Rattle.plan.specs.Questions.{mark, refusal, mark_given, answered}
use Rattle.plan.specs.declared.Refusal.{Refusal}
use Rattle.rules.specs.Placement.{placed, width}
use Rattle.rules.specs.Verdict.{Answer, fine, faulty, answer}
use Rattle.contours.specs.Sheet.{sheet}
use Rattle.mark_spec.specs.declared.Marked.{Marked}
use Rattle.mark_spec.specs.declared.Marked.TheVariants.{Full, Wide, Broken}

-- the width of our sheet. (Widths and rows are not negative where no question refuses; `plus` is such a number as a natural one.)
abbrev pub our_width : Table → (allowance : ℕ) → ℕ
our_width t al = plus (width t (sheet t al))

-- the marks, and a refusal, by their numbers
abbrev pub full_of : (width rows : ℕ) → Marked
full_of w h = Full (record { width = w; rows = h })

abbrev pub wide_of : (width least rows : ℕ) → Marked
wide_of w l h = Wide (record { width = w; rows = h }) l

abbrev pub broken_of : (rule a b : ℕ) → Marked
broken_of r a b = Broken (record { rule = r; a = a; b = b })

abbrev pub refused_of : (number cell : ℕ) → Refusal
refused_of k c = record { number = k; cell = c }

-- a drawing that keeps the rules: full marks where it is no wider than the least width, else its width and the least one
unfoldable pub by_width : (least width rows : ℕ) → Marked
by_width l w h = cond (leb w l) (full_of w h) (wide_of w l h)

-- any drawing, by Check's verdict
unfoldable pub graded : (least : ℕ) → Answer → Marked
graded l (fine w h) = by_width l (plus w) (plus h)
graded l (faulty r a b) = broken_of r a b

-- the refusal; or the mark, by the width of our sheet
unfoldable pub marked_of : Table → (positions : List ℤ) → (allowance : ℕ) → Refusal → Result Marked Refusal
marked_of t ps al r = answered r (graded (our_width t al) (answer t (placed ps) al))

-- the lent scratch after it. Of a mark, "broken" too: as Layout leaves it. Of a refusal: as it was
unfoldable pub mark_scratch_after : Result Marked Refusal → List ℕ → List ℕ
mark_scratch_after (Ok (Full m)) s = replicate scratch_size 0 ++ drop scratch_size s
mark_scratch_after (Ok (Wide m l)) s = replicate scratch_size 0 ++ drop scratch_size s
mark_scratch_after (Ok (Broken b)) s = replicate scratch_size 0 ++ drop scratch_size s
mark_scratch_after (Err r) s = s

-- a call of Mark: the answer, and the scratch before and after it
pub record Marks (t : Table) (ps : List ℤ) (al : ℕ) (s s' : List ℕ) (r : Result Marked Refusal) : Type 0 where
  pub answers : r ≡ marked_of t ps al (refusal mark (mark_given t ps al (length s)))
  pub scratch : s' ≡ mark_scratch_after r s

-- WHAT FRAME ANSWERS (document 02, E2), and what it leaves in the scratch lent to it, on every input. Assumes nothing.
use Rattle.std.specs.Prelude.{◌≡◌, List, ◌++◌, ℕ, ◌≤◌, length, drop, replicate, Option, Some, None, Result, Ok, Err}
use Rattle.plan.specs.Limits.{scratch_size}
use Rattle.plan.specs.Plan.{Table}
use Rattle.plan.specs.Questions.{frame, refusal, frame_given, answered}
use Rattle.plan.specs.declared.Refusal.{Refusal}
use Rattle.least.specs.Frame.{Found, nowhere, found, least_allowance}

-- document 02's values of the answers: the least allowance, or "none"; number and cell of the refusal
unfoldable pub told : Found → Option ℕ
told nowhere = None
told (found a) = Some a

unfoldable pub fitted_of : Table → (squares : ℕ) → Refusal → Result (Option ℕ) Refusal
fitted_of t squares r = answered r (told (least_allowance t squares))

-- the lent scratch after it. Of an allowance, or of none: as Layout leaves it. Of a refusal: as it was
unfoldable pub frame_scratch_after : Result (Option ℕ) Refusal → List ℕ → List ℕ
frame_scratch_after (Ok (Some a)) s = replicate scratch_size 0 ++ drop scratch_size s
frame_scratch_after (Ok None) s = replicate scratch_size 0 ++ drop scratch_size s
frame_scratch_after (Err r) s = s

-- a call of Frame: the answer, and the scratch before and after it
pub record Frames (t : Table) (squares : ℕ) (s s' : List ℕ) (r : Result (Option ℕ) Refusal) : Type 0 where
  pub answers : r ≡ fitted_of t squares (refusal frame (frame_given t squares (length s)))
  pub scratch : s' ≡ frame_scratch_after r s

-- an allowance of at most a is answered
pub record AtMost (r : Result (Option ℕ) Refusal) (a : ℕ) : Type 0 where
  pub b : ℕ
  pub answers : r ≡ Ok (Some b)
  pub bound : b ≤ a

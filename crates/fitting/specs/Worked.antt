-- Worked rows: document 01's sheets ◆E and ◆F in frames, the questions included. Assumes nothing.
use Rattle.std.specs.Prelude.{◌≡◌, ℕ, Option, Some, None, Result, Ok, Err}
use Rattle.plan.specs.Limits.{scratch_size}
use Rattle.plan.specs.Questions.{refusal, frame, frame_given}
use Rattle.plan.specs.Plan.{Table}
use Rattle.plan.specs.declared.Refusal.{Refusal}
use Rattle.least.specs.Worked.{E, F}
use Rattle.fitting.specs.Fitted.{fitted_of}

-- what the call answers, with a scratch that is long enough
unfoldable pub gives : Table → (squares : ℕ) → Result (Option ℕ) Refusal
gives t f = fitted_of t f (refusal frame (frame_given t f scratch_size))

-- ◆E is 13 wide at 0, 12 at 1, 10 at 3, 9 from 4 on; ◆F is 30 wide at 0 and 25 from 3 on
pub record Rows : Type 0 where
  pub e_0 : gives E 0 ≡ Err (record { number = 19; cell = 0 })
  pub e_8 : gives E 8 ≡ Ok None
  pub e_9 : gives E 9 ≡ Ok (Some 4)
  pub e_10 : gives E 10 ≡ Ok (Some 3)
  pub e_12 : gives E 12 ≡ Ok (Some 1)
  pub e_13 : gives E 13 ≡ Ok (Some 0)
  pub e_most : gives E 4294967295 ≡ Ok (Some 0)
  pub f_24 : gives F 24 ≡ Ok None
  pub f_25 : gives F 25 ≡ Ok (Some 3)
  pub f_29 : gives F 29 ≡ Ok (Some 1)

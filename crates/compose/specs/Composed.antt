-- WHAT THE WRITER OF A PLAN FILE FROM AN OUTLINE ANSWERS, and what it leaves in the output lent to it, on every text. Assumes nothing.
use Rattle.std.specs.Prelude.{◌≡◌, cond, List, [], ◌++◌, ℕ, ◌≤◌, eqb, leb, length, drop, Result, Ok, Err}
use Rattle.plan.specs.Limits.{most_file}
use Rattle.content.specs.Clean.{clean}
use Rattle.outline_spec.specs.Understood.{Understood, fault, plan, understood}
use Rattle.outline_spec.specs.Faults.{fault_number}
use Rattle.outline_spec.specs.Refused.{content_refusal}
use Rattle.compose.specs.declared.ComposeError.{ComposeError}
use Rattle.compose.specs.declared.ComposeError.TheVariants.{Refused, Wrong}

-- the length of the file; or the refusal, or the line that is not understood and the number of its fault
abbrev pub Composed : Type 0
Composed = Result ℕ ComposeError

-- by what the text says: the line and the number of its fault; or Copy's answer about the content: the length of its clean copy, or the refusal
unfoldable pub composed_by : Understood → (output : ℕ) → Composed
composed_by (fault n f) room = Err (Wrong n (fault_number f))
composed_by (plan c) room =
    let r = content_refusal c room in
    cond (eqb r.number 0) (Ok (length (clean c))) (Err (Refused r))

-- question 1 comes first, as in every call
unfoldable pub composed_of : (text : List ℕ) → (output : ℕ) → Composed
composed_of t room = cond (leb most_file room) (composed_by (understood t) room) (Err (Refused (record { number = 1; cell = 0 })))

-- the file: the clean copy of what the text says
unfoldable pub file_by : Understood → List ℕ
file_by (fault n f) = []
file_by (plan c) = clean c

-- the output after it: the file, the rest as it was; of a refusal or a fault, as it was
unfoldable pub composed_after : Composed → (text out : List ℕ) → List ℕ
composed_after (Ok n) t out = file_by (understood t) ++ drop n out
composed_after (Err e) t out = out

-- bytes of the file that is given
unfoldable pub size : Composed → ℕ
size (Ok n) = n
size (Err e) = 0

pub record Composes (text out out' : List ℕ) (d : Composed) : Type 0 where
  pub answers : d ≡ composed_of text (length out)
  pub output : out' ≡ composed_after d text out
  pub suffices : size d ≤ most_file

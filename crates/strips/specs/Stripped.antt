-- WHAT STRIP ANSWERS (document 02, E8), and what it leaves in the bytes lent to it, on every input. Assumes nothing.
use Rattle.std.specs.Prelude.{◌≡◌, List, ℕ, ℤ, length, Result, Ok, Err, ⊤}
use Rattle.plan.specs.Plan.{Table}
use Rattle.plan.specs.Questions.{strip, refusal, strip_given, passed}
use Rattle.plan.specs.declared.Refusal.{Refusal}
use Rattle.rules.specs.Placement.{placed}
use Rattle.raster.specs.Strip.{strip_of}

-- the lent bytes after it. Of a strip: every one of them is the strip's. Of a refusal: as they were
unfoldable pub bytes_after : Result ⊤ Refusal → Table → (positions : List ℤ) → (row first : ℕ) → List ℕ → List ℕ
bytes_after (Ok v) t ps row first bs = strip_of t (placed ps) row first (length bs)
bytes_after (Err e) t ps row first bs = bs

-- a call of Strip: nothing, or the refusal, and the bytes before and after it
pub record Strips (t : Table) (ps : List ℤ) (row first : ℕ) (bs bs' : List ℕ) (r : Result ⊤ Refusal) : Type 0 where
  pub answers : r ≡ passed (refusal strip (strip_given t ps))
  pub bytes : bs' ≡ bytes_after r t ps row first bs

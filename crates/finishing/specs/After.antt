-- A SHEET THAT IS BEING MADE, FROM A START ON (document 02, E9): calls on one table and allowance, each on both scratches as the one before it left them ("this supposes").
-- The positions may be others at each step; steps that are refused, and steps after the last, may come between. Assumes nothing.
use Rattle.std.specs.Prelude.{List, ℕ, zero, suc, ℤ, Option, Some, None, Result, Ok, Err}
use Rattle.plan.specs.Plan.{Table}
use Rattle.plan.specs.declared.Refusal.{Refusal}
use Rattle.finishing.specs.Finishing.{Starts}
use Rattle.finishing_step.specs.Stepping.{Steps}

-- the scratches are those after a start that has begun and so many steps that answered a cell
pub data After (t : Table) (al : ℕ) : ℕ → List ℕ → List ℕ → Type 0 where
  began : {xs xs' ms ms' : List ℕ} → Starts t al xs xs' ms ms' (Ok tt) → After t al zero xs' ms'
  stepped : {k c : ℕ} {xs xs' ms ms' : List ℕ} {ps ps' : List ℤ} → After t al k xs ms → Steps t al xs xs' ms ms' ps ps' (Ok (Some c)) → After t al (suc k) xs' ms'
  refused : {k : ℕ} {e : Refusal} {xs xs' ms ms' : List ℕ} {ps ps' : List ℤ} → After t al k xs ms → Steps t al xs xs' ms ms' ps ps' (Err e) → After t al k xs' ms'
  done : {k : ℕ} {xs xs' ms ms' : List ℕ} {ps ps' : List ℤ} → After t al k xs ms → Steps t al xs xs' ms ms' ps ps' (Ok None) → After t al k xs' ms'

-- after one more step, by its answer
unfoldable pub counted : Result (Option ℕ) Refusal → ℕ → ℕ
counted (Ok (Some c)) k = suc k
counted (Ok None) k = k
counted (Err e) k = k

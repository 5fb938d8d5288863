-- WHAT WHY ANSWERS, and what it leaves in the buffers lent to it, on every input. Assumes nothing.
use Rattle.std.specs.Prelude.{◌≡◌, List, ℕ, ℤ, Result, Ok, Err}
use Rattle.plan.specs.Plan.{Table}
use Rattle.plan.specs.declared.Measures.{Measures}
use Rattle.plan.specs.declared.Refusal.{Refusal}
use Rattle.rules.specs.Placement.{placed}
use Rattle.contours.specs.Sheet.{sheet}
use Rattle.why_spec.specs.Measures.{across}
use Rattle.why_spec.specs.Search.{reason}
use Rattle.why_search.specs.Explains.{told, Chained}
use Rattle.layout.specs.Laid.{Lays}
use Rattle.why.specs.declared.Shown.{Shown}

-- Layout's part of an answer
abbrev pub laid : Result Shown Refusal → Result Measures Refusal
laid (Ok s) = Ok s.measures
laid (Err r) = Err r

-- Layout's answer and buffers; of a sheet, the cells of THE reason of our sheet's width, its links between them over the positions that are written
pub record Shows (t : Table) (al : ℕ) (s s' : List ℕ) (ps ps' : List ℤ) (r : Result Shown Refusal) : Type 0 where
  pub lays : Lays t al s s' ps ps' (laid r)
  pub drawn : (x : Shown) → r ≡ Ok x → (reason t al (across t) (sheet t al) ≡ told t al (placed ps') x.chain.count x.chain.cells) × Chained t al (placed ps') x.chain.count x.chain.cells x.chain.rules

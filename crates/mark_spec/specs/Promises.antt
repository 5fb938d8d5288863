-- WHAT THE MARKS MEAN, of any placement of a table, whole numbers of any size. Assumes nothing.
use Rattle.std.specs.Prelude.{◌≡◌, ℕ, ◌<◌, pos, ◌≤ℤ◌, Result, Ok, Err}
use Rattle.plan.specs.Plan.{Table}
use Rattle.plan.specs.declared.Refusal.{Refusal}
use Rattle.rules.specs.Placement.{Placement, width, rows}
use Rattle.rules.specs.Rules.{Keeps}
use Rattle.mark_spec.specs.declared.Marked.{Marked}
use Rattle.mark_spec.specs.Marked.{full_of, wide_of, broken_of, refused_of}

-- it keeps the rules and is as narrow as they permit: no placement that keeps them is narrower
pub record Narrowest (t : Table) (p : Placement) (al : ℕ) : Type 0 where
  pub keeps : Keeps t p al
  pub none_narrower : (q : Placement) → Keeps t q al → width t p ≤ℤ width t q

-- l is the least width: some placement that keeps the rules has it, and none has less
pub record LeastWidth (t : Table) (al l : ℕ) : Type 0 where
  pub some : Placement
  pub keeps : Keeps t some al
  pub wide : width t some ≡ pos l
  pub none_less : (q : Placement) → Keeps t q al → pos l ≤ℤ width t q

-- full marks, with width and rows
pub record FullWith (t : Table) (p : Placement) (al w h : ℕ) : Type 0 where
  pub narrowest : Narrowest t p al
  pub wide : width t p ≡ pos w
  pub deep : rows t p ≡ pos h

-- it keeps the rules, w wide and of h rows, and the least width l is less
pub record WideBy (t : Table) (p : Placement) (al w l h : ℕ) : Type 0 where
  pub keeps : Keeps t p al
  pub wide : width t p ≡ pos w
  pub deep : rows t p ≡ pos h
  pub least : LeastWidth t al l
  pub wider : l < w

-- which of the four answers it is
abbrev pub IsFull : Result Marked Refusal → Type 0
IsFull r = (w : ℕ) × (h : ℕ) × (r ≡ Ok (full_of w h))

abbrev pub IsWide : Result Marked Refusal → Type 0
IsWide r = (w : ℕ) × (l : ℕ) × (h : ℕ) × (r ≡ Ok (wide_of w l h))

abbrev pub IsBroken : Result Marked Refusal → Type 0
IsBroken r = (k : ℕ) × (a : ℕ) × (b : ℕ) × (r ≡ Ok (broken_of k a b))

abbrev pub IsRefused : Result Marked Refusal → Type 0
IsRefused r = (k : ℕ) × (c : ℕ) × (r ≡ Err (refused_of k c))

-- exactly one of four
pub data OneOf (A B C D : Type 0) : Type 0 where
  first : A → ¬ B → ¬ C → ¬ D → OneOf A B C D
  second : ¬ A → B → ¬ C → ¬ D → OneOf A B C D
  third : ¬ A → ¬ B → C → ¬ D → OneOf A B C D
  fourth : ¬ A → ¬ B → ¬ C → D → OneOf A B C D

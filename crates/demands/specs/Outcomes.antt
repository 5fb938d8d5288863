-- WHAT THE CALLS GIVE where no question refuses, in document 01's own terms. Assumes nothing.
use Rattle.std.specs.Prelude.{◌≡◌, List, [], ◌∷◌, ◌++◌, map, ℕ, ◌≤◌, length, drop, replicate, ℤ, pos, ◌-ℤ◌, Result, Ok, Err}
use Rattle.plan.specs.Limits.{scratch_size, listing_size}
use Rattle.plan.specs.Lists.{from}
use Rattle.plan.specs.Plan.{Table, box_width, box_depth}
use Rattle.rules.specs.Placement.{Placement, width, rows}
use Rattle.rules.specs.Rules.{Keeps}
use Rattle.contours.specs.Sheet.{sheet}
use Rattle.least.specs.Alike.{Twin}
use Rattle.positions.specs.Written.{written}
use Rattle.finishing.specs.After.{After}
use Rattle.plan.specs.declared.Measures.{Measures}
use Rattle.checker.specs.declared.Verdict.{Verdict}
use Rattle.checker.specs.declared.Verdict.TheVariants.{Kept, Broken}
use Rattle.read_entry.specs.declared.ReadPlan.{ReadPlan}
use Rattle.plan.specs.declared.Refusal.{Refusal}
use Rattle.listing.specs.Printed.{Bytes, sheet_line, cell_line, lines_joined}
use Rattle.printing.specs.Printing.{text_of}

-- Layout's answer of a sheet, by its width and its rows
abbrev pub sheet_of : (width rows : ℕ) → Result Measures Refusal
sheet_of w h = Ok (record { width = w; rows = h })

-- Read's of a plan, by the number of records and the allowance
abbrev pub plan_of : (count allowance : ℕ) → Result ReadPlan Refusal
plan_of n al = Ok (record { count = n; allowance = al })

-- Check's of a placement that is kept, by its width and its rows, and of one that is broken, by the rule and the pair
abbrev pub kept_of : (width rows : ℕ) → Result Verdict Refusal
kept_of w h = Ok (Kept (record { width = w; rows = h }))

abbrev pub breach_of : (rule a b : ℕ) → Result Verdict Refusal
breach_of r a b = Ok (Broken (record { rule = r; a = a; b = b }))

-- a refusal, by its number and its cell
abbrev pub refusing : {A : Type 0} → (number cell : ℕ) → Result A Refusal
refusing k c = Err (record { number = k; cell = c })

-- Layout: our sheet of this width and these rows, written into the positions, with the scratch cleared
pub record Gives (t : Table) (al : ℕ) (s s' : List ℕ) (ps ps' : List ℤ) (r : Result Measures Refusal) : Type 0 where
  pub w : ℕ
  pub h : ℕ
  pub answers : r ≡ sheet_of w h
  pub wide : pos w ≡ width t (sheet t al)
  pub deep : pos h ≡ rows t (sheet t al)
  pub positions : ps' ≡ written ps (sheet t al) (length t)
  pub scratch : s' ≡ replicate scratch_size 0 ++ drop scratch_size s

-- Layout twice: c, of the subtree of a, has exactly one twin in the subtree of b, and stands to a on the one sheet as that to b on the other
pub record PlacedTwin (t u : Table) (p q : Placement) (a b c : ℕ) : Type 0 where
  pub twin : Twin t u a b c
  pub across : p.x c -ℤ p.x a ≡ q.x twin.cell -ℤ q.x b
  pub down : p.y c -ℤ p.y a ≡ q.y twin.cell -ℤ q.y b

-- Check: the placement keeps S1 to S5, and this is its width and these are its rows
pub record Judged (t : Table) (p : Placement) (al w h : ℕ) : Type 0 where
  pub keeps : Keeps t p al
  pub wide : width t p ≡ pos w
  pub deep : rows t p ≡ pos h

-- List: every byte of the listing, and after it the output as it was
pub record Listing (f out out' : Bytes) (r : Result ℕ Refusal) : Type 0 where
  pub answers : r ≡ Ok (length (text_of f))
  pub bytes : out' ≡ text_of f ++ drop (length (text_of f)) out
  pub suffices : length (text_of f) ≤ listing_size

-- List: the lines of a printed sheet (document 01, "Printed"): n cells at this allowance, of this width and these rows; then each cell with its position, its width and depth, and its label
unfoldable pub printed_cell : Table → Placement → (label : ℕ → Bytes) → (cell : ℕ) → Bytes
printed_cell t p label c = cell_line c (p.x c) (p.y c) (box_width t c) (box_depth t c) (label c)

unfoldable pub printed_sheet : Table → (n allowance width rows : ℕ) → Placement → (label : ℕ → Bytes) → Bytes
printed_sheet t n al w h p label = lines_joined (sheet_line n al w h ∷ map (printed_cell t p label) (from 0 n))

-- Step, from a start on: the cells that were answered so far, one after another
unfoldable pub told : {t : Table} {al k : ℕ} {xs ms : List ℕ} → After t al k xs ms → List ℕ
told (After.began s) = []
told (After.stepped {c = c} a g) = told a ++ (c ∷ [])
told (After.refused a g) = told a
told (After.done a g) = told a

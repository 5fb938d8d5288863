-- The reader as the code does it: parts of a line from a place on. Nothing that a reader must believe stands here. Assumes nothing.
use Rattle.std.specs.Prelude.{◌≡◌, List, [], ◌∷◌, Bool, true, false, ◌&&◌, cond, ℕ, ◌+◌, ◌-◌, ◌*◌, ◌≤◌, eqb, length, take, drop}
use Rattle.std.proofs.Math.Option.{Option, none, some}
use Rattle.listing.specs.Printed.{Bytes}
use Rattle.std.specs.Prelude.{Option as Maybe, Some, None, IfSome, Result, Ok, Err, IfOk}
use Rattle.outline_spec.specs.declared.Fault.{Fault}
use Rattle.outline_spec.specs.declared.Fault.TheVariants.{UnknownWord}
use Rattle.outline_spec.specs.Understood.{Number, absent, large, read, Indented, odd, level, Line, wrong, parted, optional, labelled, named, fields_read, kinds}
use Rattle.compose_fields.specs.declared.Digits.{Digits}
use Rattle.compose_fields.specs.declared.DigitsError.{DigitsError}
use Rattle.compose_fields.specs.declared.DigitsError.TheVariants.{Absent, Large}
use Rattle.compose_fields.specs.declared.Optional.{Optional}
use Rattle.compose_fields.specs.declared.Part.{Part}
use Rattle.compose_fields.specs.declared.Named.{Named}

unfoldable pub begins : Bytes → Bytes → Bool
begins [] t = true
begins (w ∷ ws) [] = false
begins (w ∷ ws) (b ∷ bs) = elim (eqb w b) [ true ↦ begins ws bs | false ↦ false ]

-- a number as the code has it: what follows it is the line from a place on
unfoldable pub number_in : Bytes → Result Digits DigitsError → Number
number_in line (Ok d) = read d.value (drop d.next line)
number_in line (Err Absent) = absent
number_in line (Err Large) = large

pub record Numbers (line : Bytes) (most : ℕ) (x : Number) (r : Result Digits DigitsError) : Type 0 where
  pub says : number_in line r ≡ x
  pub small : IfOk r (λ d. d.value ≤ most)
  pub inside : IfOk r (λ d. d.next ≤ length line)

-- the level as the code has it: its blanks are the first of the line
unfoldable pub level_in : Bytes → Maybe ℕ → Indented
level_in line None = odd
level_in line (Some l) = level l (drop (2 * l) line)

pub record Levels (line : Bytes) (x : Indented) (r : Maybe ℕ) : Type 0 where
  pub says : level_in line r ≡ x
  pub started : IfSome r (λ l. 2 * l ≤ length line)

-- a word and its number as the code has them
unfoldable pub given_of : Optional → Option ℕ
given_of o = elim o.value [ Some v ↦ some v | None ↦ none ]

unfoldable pub went : Bytes → Result Optional Fault → (Option ℕ → Bytes → Line) → Line
went line (Ok o) rest = rest (given_of o) (drop o.next line)
went line (Err f) rest = wrong f

pub record Options (word : Bytes) (most : ℕ) (line : Bytes) (at : ℕ) (r : Result Optional Fault) : Type 0 where
  pub follows : (rest : Option ℕ → Bytes → Line) → optional word most rest (drop at line) ≡ went line r rest
  pub inside : IfOk r (λ o. o.next ≤ length line)
  pub small : IfOk r (λ o. IfSome o.value (λ v. v ≤ most))

-- a label
unfoldable pub text_in : Bytes → Part → Bytes
text_in line p = take (p.end - p.start) (drop p.start line)

unfoldable pub label_in : Bytes → Result Part Fault → (Bytes → Line) → Line
label_in line (Ok p) rest = rest (text_in line p)
label_in line (Err f) rest = wrong f

pub record Labels (line : Bytes) (at : ℕ) (r : Result Part Fault) : Type 0 where
  pub follows : (rest : Bytes → Line) → labelled rest (drop at line) ≡ label_in line r rest
  pub upward : IfOk r (λ p. p.start ≤ p.end)
  pub inside : IfOk r (λ p. p.end ≤ length line)

-- a kind
unfoldable pub word_at : Bytes → Bytes → ℕ → Maybe ℕ
word_at w line at = cond (begins w (drop at line) && parted (drop (at + length w) line)) (Some (at + length w)) None

unfoldable pub name_in : (c : ℕ) (seen : List ℕ) (l : ℕ) → Bytes → Maybe Named → Line
name_in c seen l line None = wrong UnknownWord
name_in c seen l line (Some n) = fields_read c seen l n.kind (drop n.next line)

pub record Names (line : Bytes) (at : ℕ) (r : Maybe Named) : Type 0 where
  pub follows : (c : ℕ) (seen : List ℕ) (l : ℕ) → named c seen l kinds (drop at line) ≡ name_in c seen l line r
  pub inside : IfSome r (λ n. n.next ≤ length line)

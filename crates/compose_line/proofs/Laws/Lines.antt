-- A whole line, as the code reads it. Assumes nothing.
use Rattle.std.proofs.Math.Path.{◌≡◌, refl, ap}
use Rattle.std.proofs.Common.{sym, ◌∙◌}
use Rattle.std.specs.Prelude.{List, Bool, true, false, ℕ, ◌*◌, ◌≤◌, ◌<◌, length, take, drop, leb, Some, None, Result, Ok, Err, ⊤}
use Rattle.std.proofs.Math.Option.{Option, none, some}
use Rattle.std.proofs.Math.Seq.{take-length}
use borrow.Author.Tests.{le-leb, lt-leb, leb-true}
use Rattle.plan.specs.Limits.{between, first_letter, last_letter}
use Rattle.plan.specs.Questions.{every}
use Rattle.listing.specs.Printed.{Bytes}
use Rattle.outline_spec.specs.declared.Fault.{Fault}
use Rattle.outline_spec.specs.declared.Fault.TheVariants.{StrangeByte, LongLine, OddBlanks, UnknownWord}
use Rattle.outline_spec.specs.Understood.{Indented, odd, level, Line, wrong, indented, clear, named, kinds, fields_read, line}
use Rattle.compose_fields.specs.Steps.{level_in, Levels, name_in, Names}
use Rattle.compose_line.specs.Steps.{cleared, Tells}
use Rattle.compose_line.proofs.Laws.Cells.{tells_wrong}
use Rattle.compose_fields.specs.declared.Named.{Named}
use Rattle.compose_line.specs.declared.Told.{Told}

-- ---- the kind's word
module _ (c : ℕ) (seen : List ℕ) (l : ℕ) (b : Bytes) (at : ℕ) where
  pub worded_none : (o : Rattle.std.specs.Prelude.Option Named) → Names b at o → ((n : Named) → o ≡ Some n → ⊥) → Tells b (named c seen l kinds (drop at b)) (Err UnknownWord)
  unfolding name_in
  worded_none None h n = tells_wrong b _ UnknownWord (h.follows c seen l)
  worded_none (Some m) h n = absurd (n m refl)

  pub worded_goes : (n : Named) → Names b at (Some n) → (r : Result Told Fault) → Tells b (fields_read c seen l n.kind (drop n.next b)) r → Tells b (named c seen l kinds (drop at b)) r
  unfolding name_in
  worded_goes n h r t = rw (h.follows c seen l) t

-- ---- a line
abbrev letter : ℕ → Bool
letter = between first_letter last_letter

module _ (b : Bytes) where
  strange_is : every letter b ≡ false → clear b ≡ some StrangeByte
  unfolding clear
  strange_is e = rw (e, clear) refl

  over-is : every letter b ≡ true → 255 < length b → clear b ≡ some LongLine
  unfolding clear
  over-is e h = rw (e, clear, lt-leb (length b) 255 h) refl

  so_is : every letter b ≡ true → length b ≤ 255 → clear b ≡ none
  unfolding clear
  so_is e h = rw (e, clear, le-leb (length b) 255 h) refl

  pub clear-strange : every letter (take (length b) b) ≡ false → Err StrangeByte ≡ cleared (clear b)
  unfolding cleared
  clear-strange e = ap cleared (sym (strange_is (rw (take-length b) at e)))

  pub clear-over : every letter (take (length b) b) ≡ true → 255 < length b → Err LongLine ≡ cleared (clear b)
  unfolding cleared
  clear-over e h = ap cleared (sym (over-is (rw (take-length b) at e) h))

  pub clear-so : every letter (take (length b) b) ≡ true → length b ≤ 255 → Ok tt ≡ cleared (clear b)
  unfolding cleared
  clear-so e h = ap cleared (sym (so_is (rw (take-length b) at e) h))

pub clear_err : (o : Option Fault) (f : Fault) → Err f ≡ cleared o → o ≡ some f
unfolding cleared
clear_err none f e = cc
clear_err (some g) f e = cc

pub clear_ok : (o : Option Fault) (u : ⊤) → Ok u ≡ cleared o → o ≡ none
unfolding cleared
clear_ok none u e = refl
clear_ok (some g) u e = cc

short_line : (b : Bytes) → clear b ≡ none → length b ≤ 255
unfolding clear
short_line b e = go (every letter b) (leb (length b) 255) refl e
  where
    go : (y z : Bool) → leb (length b) 255 ≡ z → ◌≡◌ {A = Option Fault} (elim y [ false ↦ some StrangeByte | true ↦ elim z [ true ↦ none | false ↦ some LongLine ] ]) none → length b ≤ 255
    go true true a q = leb-true (length b) 255 a
    go true false a q = cc
    go false z a q = cc

opened : (c : ℕ) (seen : List ℕ) → Indented → Line
opened c seen odd = wrong OddBlanks
opened c seen (level l t) = named c seen l kinds t

lined : (c : ℕ) (seen : List ℕ) (b : Bytes) → Option Fault → Line
lined c seen b (some f) = wrong f
lined c seen b none = opened c seen (indented 0 b)

line_is : (c : ℕ) (seen : List ℕ) (b : Bytes) → line c seen b ≡ lined c seen b (clear b)
unfolding line opened lined
line_is c seen b = go (clear b)
  where
    more : (x : Indented) → ◌≡◌ {A = Line} (elim x [ odd ↦ wrong OddBlanks | level l t ↦ named c seen l kinds t ]) (opened c seen x)
    more odd = refl
    more (level l t) = refl

    go : (o : Option Fault) → ◌≡◌ {A = Line} (elim o [ some f ↦ wrong f | none ↦ elim (indented 0 b) [ odd ↦ wrong OddBlanks | level l t ↦ named c seen l kinds t ] ]) (lined c seen b o)
    go (some f) = refl
    go none = more (indented 0 b)

module _ (c : ℕ) (seen : List ℕ) (b : Bytes) where
  pub read_unclear : (f : Fault) → Err f ≡ cleared (clear b) → line c seen b ≡ wrong f
  unfolding lined
  read_unclear f e = line_is c seen b ∙ ap (lined c seen b) (clear_err (clear b) f e)

  module _ (u : ⊤) (e : Ok u ≡ cleared (clear b)) where
    opens : (x : Rattle.std.specs.Prelude.Option ℕ) → Levels b (indented 0 b) x → line c seen b ≡ opened c seen (level_in b x)
    unfolding lined
    opens x k = line_is c seen b ∙ ap (lined c seen b) (clear_ok (clear b) u e) ∙ ap (opened c seen) (sym k.says)

    pub read-odd : Levels b (indented 0 b) None → Tells b (line c seen b) (Err OddBlanks)
    unfolding opened level_in
    read-odd k = tells_wrong b _ OddBlanks (opens None k)

    pub read-on : (l : ℕ) (r : Result Told Fault) → Levels b (indented 0 b) (Some l) → Tells b (named c seen l kinds (drop (2 * l) b)) r → Tells b (line c seen b) r
    unfolding opened level_in
    read-on l r k t = rw (opens (Some l) k) t

    pub clear_short : length b ≤ 255
    clear_short = short_line b (clear_ok (clear b) u e)

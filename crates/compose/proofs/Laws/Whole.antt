-- The first line, and the whole text, as the code reads them. Assumes nothing.
use Rattle.std.proofs.Math.Path.{◌≡◌, refl, sym, ap}
use Rattle.std.proofs.Common.{◌∙◌, arith}
use mathlib.Core.List.{List, [], ◌∷◌}
use Rattle.std.specs.Prelude.{Result, Ok, Err, IsErrAnd, ⊤, ℕ, ◌+◌, ◌≤◌, ◌<◌, length, get_or, take}
use Rattle.std.proofs.Math.Bool.{true, false}
use Rattle.std.proofs.Math.Option.{Option, none, some}
use Rattle.std.proofs.Math.ListN.{drop}
use Rattle.plan.specs.Limits.{most_allowance}
use Rattle.listing.specs.Printed.{Bytes}
use Rattle.outline_spec.specs.Outline.{allowance_word}
use Rattle.outline_spec.specs.declared.Fault.{Fault}
use Rattle.outline_spec.specs.Understood.{read, First, no_first, allowed, cells, lines, after, number, clear, all_read, first, Understood, fault, with_allowance, by_lines, understood}
use Rattle.outline_spec.specs.declared.Fault.TheVariants.{EmptyText, NoAllowance, LargeNumber}
use Rattle.compose_fields.specs.Steps.{begins, number_in, Numbers}
use Rattle.compose_line.specs.Steps.{cleared}
use Rattle.compose_line.proofs.Laws.Lines.{clear_err, clear_ok}
use Rattle.compose.specs.Steps.{line_long, past_line}
use Rattle.compose.specs.Meaning.{cells_in, first_in, meaning}
use Rattle.compose.specs.State.{Reads, Understands}
use Rattle.compose_fields.proofs.Laws.Parts.{after-begins, past_end, from_place}
use Rattle.compose.proofs.Laws.Lines.{past_drop}
use Rattle.compose.proofs.Laws.Loop.{lines_from}
use Rattle.compose_fields.specs.declared.Digits.{Digits}
use Rattle.compose_fields.specs.declared.DigitsError.{DigitsError}
use Rattle.compose_fields.specs.declared.DigitsError.TheVariants as digits
use Rattle.compose.specs.declared.Misread.{Misread}
use Rattle.compose.specs.declared.State.{State}
use Rattle.compose.specs.declared.Understanding.{Understanding}

firsts : Bytes → Option Bytes → First
firsts b none = no_first NoAllowance
firsts b (some s) = all_read (number most_allowance s)

cleared_first : Bytes → Option Fault → First
cleared_first b (some f) = no_first f
cleared_first b none = firsts b (after allowance_word b)

first-is : (b : Bytes) → first b ≡ cleared_first b (clear b)
unfolding first firsts cleared_first
first-is b = go (clear b)
  where
    more : (o : Option Bytes) → ◌≡◌ {A = First} (elim o [ none ↦ no_first NoAllowance | some s ↦ all_read (number most_allowance s) ]) (firsts b o)
    more none = refl
    more (some s) = refl

    go : (o : Option Fault) → ◌≡◌ {A = First} (elim o [ some f ↦ no_first f | none ↦ elim (after allowance_word b) [ none ↦ no_first NoAllowance | some s ↦ all_read (number most_allowance s) ] ]) (cleared_first b o)
    go (some f) = refl
    go none = more (after allowance_word b)

module _ (b : Bytes) where
  pub first_unclear : (f : Fault) (r : Result ℕ Fault) → Err f ≡ cleared (clear b) → IsErrAnd r (λ d. d ≡ f) → first_in r ≡ first b
  unfolding cleared_first first_in
  first_unclear f (Ok v) e p = absurd p
  first_unclear f (Err g) e p = ap no_first p ∙ sym (first-is b ∙ ap (cleared_first b) (clear_err (clear b) f e))

  module _ (u : ⊤) (e : Ok u ≡ cleared (clear b)) where
    first-clear : first b ≡ firsts b (after allowance_word b)
    unfolding cleared_first
    first-clear = first-is b ∙ ap (cleared_first b) (clear_ok (clear b) u e)

    pub first-other : begins allowance_word (drop 0 b) ≡ false → first_in (Err NoAllowance) ≡ first b
    unfolding firsts first_in
    first-other q = sym (first-clear ∙ ap (firsts b) (after-begins allowance_word b) ∙ rw q refl)

    module _ (q : begins allowance_word (drop 0 b) ≡ true) (d : Result Digits DigitsError) (n : Numbers b 65535 (number 65535 (drop 10 b)) d) where
      read-is : first b ≡ all_read (number_in b d)
      unfolding firsts
      read-is = first-clear ∙ ap (firsts b) (after-begins allowance_word b) ∙ rw q (ap all_read (sym n.says))

      pub first_absent : d ≡ Err digits.Absent → first_in (Err NoAllowance) ≡ first b
      unfolding all_read number_in first_in
      first_absent k = sym (read-is ∙ ap (λ x. all_read (number_in b x)) k)

      pub first-large : d ≡ Err digits.Large → first_in (Err LargeNumber) ≡ first b
      unfolding all_read number_in first_in
      first-large k = sym (read-is ∙ ap (λ x. all_read (number_in b x)) k)

      all_cons : (v : ℕ) (s : Bytes) → 1 ≤ length s → all_read (read v s) ≡ no_first NoAllowance
      unfolding all_read
      all_cons v [] l = absurd (omega arith)
      all_cons v (x ∷ s) l = refl

      pub first_more : (v : Digits) → d ≡ Ok v → v.next < length b → first_in (Err NoAllowance) ≡ first b
      unfolding number_in first_in
      first_more v p l =
          sym (read-is ∙ ap (λ x. all_read (number_in b x)) p ∙ ap (λ s. all_read (read v.value s)) (from_place b v.next l) ∙ all_cons v.value (get_or b v.next 0 ∷ drop (v.next + 1) b) (omega arith))

      pub first_read : (v : Digits) → d ≡ Ok v → length b ≤ v.next → first_in (Ok v.value) ≡ first b
      unfolding number_in all_read first_in
      first_read v p l = sym (read-is ∙ ap (λ x. all_read (number_in b x)) p ∙ ap (λ s. all_read (read v.value s)) (past_end b v.next l))

-- ---- the whole
pub text-empty : (text letters : List ℕ) → length text ≡ 0 → Understands text letters (Err (record { line = 1; fault = EmptyText }))
unfolding understood by_lines lines meaning
text-empty [] letters e = record { answers = refl; room = tt; tight = tt }
text-empty (b ∷ t) letters e = absurd (omega arith)

module _ (text : List ℕ) (end : ℕ) (h : 0 < length text) (e : end ≡ 0 + line_long (drop 0 text)) where
  end_is : line_long (drop 0 text) ≡ end
  end_is = omega (arith, e)

  lines_are : lines text ≡ take end text ∷ lines (drop (end + 1) text)
  lines_are =
      let q : 0 + line_long (drop 0 text) ≡ end = sym e in
      lines_from text 0 h ∙ ap (λ n. take (line_long (drop 0 text)) text ∷ lines (drop (n + 1) text)) q ∙ ap (λ n. take n text ∷ lines (drop (end + 1) text)) end_is

  starting : First → Understood
  starting (no_first f) = fault 1 f
  starting (allowed al) = with_allowance al (cells 0 [] (lines (drop (end + 1) text)))

  understood-is : understood text ≡ starting (first (take end text))
  unfolding understood by_lines starting
  understood-is = ap by_lines lines_are ∙ go (first (take end text))
    where
      go : (x : First) → ◌≡◌ {A = Understood} (elim x [ no_first f ↦ fault 1 f | allowed al ↦ with_allowance al (cells 0 [] (lines (drop (end + 1) text))) ]) (starting x)
      go (no_first f) = refl
      go (allowed al) = refl

  module _ (letters : List ℕ) where
    pub text-first : (f : Fault) → first_in (Err f) ≡ first (take end text) → Understands text letters (Err (record { line = 1; fault = f }))
    unfolding starting first_in meaning
    text-first f p = record { answers = sym (understood-is ∙ ap starting (sym p)); room = tt; tight = tt }

    -- the lines after the first, read
    module _ (al : ℕ) (p : first_in (Ok al) ≡ first (take end text)) where
      after_first : understood text ≡ with_allowance al (cells 0 [] (lines (drop (end + 1) text)))
      unfolding starting first_in
      after_first = understood-is ∙ ap starting (sym p)

      rest-is : (s : Result State Misread) → Reads text (past_line (length text) end) letters s → with_allowance al (cells_in letters s) ≡ understood text
      rest-is s r = ap (with_allowance al) (r.answers ∙ ap (λ x. cells 0 [] (lines x)) (past_drop text end)) ∙ sym after_first

      pub text-wrong : (m : Misread) (r : Result Understanding Misread) → Reads text (past_line (length text) end) letters (Err m) → IsErrAnd r (λ d. d ≡ m) → Understands text letters r
      unfolding meaning cells_in with_allowance
      text-wrong m (Ok u) r p = absurd p
      text-wrong m (Err n) r p = rw p (record { answers = rest-is (Err m) r; room = tt; tight = tt })

      pub text-rest : (s : State) → Reads text (past_line (length text) end) letters (Ok s) → Understands text letters (Ok (record { allowance = al; used = s.used; table = s.table }))
      unfolding meaning cells_in with_allowance
      text-rest s r = record { answers = rest-is (Ok s) r; room = r.room; tight = r.tight }

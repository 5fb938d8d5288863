-- The digits one after the other, as the code reads them; a number that is printed, read back. Assumes nothing.
use Rattle.std.specs.Prelude.{◌≡◌, refl, [], ◌∷◌, ◌++◌, ℕ, zero, suc, ◌+◌, ◌-◌, ◌*◌, ◌/◌, ◌%◌, ◌≤◌, ◌<◌, length, get_or, take, drop, Some, None, Option, SomeIff}
use Rattle.std.proofs.Common.{ap, sym, ◌∙◌, add-one, arith, length-append, take-suc, take_all}
use Rattle.std.proofs.lemmas.List.{take-append-drop}
use Rattle.std.proofs.Math.Decide.{dec_lt}
use Rattle.whole.proofs.Laws.Says.{is_true, is_false, says_le}
use Rattle.listing.specs.Printed.{Bytes, digit, decimal}
use Rattle.listing.proofs.Laws.Printed.{decimal-one, decimal-more}
use Rattle.argument_number.specs.Number.{no_number, with_digit, with_digits, number_in}

-- ---- one digit: a byte below 48, above 57, a number that is too great, one that is not
module _ (n b : ℕ) where
  pub byte_low : b < 48 → None ≡ with_digit (Some n) b
  unfolding with_digit
  byte_low h = rw (is_false (says_le 48 b) (λ k. absurd (omega arith)))

  pub byte_high : 57 < b → None ≡ with_digit (Some n) b
  unfolding with_digit
  byte_high h = rw (is_true (says_le 48 b) (omega arith), is_false (says_le b 57) (λ k. absurd (omega arith)))

  module _ (low : 48 ≤ b) (high : b ≤ 57) where
    pub digit_great : no_number ≤ 10 * n + (b - 48) → None ≡ with_digit (Some n) b
    unfolding with_digit
    digit_great h = rw (is_true (says_le 48 b) low, is_true (says_le b 57) high, is_true (says_le no_number (10 * n + (b - 48))) h)

    pub digit-fits : 10 * n + (b - 48) < no_number → Some (10 * n + (b - 48)) ≡ with_digit (Some n) b
    unfolding with_digit
    digit-fits h = rw (is_true (says_le 48 b) low, is_true (says_le b 57) high, is_false (says_le no_number (10 * n + (b - 48))) (λ k. absurd (omega arith)))

    -- the sum that fits
    pub digit_added : (o : Option ℕ) (m d : ℕ) → m ≡ n * 10 → d ≡ b - 48 → SomeIff o (m + d < no_number) (m + d) → o ≡ with_digit (Some n) b
    digit_added None m d e f h = digit_great (omega (arith, h))
    digit_added (Some x) m d e f h = let q : x ≡ 10 * n + (b - 48) = omega (arith, h.1) in ap Some q ∙ digit-fits (omega (arith, h.0))

-- ---- several
digits_append : (n : Option ℕ) (s t : Bytes) → with_digits n (s ++ t) ≡ with_digits (with_digits n s) t
unfolding with_digits
digits_append n [] t = refl
digits_append n (b ∷ s) t = digits_append (with_digit n b) s t

pub digits-none : Some 0 ≡ with_digits (Some 0) []
unfolding with_digits
digits-none = refl

digits_last : (n : Option ℕ) (b : ℕ) → with_digits n (b ∷ []) ≡ with_digit n b
unfolding with_digits
digits_last n b = refl

none-stays : (s : Bytes) → with_digits None s ≡ None
unfolding with_digits with_digit
none-stays [] = refl
none-stays (b ∷ s) = none-stays s

pub digits_more : (s : Bytes) (i : ℕ) (n m : Option ℕ) → i < length s → n ≡ with_digits (Some 0) (take i s) → m ≡ with_digit n (get_or s i 0) → m ≡ with_digits (Some 0) (take (i + 1) s)
digits_more s i n m h e q =
    q ∙ rw (add-one, take-suc s i 0 h, digits_append (Some 0) (take i s) (get_or s i 0 ∷ []), digits_last (with_digits (Some 0) (take i s)) (get_or s i 0), ← e)

-- ---- the text
pub no_text : (s : Bytes) → length s ≡ 0 → None ≡ number_in s
unfolding number_in
no_text [] h = refl
no_text (b ∷ s) h = absurd (omega arith)

some-text : (s : Bytes) → 1 ≤ length s → with_digits (Some 0) s ≡ number_in s
unfolding number_in
some-text [] h = absurd (omega arith)
some-text (b ∷ s) h = refl

pub whole-text : (s : Bytes) (i : ℕ) (n : Option ℕ) → ¬ (length s ≡ 0) → length s ≤ i → n ≡ with_digits (Some 0) (take i s) → n ≡ number_in s
whole-text s i n z h e = e ∙ ap (with_digits (Some 0)) (take_all i s h) ∙ some-text s (omega arith)

-- a byte that leaves no number
pub no-more : (s : Bytes) (i : ℕ) (n : Option ℕ) → i < length s → n ≡ with_digits (Some 0) (take i s) → None ≡ with_digit n (get_or s i 0) → None ≡ number_in s
no-more s i n h e q =
    let f : None ≡ with_digits (Some 0) (take (i + 1) s) = digits_more s i n None h e q in
    let g = digits_append (Some 0) (take (i + 1) s) (drop (i + 1) s) in
    let a : with_digits (Some 0) s ≡ None = rw (take-append-drop (i + 1) s, ← f, none-stays) at g in
    sym a ∙ some-text s (omega arith)

-- ---- a number that is printed, read back
module _ (n : ℕ) where
  digit-read : (d : ℕ) → d < 10 → 10 * n + d < no_number → with_digit (Some n) (digit d) ≡ Some (10 * n + d)
  digit-read d l h =
      let e : 10 * n + (48 + d - 48) ≡ 10 * n + d = omega arith in
      sym (digit-fits n (48 + d) (omega arith) (omega arith) (omega arith)) ∙ ap Some e

decimal-read : (k n : ℕ) → n ≤ k → n < no_number → with_digits (Some 0) (decimal n) ≡ Some n
decimal-read zero n h l = rw (decimal-one n (omega arith), digits_last (Some 0) (digit n), digit-read 0 n (omega arith) (omega arith)) (ap Some (omega arith))
decimal-read (suc k) n h l =
    let front = decimal-read k (n / 10) in
    elim (dec_lt n 10) [
      | yes p ↦ rw (decimal-one n p, digits_last (Some 0) (digit n), digit-read 0 n p (omega arith)) (ap Some (omega arith))
      | no p ↦ rw (decimal-more n (omega arith), digits_append (Some 0) (decimal (n / 10)) (digit (n % 10) ∷ []), front (omega arith) (omega arith), digits_last (Some (n / 10)) (digit (n % 10)), digit-read (n / 10) (n % 10) (omega arith) (omega arith)) (ap Some (omega arith))
    ]

decimal-some : (n : ℕ) → 1 ≤ length (decimal n)
decimal-some n =
    elim (dec_lt n 10) [
      | yes p ↦ rw (decimal-one n p) (omega arith)
      | no p ↦ rw (decimal-more n (omega arith), length-append) (omega arith)
    ]

pub decimal-number : (n : ℕ) → n < no_number → number_in (decimal n) ≡ Some n
decimal-number n l = rw (← some-text (decimal n) (decimal-some n)) (decimal-read n n (omega arith) l)

-- The parts of a line, as the code reads them. Assumes nothing.
use Rattle.std.specs.Prelude.{◌≡◌, refl, [], ◌∷◌, Bool, true, false, ◌&&◌, cond, ℕ, zero, suc, ◌+◌, ◌-◌, ◌*◌, ◌/◌, ◌%◌, ◌≤◌, ◌<◌, eqb, length, get_or, take, drop}
use Rattle.std.proofs.Math.Path.{sym}
use Rattle.std.proofs.Math.Seq.{take-length}
use Rattle.std.proofs.Common.{ap, length-drop, ◌∙◌, add-one, drop_of_length-le, drop-cons, eq-eqb, ne_eqb, le-leb}
use Rattle.std.proofs.Math.Option.{Option, none, some}
use native.Mathlib.Omega.{arith}
use Rattle.std.proofs.Math.Decide.{ℕ_discrete}
use Rattle.std.proofs.lemmas.Bool.{lt-leb}
use Rattle.listing.specs.Printed.{Bytes, digit}
use Rattle.outline_spec.specs.Understood.{Number, absent, large, read, Indented, odd, level, after, is_digit, number_from, number, indented, parted}
use Rattle.std.specs.Prelude.{Some, None, Ok, Err, nat_eq}
use Rattle.std.specs.List.{starts_with}
use Rattle.std.specs.Char.{is_ascii_digit}
use Rattle.compose_fields.specs.Steps.{begins, number_in, Numbers, level_in, Levels}
use Rattle.compose_fields.specs.declared.DigitsError.TheVariants as digits

-- ---- a word
pub after-begins : (w t : Bytes) → after w t ≡ cond (begins w t) (some (drop (length w) t)) none
unfolding after begins
after-begins [] t = refl
after-begins (x ∷ w) [] = refl
after-begins (x ∷ w) (b ∷ t) = go (eqb x b) (after-begins w t)
  where
    go : (y : Bool) → after w t ≡ cond (begins w t) (some (drop (length w) t)) none
        → ◌≡◌ {A = Option Bytes} (elim y [ true ↦ after w t | false ↦ none ]) (cond (elim y [ true ↦ begins w t | false ↦ false ]) (some (drop (length w) t)) none)
    go true h = h
    go false h = refl

-- the line from a place on, taken apart
pub from_place : (line : Bytes) (i : ℕ) → i < length line → drop i line ≡ get_or line i 0 ∷ drop (i + 1) line
from_place line i h = rw add-one (drop-cons line i 0 h)

pub past_end : (line : Bytes) (i : ℕ) → length line ≤ i → drop i line ≡ []
past_end line i h = drop_of_length-le line {i = i} h

-- the line from a place on, as a slice
pub rest_is : (line : Bytes) (at : ℕ) → take (length line - at) (drop at line) ≡ drop at line
rest_is line at = rw (← length-drop at line) (take-length (drop at line))

-- the library's test is the definition's
pub starts-begins : (w t : Bytes) → starts_with nat_eq t w ≡ begins w t
unfolding begins
starts-begins [] t = refl
starts-begins (x ∷ w) [] = refl
starts-begins (x ∷ w) (b ∷ t) = go (eqb x b) (starts-begins w t)
  where
    go : (y : Bool) → starts_with nat_eq t w ≡ begins w t → (y && starts_with nat_eq t w) ≡ elim y [ true ↦ begins w t | false ↦ false ]
    go true h = h
    go false h = refl

-- ---- a number
-- the library's test is the definition's
pub digit-is : (b : ℕ) (y : Bool) → y ≡ is_ascii_digit b → (z : Bool) → y ≡ z → is_digit b ≡ z
unfolding is_digit
digit-is b y e z q = sym e ∙ q

from-other : (m a b : ℕ) (t : Bytes) → is_digit b ≡ false → number_from m a (b ∷ t) ≡ read a (b ∷ t)
unfolding number_from
from-other m a b t e = rw (e, number_from) refl

from-large : (m a b : ℕ) (t : Bytes) → is_digit b ≡ true → m < 10 * a + (b - digit 0) → number_from m a (b ∷ t) ≡ large
unfolding number_from
from-large m a b t e l = rw (e, number_from, lt-leb (10 * a + (b - digit 0)) m l, number_from) refl

from-digit : (m a b : ℕ) (t : Bytes) → is_digit b ≡ true → 10 * a + (b - digit 0) ≤ m → number_from m a (b ∷ t) ≡ number_from m (10 * a + (b - digit 0)) t
unfolding number_from
from-digit m a b t e l = rw (e, number_from, le-leb (10 * a + (b - digit 0)) m l, number_from) refl

module _ (line : Bytes) (m : ℕ) (x : Number) where
  read_here : (a i : ℕ) → x ≡ read a (drop i line) → a ≤ m → i ≤ length line → Numbers line m x (Ok (record { value = a; next = i }))
  unfolding number_in
  read_here a i e h l = record { says = sym e; small = h; inside = l }

  pub read-absent : x ≡ absent → Numbers line m x (Err digits.Absent)
  unfolding number_in
  read-absent e = record { says = sym e; small = tt; inside = tt }

  read-large : x ≡ large → Numbers line m x (Err digits.Large)
  unfolding number_in
  read-large e = record { says = sym e; small = tt; inside = tt }

  -- the loop: what it has still to read, from i on
  module _ (a i : ℕ) (e : x ≡ number_from m a (drop i line)) (h : a ≤ m) where
    pub digits_other : i < length line → is_digit (get_or line i 0) ≡ false → Numbers line m x (Ok (record { value = a; next = i }))
    digits_other l b = read_here a i (e ∙ rw (from_place line i l) (from-other m a _ _ b)) h (omega arith)

    pub digits-large : (n : ℕ) → i < length line → is_digit (get_or line i 0) ≡ true → n ≡ 10 * a + (get_or line i 0 - 48) → m < n → Numbers line m x (Err digits.Large)
    digits-large n l d q k = read-large (e ∙ rw (from_place line i l) (from-large m a _ _ d (omega (arith, q))))

    pub digits_more : (n : ℕ) → i < length line → is_digit (get_or line i 0) ≡ true → n ≡ 10 * a + (get_or line i 0 - 48) → n ≤ m → x ≡ number_from m n (drop (i + 1) line)
    digits_more n l d q k = e ∙ rw (from_place line i l, q) (from-digit m a _ _ d (omega (arith, q)))

    pub digits-end : i ≡ length line → Numbers line m x (Ok (record { value = a; next = length line }))
    digits-end q = read_here a (length line) (rw q at e ∙ rw (past_end line (length line) (omega arith)) (unfold number_from in refl)) h (omega arith)

number-cons : (m b : ℕ) (t : Bytes) → is_digit b ≡ true → number m (b ∷ t) ≡ number_from m 0 (b ∷ t)
unfolding number
number-cons m b t e = rw (e, number) refl

number_not : (m b : ℕ) (t : Bytes) → is_digit b ≡ false → number m (b ∷ t) ≡ absent
unfolding number
number_not m b t e = rw (e, number) refl

pub number-end : (line : Bytes) (m at : ℕ) → length line ≤ at → number m (drop at line) ≡ absent
unfolding number
number-end line m at h = rw (past_end line at h) refl

pub number_other : (line : Bytes) (m at : ℕ) → at < length line → is_digit (get_or line at 0) ≡ false → number m (drop at line) ≡ absent
number_other line m at h b = rw (from_place line at h) (number_not m _ _ b)

pub number-goes : (line : Bytes) (m at : ℕ) → at < length line → is_digit (get_or line at 0) ≡ true → number m (drop at line) ≡ number_from m 0 (drop at line)
number-goes line m at h d = rw (from_place line at h) (number-cons m _ _ d)

-- ---- blanks
two_from : (line : Bytes) (i : ℕ) → i + 1 < length line → drop i line ≡ get_or line i 0 ∷ get_or line (i + 1) 0 ∷ drop (i + 1 + 1) line
two_from line i h = from_place line i (omega arith) ∙ ap (λ t. get_or line i 0 ∷ t) (from_place line (i + 1) h)

one_from : (line : Bytes) (i : ℕ) → i < length line → length line ≤ i + 1 → drop i line ≡ get_or line i 0 ∷ []
one_from line i h l = from_place line i h ∙ ap (λ t. get_or line i 0 ∷ t) (past_end line (i + 1) l)

-- the two tests of a pair of bytes, whatever follows
both_tests : (l a b : ℕ) (t : Bytes) → Bool → Bool → Indented
both_tests l a b t y z = elim y [ false ↦ level l (a ∷ b ∷ t) | true ↦ elim z [ true ↦ indented (suc l) t | false ↦ odd ] ]

pair_is : (l a b : ℕ) (t : Bytes) → indented l (a ∷ b ∷ t) ≡ both_tests l a b t (eqb a 32) (eqb b 32)
unfolding indented both_tests
pair_is l a b t = refl

two-other : (l a b : ℕ) (t : Bytes) → ¬ (a ≡ 32) → indented l (a ∷ b ∷ t) ≡ level l (a ∷ b ∷ t)
unfolding both_tests
two-other l a b t n = pair_is l a b t ∙ ap (λ y. both_tests l a b t y (eqb b 32)) (ne_eqb a 32 n)

two-odd : (l a b : ℕ) (t : Bytes) → a ≡ 32 → ¬ (b ≡ 32) → indented l (a ∷ b ∷ t) ≡ odd
unfolding both_tests
two-odd l a b t e n = pair_is l a b t ∙ ap (λ y. both_tests l a b t y (eqb b 32)) (eq-eqb a 32 e) ∙ ap (λ y. both_tests l a b t true y) (ne_eqb b 32 n)

two-blanks : (l a b : ℕ) (t : Bytes) → a ≡ 32 → b ≡ 32 → indented l (a ∷ b ∷ t) ≡ indented (suc l) t
unfolding both_tests
two-blanks l a b t e n = pair_is l a b t ∙ ap (λ y. both_tests l a b t y (eqb b 32)) (eq-eqb a 32 e) ∙ ap (λ y. both_tests l a b t true y) (eq-eqb b 32 n)

one-odd : (l a : ℕ) → a ≡ 32 → indented l (a ∷ []) ≡ odd
unfolding indented
one-odd l a e = rw (eq-eqb a 32 e) refl

one-other : (l a : ℕ) → ¬ (a ≡ 32) → indented l (a ∷ []) ≡ level l (a ∷ [])
unfolding indented
one-other l a n = rw (ne_eqb a 32 n) refl

module _ (line : Bytes) where
  level-here : (x : Indented) (l : ℕ) → x ≡ level l (drop (2 * l) line) → 2 * l ≤ length line → Levels line x (Some l)
  unfolding level_in
  level-here x l e h = record { says = sym e; started = h }

  odd-here : (x : Indented) → x ≡ odd → Levels line x None
  unfolding level_in
  odd-here x e = record { says = sym e; started = tt }

  module _ (x : Indented) (l : ℕ) (e : x ≡ indented l (drop (2 * l) line)) where
    blanks-more : 2 * l + 1 < length line → get_or line (2 * l) 0 ≡ 32 → get_or line (2 * l + 1) 0 ≡ 32 → x ≡ indented (suc l) (drop (2 * suc l) line)
    blanks-more h n k =
        let q : 2 * l + 1 + 1 ≡ 2 * suc l = omega arith in
        e ∙ ap (indented l) (two_from line (2 * l) h) ∙ two-blanks l _ _ _ n k ∙ ap (λ i. indented (suc l) (drop i line)) q

    -- the byte after them is no blank
    blanks-other : 2 * l < length line → ¬ (get_or line (2 * l) 0 ≡ 32) → x ≡ level l (drop (2 * l) line)
    blanks-other h n = e ∙ go (ℕ_discrete (length line) (2 * l + 1))
      where
        go : Dec (length line ≡ 2 * l + 1) → indented l (drop (2 * l) line) ≡ level l (drop (2 * l) line)
        go (yes k) = rw (one_from line (2 * l) h (omega arith)) (one-other l _ n)
        go (no k) = rw (two_from line (2 * l) (omega arith)) (two-other l _ _ _ n)

    -- one more blank, and no second
    blanks_one : 2 * l < length line → get_or line (2 * l) 0 ≡ 32 → (2 * l + 1 < length line → ¬ (get_or line (2 * l + 1) 0 ≡ 32)) → x ≡ odd
    blanks_one h n k = e ∙ go (ℕ_discrete (length line) (2 * l + 1))
      where
        go : Dec (length line ≡ 2 * l + 1) → indented l (drop (2 * l) line) ≡ odd
        go (yes z) = rw (one_from line (2 * l) h (omega arith)) (one-odd l _ n)
        go (no z) = rw (two_from line (2 * l) (omega arith)) (two-odd l _ _ _ n (k (omega arith)))

    blanks-end : length line ≤ 2 * l → x ≡ level l (drop (2 * l) line)
    blanks-end h = e ∙ rw (past_end line (2 * l) h) (unfold indented in refl)

  -- so many blanks first, two by two
  blanks_two : (l : ℕ) → 2 * l ≤ length line → ((j : ℕ) → j < 2 * l → get_or line j 0 ≡ 32) → indented 0 line ≡ indented l (drop (2 * l) line)
  blanks_two zero h f = refl
  blanks_two (suc l) h f = blanks-more (indented 0 line) l (blanks_two l (omega arith) (λ j k. f j (omega arith))) (omega arith) (f (2 * l) (omega arith)) (f (2 * l + 1) (omega arith))

  -- so many blanks first, and then another byte or the end
  module _ (n : ℕ) (h : n ≤ length line) (f : (j : ℕ) → j < n → get_or line j 0 ≡ 32) (s : n < length line → ¬ (get_or line n 0 ≡ 32)) where
    pub blanks-odd : ¬ (n % 2 ≡ 0) → Levels line (indented 0 line) None
    blanks-odd z =
        let q : n ≡ 2 * (n / 2) + 1 = omega arith in
        odd-here (indented 0 line) (blanks_one (indented 0 line) (n / 2) (blanks_two (n / 2) (omega arith) (λ j k. f j (omega arith))) (omega arith) (f (2 * (n / 2)) (omega arith)) (rw q at s))

    pub blanks-even : n % 2 ≡ 0 → (l : ℕ) → l ≡ n / 2 → Levels line (indented 0 line) (Some l)
    blanks-even z l e = rw e (level-here (indented 0 line) (n / 2) (go (ℕ_discrete n (length line))) (omega arith))
      where
        q : 2 * (n / 2) ≡ n
        q = omega arith

        go : Dec (n ≡ length line) → indented 0 line ≡ level (n / 2) (drop (2 * (n / 2)) line)
        go (yes k) = blanks-end (indented 0 line) (n / 2) (blanks_two (n / 2) (omega (arith, q)) (λ j k. f j (omega (arith, q)))) (omega (arith, q))
        go (no k) = blanks-other (indented 0 line) (n / 2) (blanks_two (n / 2) (omega (arith, q)) (λ j k. f j (omega (arith, q)))) (omega (arith, q)) (rw (← q) at s (omega arith))

-- ---- the end of a word
pub parted-end : (line : Bytes) (at : ℕ) → length line ≤ at → true ≡ parted (drop at line)
unfolding parted
parted-end line at h = rw (past_end line at h) refl

pub parted-here : (line : Bytes) (at : ℕ) → at < length line → eqb (get_or line at 0) 32 ≡ parted (drop at line)
unfolding parted
parted-here line at h = rw (from_place line at h) refl

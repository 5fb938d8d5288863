-- The parts of a line, read back from what was written. Assumes nothing.
use Rattle.std.specs.Prelude.{◌≡◌, List, [], ◌∷◌, ◌++◌, Bool, true, ℕ, zero, suc, ◌+◌, ◌-◌, ◌*◌, ◌/◌, ◌%◌, ◌≤◌, ◌<◌, T, eqb}
use Rattle.std.proofs.Math.Path.{refl}
use Rattle.std.proofs.Common.{sym, ap, subst, ◌∙◌, append_assoc, arith, eq-eqb, ne_eqb, le-leb}
use Rattle.std.proofs.Math.Bool.{false}
use Rattle.std.proofs.Math.Option.{Option, none, some}
use Rattle.std.proofs.Math.Decide.{dec_lt}
use Rattle.plan.specs.Kinds.{known, about}
use Rattle.listing.specs.Printed.{Bytes, space, digit, decimal}
use Rattle.listing.proofs.Laws.Printed.{decimal-one, decimal-more}
use Rattle.outline_spec.specs.Outline.{word, quote, indent, field, label}
use Rattle.outline_spec.specs.Understood.{Line, read, level, after, is_digit, number_from, number, indented, closed, parted, numbered, optional, labelled, kinds, named, fields_read}

-- ---- these bytes, and what follows them
pub after-back : (w t : Bytes) → after w (w ++ t) ≡ some t
unfolding after
after-back [] t = refl
after-back (b ∷ w) t = rw (eq-eqb b b refl, after) (after-back w t)

-- the first byte of a text, and the second: 0 where there is none
unfoldable pub lead : Bytes → ℕ
lead [] = 0
lead (b ∷ bs) = b

unfoldable pub mark : Bytes → ℕ
mark [] = 0
mark (a ∷ []) = 0
mark (a ∷ b ∷ bs) = b

after-no : (x : ℕ) (ws t : Bytes) → ¬ (lead t ≡ x) → after (x ∷ ws) t ≡ none
unfolding after lead
after-no x ws [] h = refl
after-no x ws (b ∷ t) h = rw (ne_eqb x b (λ e. h (sym e)), after)

pub after-other : (a x : ℕ) (ws t : Bytes) → ¬ (mark t ≡ x) → after (a ∷ x ∷ ws) t ≡ none
unfolding after mark
after-other a x ws [] h = refl
after-other a x ws (b ∷ []) h = go (eqb a b)
  where
    go : (y : Bool) → ◌≡◌ {A = Option Bytes} (elim y [ true ↦ after (x ∷ ws) [] | false ↦ none ]) none
    go true = refl
    go false = refl
after-other a x ws (b ∷ c ∷ t) h = go (eqb a b)
  where
    go : (y : Bool) → ◌≡◌ {A = Option Bytes} (elim y [ true ↦ after (x ∷ ws) (c ∷ t) | false ↦ none ]) none
    go true = after-no x ws (c ∷ t) (λ e. h (unfold lead in e))
    go false = refl

-- ---- numbers
digit_yes : (d : ℕ) → d < 10 → is_digit (digit d) ≡ true
unfolding is_digit
digit_yes d h = rw (le-leb 48 (48 + d) (omega arith), le-leb (48 + d) 57 (omega arith))

pub blank-no : is_digit 32 ≡ false
unfolding is_digit
blank-no = refl

pub nothing-no : is_digit 0 ≡ false
unfolding is_digit
nothing-no = refl

from_byte : (m a b : ℕ) (t : Bytes) → is_digit b ≡ true → 10 * a + (b - digit 0) ≤ m → number_from m a (b ∷ t) ≡ number_from m (10 * a + (b - digit 0)) t
unfolding number_from
from_byte m a b t h l = rw (h, number_from, le-leb (10 * a + (b - digit 0)) m l, number_from) refl

from-digit : (m a d : ℕ) (t : Bytes) → d < 10 → 10 * a + d ≤ m → number_from m a (digit d ∷ t) ≡ number_from m (10 * a + d) t
from-digit m a d t h l =
    let e : 10 * a + (digit d - digit 0) ≡ 10 * a + d = omega arith in
    from_byte m a (digit d) t (digit_yes d h) (omega arith) ∙ ap (λ x. number_from m x t) e

from-decimal : (k m n : ℕ) (t : Bytes) → n ≤ k → n ≤ m → number_from m 0 (decimal n ++ t) ≡ number_from m n t
from-decimal zero m n t h l = rw (decimal-one n (omega arith)) (let e : 10 * 0 + n ≡ n = omega arith in from-digit m 0 n t (omega arith) (omega arith) ∙ rw e refl)
from-decimal (suc k) m n t h l =
    let front = from-decimal k m (n / 10) (digit (n % 10) ∷ t) in
    elim (dec_lt n 10) [
      | yes o ↦ rw (decimal-one n o) (let e : 10 * 0 + n ≡ n = omega arith in from-digit m 0 n t o (omega arith) ∙ rw e refl)
      | no o ↦
          let e : 10 * (n / 10) + n % 10 ≡ n = omega arith in
          rw (decimal-more n (omega arith), append_assoc (decimal (n / 10)) (digit (n % 10) ∷ []) t)
          (front (omega arith) (omega arith) ∙ from-digit m (n / 10) (n % 10) t (omega arith) (omega arith) ∙ rw e refl)
    ]

-- a digit comes first
decimal-lead : (k n : ℕ) (t : Bytes) → n ≤ k → is_digit (lead (decimal n ++ t)) ≡ true
unfolding lead
decimal-lead zero n t h = rw (decimal-one n (omega arith)) (digit_yes n (omega arith))
decimal-lead (suc k) n t h =
    let front = decimal-lead k (n / 10) (digit (n % 10) ∷ t) in
    elim (dec_lt n 10) [
      | yes o ↦ rw (decimal-one n o) (digit_yes n o)
      | no o ↦ rw (decimal-more n (omega arith), append_assoc (decimal (n / 10)) (digit (n % 10) ∷ []) t) (front (omega arith))
    ]

number-digit : (m : ℕ) (s : Bytes) → is_digit (lead s) ≡ true → number m s ≡ number_from m 0 s
unfolding number lead is_digit
number-digit m [] h = absurd (off h)
  where
    off : false ≡ true → ⊥
    off e = subst T (sym e) tt
number-digit m (b ∷ s) h = rw (h, number) refl

from-stop : (m a : ℕ) (t : Bytes) → is_digit (lead t) ≡ false → number_from m a t ≡ read a t
unfolding number_from lead
from-stop m a [] h = refl
from-stop m a (b ∷ t) h = rw (h, number_from) refl

pub number-back : (m n : ℕ) (t : Bytes) → n ≤ m → is_digit (lead t) ≡ false → number m (decimal n ++ t) ≡ read n t
number-back m n t l h = number-digit m (decimal n ++ t) (decimal-lead n n t (omega arith)) ∙ from-decimal n m n t (omega arith) l ∙ from-stop m n t h

-- ---- a word and its number
numbered-back : (m n : ℕ) (rest : Option ℕ → Bytes → Line) (t : Bytes) → n ≤ m → is_digit (lead t) ≡ false → numbered (number m (decimal n ++ t)) rest ≡ rest (some n) t
unfolding numbered
numbered-back m n rest t l h = rw (number-back m n t l h) refl

-- a number that is left out, or is at most m
abbrev pub Most : ℕ → Option ℕ → Type 0
Most m none = T true
Most m (some n) = n ≤ m

pub optional-back : (a x : ℕ) (ws : Bytes) (m : ℕ) (rest : Option ℕ → Bytes → Line) (o : Option ℕ) (t : Bytes) → Most m o → ¬ (mark t ≡ x) → is_digit (lead t) ≡ false
    → optional (a ∷ x ∷ ws) m rest (field (a ∷ x ∷ ws) o ++ t) ≡ rest o t
unfolding optional field
optional-back a x ws m rest none t l n h = rw (after-other a x ws t n, optional) refl
optional-back a x ws m rest (some v) t l n h =
    rw (append_assoc (a ∷ x ∷ ws) (decimal v) t, after-back (a ∷ x ∷ ws) (decimal v ++ t), optional) (numbered-back m v rest t l h)

-- what stands behind a field does not begin a field that was before it, and ends a number
pub field-lead : (x : ℕ) (ws : Bytes) (o : Option ℕ) (t : Bytes) → is_digit (lead t) ≡ false → is_digit (lead (field (space ∷ x ∷ ws) o ++ t)) ≡ false
unfolding field lead
field-lead x ws none t h = h
field-lead x ws (some v) t h = blank-no

pub field-mark : (a x y : ℕ) (ws : Bytes) (o : Option ℕ) (t : Bytes) → ¬ (x ≡ y) → ¬ (mark t ≡ y) → ¬ (mark (field (a ∷ x ∷ ws) o ++ t) ≡ y)
unfolding field mark
field-mark a x y ws none t n h = h
field-mark a x y ws (some v) t n h = n

-- ---- labels
pub closed-back : (t : Bytes) → closed (t ++ (quote ∷ [])) ≡ some t
unfolding closed
closed-back [] = refl
closed-back (b ∷ []) = refl
closed-back (b ∷ c ∷ t) = rw (closed-back (c ∷ t), closed) refl

pub labelled-back : (rest : Bytes → Line) (t : Bytes) → labelled rest (label t) ≡ rest t
unfolding labelled label after
labelled-back rest [] = refl
labelled-back rest (b ∷ t) = rw (closed-back (b ∷ t), labelled) refl

pub label-lead : (t : Bytes) → is_digit (lead (label t)) ≡ false
unfolding label lead
label-lead [] = nothing-no
label-lead (b ∷ t) = blank-no

pub label-mark : (y : ℕ) (t : Bytes) → 35 ≤ y → ¬ (mark (label t) ≡ y)
unfolding label mark
label-mark y [] h = λ e. omega arith
label-mark y (b ∷ t) h = λ e. omega arith

-- ---- indentation
pub indented-back : (a l : ℕ) (t : Bytes) → indented a (indent l ++ t) ≡ indented (a + l) t
unfolding indented indent
indented-back a zero t = let e : a + 0 ≡ a = omega arith in rw e refl
indented-back a (suc l) t = let e : a + suc l ≡ suc a + l = omega arith in rw e (indented-back (suc a) l t)

-- ---- the kinds' words
known-word : (k : ℕ) → T (known k) → (l : ℕ) (t : Bytes) → indented l (word k ++ t) ≡ level l (word k ++ t)
unfolding known about indented word
known-word zero h l t = absurd h
known-word (suc zero) h l t = refl
known-word (suc (suc zero)) h l t = refl
known-word (suc (suc (suc zero))) h l t = refl
known-word (suc (suc (suc (suc zero)))) h l t = refl
known-word (suc (suc (suc (suc (suc zero))))) h l t = refl
known-word (suc (suc (suc (suc (suc (suc k)))))) h l t = absurd h

pub level-back : (k l : ℕ) (t : Bytes) → T (known k) → indented 0 (indent l ++ (word k ++ t)) ≡ level l (word k ++ t)
level-back k l t h = let e : 0 + l ≡ l = omega arith in indented-back 0 l (word k ++ t) ∙ ap (λ x. indented x (word k ++ t)) e ∙ known-word k h l t

pub named_back : (c : ℕ) (seen : List ℕ) (l k : ℕ) (t : Bytes) → T (known k) → parted t ≡ true → named c seen l kinds (word k ++ t) ≡ fields_read c seen l k t
unfolding known about named word after
named_back c seen l zero t h p = absurd h
named_back c seen l (suc zero) t h p = rw (p, named) refl
named_back c seen l (suc (suc zero)) t h p = rw (p, named) refl
named_back c seen l (suc (suc (suc zero))) t h p = rw (p, named) refl
named_back c seen l (suc (suc (suc (suc zero)))) t h p = rw (p, named) refl
named_back c seen l (suc (suc (suc (suc (suc zero))))) t h p = rw (p, named) refl
named_back c seen l (suc (suc (suc (suc (suc (suc k)))))) t h p = absurd h

pub field-parted : (x : ℕ) (ws : Bytes) (o : Option ℕ) (t : Bytes) → parted t ≡ true → parted (field (space ∷ x ∷ ws) o ++ t) ≡ true
unfolding field parted
field-parted x ws none t h = h
field-parted x ws (some v) t h = refl

pub label-parted : (t : Bytes) → parted (label t) ≡ true
unfolding label parted
label-parted [] = refl
label-parted (b ∷ t) = refl

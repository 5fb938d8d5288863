-- Lines, words and numbers as they are written, read back. Assumes nothing.
use Rattle.std.specs.Prelude.{◌≡◌, refl, List, [], ◌∷◌, ◌++◌, Bool, true, false, cond, ℕ, zero, suc, ◌+◌, ◌-◌, ◌*◌, ◌/◌, ◌%◌, ◌≤◌, ◌<◌, ℤ, pos, negsuc, ◌-ℤ◌, length}
use Rattle.std.proofs.Common.{sym, ap, ◌∙◌, append_assoc, arith, length-append, ne_eqb, le-leb}
use Rattle.std.proofs.Math.Option.{Option, none, some}
use Rattle.std.proofs.Math.Decide.{dec_lt}
use Rattle.whole.proofs.Laws.Whole.{whole, diff}
use Rattle.listing.specs.Printed.{Bytes, space, line_feed, minus_sign, digit, decimal, signed, line}
use Rattle.listing.proofs.Laws.Printed.{decimal-one, decimal-more}
use Rattle.drawing_spec.specs.Words.{onto, lines, blank, parted, words, is_digit, natural_from, natural, with_sign, begins_below, integer}

-- ---- something that holds of each byte
abbrev pub Each : (ℕ → Type 0) → Bytes → Type 0
Each P [] = 0 ≤ 0
Each P (b ∷ bs) = P b × Each P bs

pub each_append : (P : ℕ → Type 0) (s t : Bytes) → Each P s → Each P t → Each P (s ++ t)
each_append P [] t h k = k
each_append P (b ∷ s) t h k = (h.0, each_append P s t h.1 k)

each-digits : (P : ℕ → Type 0) → ((d : ℕ) → d < 10 → P (digit d)) → (k n : ℕ) → n ≤ k → Each P (decimal n)
each-digits P f zero n h = rw (decimal-one n (omega arith)) (f n (omega arith), omega arith)
each-digits P f (suc k) n h =
    let front = each-digits P f k (n / 10) in
    elim (dec_lt n 10) [
      | yes l ↦ rw (decimal-one n l) (f n l, omega arith)
      | no l ↦ rw (decimal-more n (omega arith)) (each_append P (decimal (n / 10)) (digit (n % 10) ∷ []) (front (omega arith)) (f (n % 10) (omega arith), omega arith))
    ]

pub each-decimal : (P : ℕ → Type 0) → ((d : ℕ) → d < 10 → P (digit d)) → (n : ℕ) → Each P (decimal n)
each-decimal P f n = each-digits P f n n (omega arith)

pub each_signed : (P : ℕ → Type 0) → ((d : ℕ) → d < 10 → P (digit d)) → P minus_sign → (z : ℤ) → Each P (signed z)
unfolding signed
each_signed P f m (pos n) = each-decimal P f n
each_signed P f m (negsuc n) = (m, each-decimal P f (suc n))

pub some-digit : (n : ℕ) → 1 ≤ length (decimal n)
some-digit n = elim (dec_lt n 10) [
  | yes l ↦ rw (decimal-one n l) (omega arith)
  | no l ↦ rw (decimal-more n (omega arith), length-append) (omega arith)
]

pub some_sign : (z : ℤ) → 1 ≤ length (signed z)
unfolding signed
some_sign (pos n) = some-digit n
some_sign (negsuc n) = omega arith

-- ---- lines
abbrev pub NoFeed : ℕ → Type 0
NoFeed b = ¬ (b ≡ line_feed)

line_first : (l r : Bytes) → Each NoFeed l → lines (l ++ (line_feed ∷ r)) ≡ l ∷ lines r
unfolding lines onto
line_first [] r h = refl
line_first (b ∷ l) r h = rw (ne_eqb b line_feed h.0, line_first l r h.1)

-- the fields of a line, without its line feed
unfoldable pub inner : List Bytes → Bytes
inner [] = []
inner (f ∷ []) = f
inner (f ∷ g ∷ fs) = f ++ (space ∷ inner (g ∷ fs))

line-ends : (fs : List Bytes) (r : Bytes) → line fs ++ r ≡ inner fs ++ (line_feed ∷ r)
unfolding line inner
line-ends [] r = refl
line-ends (f ∷ []) r = append_assoc f (line_feed ∷ []) r
line-ends (f ∷ g ∷ fs) r =
    append_assoc f (space ∷ line (g ∷ fs)) r ∙ ap (λ (t : Bytes). f ++ (space ∷ t)) (line-ends (g ∷ fs) r) ∙ sym (append_assoc f (space ∷ inner (g ∷ fs)) (line_feed ∷ r))

abbrev pub NoFeeds : List Bytes → Type 0
NoFeeds [] = 0 ≤ 0
NoFeeds (f ∷ fs) = Each NoFeed f × NoFeeds fs

inner_free : (fs : List Bytes) → NoFeeds fs → Each NoFeed (inner fs)
unfolding inner
inner_free [] h = h
inner_free (f ∷ []) h = h.0
inner_free (f ∷ g ∷ fs) h = each_append NoFeed f (space ∷ inner (g ∷ fs)) h.0 (λ e. absurd (omega arith), inner_free (g ∷ fs) h.1)

pub lines-line : (fs : List Bytes) (r : Bytes) → NoFeeds fs → lines (line fs ++ r) ≡ inner fs ∷ lines r
lines-line fs r h = ap lines (line-ends fs r) ∙ line_first (inner fs) r (inner_free fs h)

-- ---- words
abbrev pub Solid : ℕ → Type 0
Solid b = blank b ≡ false

pub solid : (b : ℕ) → 33 ≤ b → Solid b
unfolding blank
solid b h = rw (ne_eqb b 32 (λ e. omega arith), ne_eqb b 9 (λ e. omega arith), ne_eqb b 13 (λ e. omega arith))

parted-space : (r : Bytes) → parted (space ∷ r) ≡ true
unfolding parted blank
parted-space r = refl

parted-solid : (b : ℕ) (r : Bytes) → Solid b → parted (b ∷ r) ≡ false
unfolding parted
parted-solid b r h = h

words-space : (r : Bytes) → words (space ∷ r) ≡ words r
unfolding words blank
words-space r = refl

pub words-solid : (b : ℕ) (t : Bytes) → Solid b → words (b ∷ t) ≡ cond (parted t) ((b ∷ []) ∷ words t) (onto b (words t))
unfolding words
words-solid b t h = rw h

pub words-word : (w r : Bytes) → 1 ≤ length w → Each Solid w → words (w ++ (space ∷ r)) ≡ w ∷ words r
unfolding onto
words-word [] r n h = absurd (omega arith)
words-word (b ∷ []) r n h = rw (words-solid b (space ∷ r) h.0, parted-space r, words-space r)
words-word (b ∷ d ∷ w) r n h =
    rw (words-solid b (d ∷ w ++ (space ∷ r)) h.0, parted-solid d (w ++ (space ∷ r)) h.1.0, words-word (d ∷ w) r (omega arith) h.1)

-- ---- numbers
pub digit_yes : (b : ℕ) → 48 ≤ b → b ≤ 57 → is_digit b ≡ true
unfolding is_digit
digit_yes b h l = rw (le-leb 48 b h, le-leb b 57 l)

pub from-digit : (a b : ℕ) (t : Bytes) → is_digit b ≡ true → natural_from a (b ∷ t) ≡ natural_from (10 * a + (b - 48)) t
unfolding natural_from
from-digit a b t e = rw (e, natural_from)

from_last : (a d : ℕ) → d < 10 → natural_from a (digit d ∷ []) ≡ some (10 * a + d)
unfolding natural_from
from_last a d h =
    let e : 10 * a + (48 + d - 48) ≡ 10 * a + d = omega arith in
    from-digit a (48 + d) [] (digit_yes (48 + d) (omega arith) (omega arith)) ∙ ap some e

-- the rest of the digits
onward : Option ℕ → Bytes → Option ℕ
onward none t = none
onward (some a) t = natural_from a t

from-append : (a : ℕ) (s t : Bytes) → natural_from a (s ++ t) ≡ onward (natural_from a s) t
unfolding natural_from onward
from-append a [] t = refl
from-append a (b ∷ s) t = go (is_digit b) (from-append (10 * a + (b - 48)) s t)
  where
    go : (y : Bool) → natural_from (10 * a + (b - 48)) (s ++ t) ≡ onward (natural_from (10 * a + (b - 48)) s) t
        → ◌≡◌ {A = Option ℕ} (elim y [ true ↦ natural_from (10 * a + (b - 48)) (s ++ t) | false ↦ none ]) (onward (elim y [ true ↦ natural_from (10 * a + (b - 48)) s | false ↦ none ]) t)
    go true h = h
    go false h = refl

digits-back : (k n : ℕ) → n ≤ k → natural_from 0 (decimal n) ≡ some n
unfolding onward
digits-back zero n h = let e : 10 * 0 + n ≡ n = omega arith in rw (decimal-one n (omega arith)) (from_last 0 n (omega arith) ∙ ap some e)
digits-back (suc k) n h =
    let front = digits-back k (n / 10) in
    elim (dec_lt n 10) [
      | yes l ↦ let e : 10 * 0 + n ≡ n = omega arith in rw (decimal-one n l) (from_last 0 n l ∙ ap some e)
      | no l ↦
          let e : 10 * (n / 10) + n % 10 ≡ n = omega arith in
          rw (decimal-more n (omega arith), from-append, front (omega arith)) (from_last (n / 10) (n % 10) (omega arith) ∙ ap some e)
    ]

pub natural-some : (w : Bytes) → 1 ≤ length w → natural w ≡ natural_from 0 w
unfolding natural
natural-some [] h = absurd (omega arith)
natural-some (b ∷ w) h = refl

pub natural-decimal : (n : ℕ) → natural (decimal n) ≡ some n
natural-decimal n = natural-some (decimal n) (some-digit n) ∙ digits-back n n (omega arith)

not_below : (w : Bytes) → Each (λ b. ¬ (b ≡ minus_sign)) w → begins_below w ≡ false
unfolding begins_below
not_below [] h = refl
not_below (b ∷ w) h = ne_eqb b minus_sign h.0

pub integer-signed : (z : ℤ) → integer (signed z) ≡ some z
unfolding integer signed with_sign begins_below
integer-signed (pos n) = rw (not_below (decimal n) (each-decimal (λ b. ¬ (b ≡ minus_sign)) (λ d h e. absurd (omega arith)) n), natural-decimal n)
integer-signed (negsuc n) =
    let e : pos 0 -ℤ pos (suc n) ≡ negsuc n = omega (whole, diff (pos 0) (pos (suc n))) in
    rw (natural-decimal (suc n), e)

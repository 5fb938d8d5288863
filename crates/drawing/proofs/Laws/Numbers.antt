-- Numbers as the code reads them: one past the bound stands for any that is greater. Assumes nothing.
use Rattle.std.specs.Prelude.{◌≡◌, [], ◌∷◌, Bool, ℕ, ◌+◌, ◌-◌, ◌*◌, ◌≤◌, ◌<◌, ℤ, ◌-ℤ◌, length, get_or, Some, None}
use Rattle.std.proofs.Math.Path.{refl, ap}
use Rattle.std.proofs.Common.{sym, ◌∙◌, arith, le-leb}
use Rattle.std.proofs.Math.Bool.{true, false}
use Rattle.std.proofs.Math.Option.{Option, none, some}
use Rattle.std.proofs.Math.Decide.{dec_lt}
use Rattle.std.proofs.Math.IntN.{pos}
use Rattle.std.proofs.Math.ListN.{take, drop, length-drop}
use Rattle.std.proofs.Math.Seq.{take_all}
use Rattle.std.proofs.lemmas.Bool.{lt-leb}
use Rattle.whole.specs.Range.{in_range, InRange}
use Rattle.whole.proofs.Laws.Range.{says_within}
use Rattle.whole.proofs.Laws.Says.{is_false, holds}
use Rattle.whole.proofs.Laws.Whole.{whole, diff}
use mir.Syntax.{w32}
use mir.Val.{to_z, of_z}
use Rattle.whole.proofs.Machine.{back}
use Rattle.plan.specs.Limits.{farthest}
use Rattle.listing.specs.Printed.{Bytes}
use Rattle.drawing_spec.specs.Words.{is_digit, natural_from, natural, with_sign, begins_below, integer}
use Rattle.drawing_spec.proofs.Laws.Words.{digit_yes, from-digit, natural-some}
use Rattle.drawing.specs.Steps.{beyond, capped, number_told, Cut, IntegerTold}
use Rattle.drawing.proofs.Laws.Spans.{from_place, past_end}

-- ---- the bound
pub capped_low : (v : ℕ) → v ≤ farthest → capped v ≡ v
unfolding capped
capped_low v h = rw (le-leb v farthest h)

pub capped_high : (v : ℕ) → farthest < v → capped v ≡ beyond
unfolding capped
capped_high v h = rw (lt-leb v farthest h)

pub capped-most : (v : ℕ) → capped v ≤ beyond
capped-most v = elim (dec_lt farthest v) [ yes h ↦ omega (arith, capped_high v h) | no h ↦ omega (arith, capped_low v (omega arith)) ]

capped_grow : (a d : ℕ) → capped (10 * capped a + d) ≡ capped (10 * a + d)
capped_grow a d = elim (dec_lt farthest a) [
  | yes h ↦ rw (capped_high a h) (capped_high (10 * beyond + d) (omega arith) ∙ sym (capped_high (10 * a + d) (omega arith)))
  | no h ↦ rw (capped_low a (omega arith))
]

-- ---- a natural number, digit by digit
digit_low : (b : ℕ) → b < 48 → is_digit b ≡ false
unfolding is_digit
digit_low b h = rw (lt-leb 48 b h)

digit_high : (b : ℕ) → 57 < b → is_digit b ≡ false
unfolding is_digit
digit_high b h = rw (le-leb 48 b (omega arith), lt-leb b 57 h)

from-other : (a b : ℕ) (t : Bytes) → is_digit b ≡ false → natural_from a (b ∷ t) ≡ none
unfolding natural_from
from-other a b t e = rw (e, natural_from)

from_end : (a : ℕ) → natural_from a [] ≡ some a
unfolding natural_from
from_end a = refl

told_not : (o : Option ℕ) → o ≡ none → None ≡ number_told o
unfolding number_told
told_not o e = rw e

told_is : (o : Option ℕ) (a v : ℕ) → o ≡ some v → a ≡ capped v → Some a ≡ number_told o
unfolding number_told
told_is o a v e f = rw (e, f)

pub natural-empty : (w : Bytes) → length w ≡ 0 → None ≡ number_told (natural w)
unfolding natural
natural-empty [] h = told_not none refl
natural-empty (b ∷ w) h = absurd (omega arith)

-- the word from i on is still to be read, after digits that say a number
pub record Going (w : Bytes) (a i : ℕ) : Type 0 where
  pub so_far : ℕ
  pub value : a ≡ capped so_far
  pub same : natural w ≡ natural_from so_far (drop i w)
  pub inside : i ≤ length w
  pub small : a ≤ beyond

pub going-starts : (w : Bytes) → ¬ (length w ≡ 0) → Going w 0 0
going-starts w n = record { so_far = 0; value = sym (capped_low 0 (omega arith)); same = natural-some w (omega arith); inside = omega arith; small = omega arith }

module _ (w : Bytes) (a i : ℕ) (g : Going w a i) where
  pub going-turns : (r : ℕ) → i < length w → 48 ≤ get_or w i 0 → get_or w i 0 ≤ 57 → r ≡ capped (10 * a + (get_or w i 0 - 48)) → Going w r (i + 1)
  going-turns r h l m e =
      let v = g.so_far in
      let d = get_or w i 0 - 48 in
      let q : r ≡ capped (10 * v + d) = e ∙ ap (λ k. capped (10 * k + d)) g.value ∙ capped_grow v d in
      record {
        so_far = 10 * v + d;
        value = q;
        same = g.same ∙ rw (from_place w i h) (from-digit v (get_or w i 0) (drop (i + 1) w) (digit_yes _ l m));
        inside = omega arith;
        small = omega (arith, q, capped-most (10 * v + d));
      }

  pub going_low : i < length w → get_or w i 0 < 48 → None ≡ number_told (natural w)
  going_low h l = told_not (natural w) (g.same ∙ rw (from_place w i h) (from-other g.so_far _ _ (digit_low _ l)))

  pub going_high : i < length w → 57 < get_or w i 0 → None ≡ number_told (natural w)
  going_high h l = told_not (natural w) (g.same ∙ rw (from_place w i h) (from-other g.so_far _ _ (digit_high _ l)))

  pub going-ends : length w ≤ i → Some a ≡ number_told (natural w)
  going-ends h = told_is (natural w) a g.so_far (g.same ∙ rw (past_end w i h) (from_end g.so_far)) g.value

-- ---- with its sign
no_way : {A : Type 0} → ◌≡◌ {A = Bool} true false → A
no_way e = let z : ◌≡◌ {A = ℕ} 0 1 = cc in absurd (omega arith)

pub zero_near : InRange farthest (pos 0)
zero_near = record { low = omega whole; high = omega whole }

-- a number that is near stands for itself, and a far one for a far one
cut_near : (z r : ℤ) → InRange beyond r → r ≡ z → Cut z r
cut_near z r b e = record { small = b; same = ap (in_range farthest) e; near = λ _. e }

cut-far : (z r : ℤ) → InRange beyond r → ¬ (InRange farthest z) → ¬ (InRange farthest r) → Cut z r
cut-far z r b h k = record { small = b; same = is_false (says_within farthest r) k ∙ sym (is_false (says_within farthest z) h); near = λ e. absurd (h (holds (says_within farthest z) e)) }

capped_below : (v : ℕ) → InRange beyond (pos 0 -ℤ pos (capped v))
capped_below v = let m = capped-most v in record { low = omega (whole, diff (pos 0) (pos (capped v)), m); high = omega (whole, diff (pos 0) (pos (capped v)), m) }

capped_above : (v : ℕ) (r : ℤ) → r ≡ pos (capped v) -ℤ pos 0 → InRange beyond r
capped_above v r e = let m = capped-most v in record { low = omega (whole, e, diff (pos (capped v)) (pos 0), m); high = omega (whole, e, diff (pos (capped v)) (pos 0), m) }

cut_below : (v : ℕ) → Cut (pos 0 -ℤ pos v) (pos 0 -ℤ pos (capped v))
cut_below v = elim (dec_lt farthest v) [
  | yes l ↦
      let q = capped_high v l in
      cut-far _ _ (capped_below v) (λ k. absurd (omega (whole, diff (pos 0) (pos v), k.low))) (λ k. absurd (omega (whole, diff (pos 0) (pos (capped v)), q, k.low)))
  | no l ↦ cut_near _ _ (capped_below v) (ap (λ n. pos 0 -ℤ pos n) (capped_low v (omega arith)))
]

cut_above : (v : ℕ) (r : ℤ) → r ≡ pos (capped v) -ℤ pos 0 → Cut (pos v) r
cut_above v r e = elim (dec_lt farthest v) [
  | yes l ↦
      let q = capped_high v l in
      cut-far _ _ (capped_above v r e) (λ k. absurd (omega (whole, k.high))) (λ k. absurd (omega (whole, diff (pos (capped v)) (pos 0), e, q, k.high)))
  | no l ↦ cut_near _ _ (capped_above v r e) (omega (whole, e, diff (pos (capped v)) (pos 0), capped_low v (omega arith)))
]

-- ---- a whole number
pub below-empty : (w : Bytes) → length w ≡ 0 → false ≡ begins_below w
unfolding begins_below
below-empty [] h = refl
below-empty (b ∷ w) h = absurd (omega arith)

pub below-some : (w : Bytes) → begins_below w ≡ true → 1 ≤ length w
unfolding begins_below
below-some [] e = no_way (sym e)
below-some (b ∷ w) e = omega arith

module _ (w : Bytes) where
  tail-is : begins_below w ≡ true → take (length w - 1) (drop 1 w) ≡ drop 1 w
  tail-is e = take_all (length w - 1) (drop 1 w) (omega (arith, length-drop 1 w))

  -- no number
  below-none : (o : Option ℕ) → None ≡ number_told o → IntegerTold (with_sign o true) None
  unfolding number_told with_sign
  below-none none e = tt
  below-none (some v) e = cc

  above-none : (o : Option ℕ) → None ≡ number_told o → IntegerTold (with_sign o false) None
  unfolding number_told with_sign
  above-none none e = tt
  above-none (some v) e = cc

  below-some_of : (o : Option ℕ) (a : ℕ) (r : ℤ) → Some a ≡ number_told o → r ≡ pos 0 -ℤ pos a → IntegerTold (with_sign o true) (Some r)
  unfolding number_told with_sign
  below-some_of none a r e f = cc
  below-some_of (some v) a r e f = let q : a ≡ capped v = cc in rw (f, q) (cut_below v)

  above-some_of : (o : Option ℕ) (a : ℕ) (r : ℤ) → Some a ≡ number_told o → r ≡ pos a -ℤ pos 0 → IntegerTold (with_sign o false) (Some r)
  unfolding number_told with_sign
  above-some_of none a r e f = cc
  above-some_of (some v) a r e f = let q : a ≡ capped v = cc in cut_above v r (f ∙ ap (λ n. pos n -ℤ pos 0) q)

  pub integer-not_below : begins_below w ≡ true → None ≡ number_told (natural (take (length w - 1) (drop 1 w))) → IntegerTold (integer w) None
  unfolding integer
  integer-not_below e q = rw e (below-none (natural (drop 1 w)) (q ∙ ap (λ (l : Bytes). number_told (natural l)) (tail-is e)))

  pub integer-below : begins_below w ≡ true → (a : ℕ) (r : ℤ) → Some a ≡ number_told (natural (take (length w - 1) (drop 1 w))) → r ≡ pos 0 -ℤ pos a → IntegerTold (integer w) (Some r)
  unfolding integer
  integer-below e a r q f = rw e (below-some_of (natural (drop 1 w)) a r (q ∙ ap (λ (l : Bytes). number_told (natural l)) (tail-is e)) f)

  pub integer-not_above : begins_below w ≡ false → None ≡ number_told (natural w) → IntegerTold (integer w) None
  unfolding integer
  integer-not_above e q = rw e (above-none (natural w) q)

  pub integer-above : begins_below w ≡ false → (a : ℕ) (r : ℤ) → Some a ≡ number_told (natural w) → r ≡ pos a -ℤ pos 0 → IntegerTold (integer w) (Some r)
  unfolding integer
  integer-above e a r q f = rw e (above-some_of (natural w) a r q f)

-- no number is past the bound by more than one
small_of : (o : Option ℕ) (a : ℕ) → Some a ≡ number_told o → a ≤ beyond
unfolding number_told
small_of none a q = cc
small_of (some v) a q = let z : a ≡ capped v = cc in omega (arith, capped-most v)

pub told_small : (w : Bytes) (a : ℕ) → Some a ≡ number_told (natural w) → a ≤ beyond
told_small w a e = small_of (natural w) a e

-- the machine reads the number back from its bits
told_near : (u : Option ℤ) (r : ℤ) → IntegerTold u (Some r) → InRange beyond r
told_near none r h = absurd h
told_near (some z) r h = h.small

pub small_back : (r : ℤ) → InRange beyond r → to_z w32 (of_z w32 r) ≡ r
small_back r h = back beyond (omega arith) r h

pub read_back : (u : Option ℤ) (r : ℤ) → IntegerTold u (Some r) → to_z w32 (of_z w32 r) ≡ r
read_back u r h = small_back r (told_near u r h)

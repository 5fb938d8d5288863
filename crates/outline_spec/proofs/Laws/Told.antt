-- What a text says can be written: each part that is read is at least as long as it is written, and what is printable stays so. So the outline of what a text says, says the same. Assumes nothing.
use Rattle.std.specs.Prelude.{◌≡◌, Bool, ◌&&◌, cond, ℕ, zero, suc, ◌+◌, ◌-◌, ◌*◌, ◌/◌, ◌%◌, ◌≤◌, ◌<◌, ltb}
use Rattle.std.proofs.Math.Path.{refl, ap, subst}
use Rattle.std.proofs.Common.{sym, ◌∙◌, leb→le}
use mathlib.Core.List.{List, [], ◌∷◌, ◌++◌}
use Rattle.std.proofs.Math.Bool.{true, false}
use Rattle.std.proofs.Math.Option.{Option, none, some}
use native.Mathlib.Omega.{arith}
use Rattle.std.proofs.Math.Decide.{dec_lt}
use Rattle.std.proofs.Math.Dec.{T, eqb, leb}
use Rattle.std.proofs.Math.ListN.{length, length-append}
use borrow.Author.Tests.{eq-eqb, eqb-true, leb-true, ltb-true}
use Rattle.plan.specs.Limits.{most_cells, most_allowance}
use Rattle.plan.specs.Questions.{every, lower}
use Rattle.plan.specs.Kinds.{known, about}
use Rattle.plan.proofs.Laws.Steps.{and_left, and_right}
use Rattle.listing.specs.Printed.{Bytes, space, digit, decimal}
use Rattle.listing.proofs.Laws.Printed.{decimal-one, decimal-more}
use Rattle.content.specs.Content.{Item, Content}
use Rattle.content.proofs.Laws.Fine.{letter, every-head}
use Rattle.outline_spec.specs.Outline.{allowance_word, width_word, depth_word, rank_word, under_word, quote, label_word, word, nearest, level_under, border, natural, unless, indent, field, label, fields, cell_line, outline}
use Rattle.outline_spec.specs.Understood.{Number, absent, large, read, Indented, odd, level, Line, cell, wrong, First, no_first, allowed, Cells, faulty, items, Understood, fault, plan, most_line, most_pair, most_byte, after, is_digit, number_from, number, indented, closed, parted, or_usual, numbered, optional, labelled, placed, told, fields_read, kinds, named, clear, line, with_cell, cells, all_read, first, with_allowance, by_lines, lines, understood}
use Rattle.outline_spec.specs.declared.Fault.{Fault}
use Rattle.outline_spec.specs.declared.Fault.TheVariants.{StrangeByte, LongLine}
use Rattle.outline_spec.proofs.Laws.Parts.{Most}
use Rattle.outline_spec.proofs.Laws.Back.{unless-most, unless-same, Writable, AllWritable, understood-back}

abbrev Printable : Bytes → Type 0
Printable b = T (every letter b)

printable_last : (a b : Bytes) → Printable (a ++ b) → Printable b
printable_last [] b h = h
printable_last (x ∷ a) b h = printable_last a b (every-head letter x (a ++ b) h).1

printable_first : (a b : Bytes) → Printable (a ++ b) → Printable a
unfolding every
printable_first [] b h = tt
printable_first (x ∷ a) b h = let (p, q) = every-head letter x (a ++ b) h in go (letter x) p (printable_first a b q)
  where
    go : (y : Bool) → T y → T (every letter a) → T (cond y (every letter a) false)
    go true p q = q
    go false p q = p

-- ---- these bytes, and what follows them
abbrev Follows : Bytes → Bytes → Option Bytes → Type 0
Follows w t none = T true
Follows w t (some s) = t ≡ w ++ s

after_follows : (w t : Bytes) → Follows w t (after w t)
unfolding after
after_follows [] t = refl
after_follows (x ∷ w) [] = tt
after_follows (x ∷ w) (b ∷ t) = go (eqb x b) refl (after w t) (after_follows w t)
  where
    go : (y : Bool) → eqb x b ≡ y → (o : Option Bytes) → Follows w t o → Follows (x ∷ w) (b ∷ t) (elim y [ true ↦ o | false ↦ none ])
    go true e none h = tt
    go true e (some s) h = let k : x ≡ b = eqb-true x b e in rw (k, h) refl
    go false e o h = tt

-- ---- a number is written with no more digits than were read
decimal_grows : (a d : ℕ) → d < 10 → length (decimal (10 * a + d)) ≤ suc (length (decimal a))
decimal_grows a d h = elim (dec_lt (10 * a + d) 10) [
  | yes l ↦ rw (decimal-one (10 * a + d) l) (omega arith)
  | no l ↦ let e : (10 * a + d) / 10 ≡ a = omega arith in rw (decimal-more (10 * a + d) (omega arith), e, length-append (decimal a) (digit ((10 * a + d) % 10) ∷ [])) (omega arith)
]

digit-is : (b : ℕ) → is_digit b ≡ true → (48 ≤ b) × (b ≤ 57)
unfolding is_digit
digit-is b e = let h : T (leb 48 b && leb b 57) = subst T (sym e) tt in (leb→le 48 b (and_left (leb 48 b) _ h), leb→le b 57 (and_right (leb 48 b) _ h))

record Digits (m a : ℕ) (t : Bytes) (n : ℕ) (r : Bytes) : Type 0 where
  small : a ≤ m → n ≤ m
  front : Bytes
  parts : t ≡ front ++ r
  few : length (decimal n) ≤ length (decimal a) + length front

abbrev NumberFrom : ℕ → ℕ → Bytes → Number → Type 0
NumberFrom m a t absent = T true
NumberFrom m a t large = T true
NumberFrom m a t (read n r) = Digits m a t n r

from-fine : (m a : ℕ) (t : Bytes) → NumberFrom m a t (number_from m a t)
unfolding number_from
from-fine m a [] = record { small = λ h. h; front = []; parts = refl; few = omega arith }
from-fine m a (b ∷ t) = go (is_digit b) refl (leb (10 * a + (b - 48)) m) refl (number_from m (10 * a + (b - 48)) t) (from-fine m (10 * a + (b - 48)) t)
  where
    more : is_digit b ≡ true → leb (10 * a + (b - 48)) m ≡ true → (x : Number) → NumberFrom m (10 * a + (b - 48)) t x → NumberFrom m a (b ∷ t) x
    more e l absent h = tt
    more e l large h = tt
    more e l (read n r) h =
        let (p, q) = digit-is b e in
        record {
          small = λ z. h.small (leb-true (10 * a + (b - 48)) m l);
          front = b ∷ h.front;
          parts = ap (λ s. b ∷ s) h.parts;
          few = omega (arith, h.few, decimal_grows a (b - 48) (omega arith));
        }

    go : (y : Bool) → is_digit b ≡ y → (z : Bool) → leb (10 * a + (b - 48)) m ≡ z → (x : Number) → NumberFrom m (10 * a + (b - 48)) t x
        → NumberFrom m a (b ∷ t) (elim y [ false ↦ read a (b ∷ t) | true ↦ elim z [ true ↦ x | false ↦ large ] ])
    go false e z f x h = record { small = λ l. l; front = []; parts = refl; few = omega arith }
    go true e false f x h = tt
    go true e true f x h = more e f x h

record Numbered (m : ℕ) (t : Bytes) (n : ℕ) (r : Bytes) : Type 0 where
  small : n ≤ m
  front : Bytes
  parts : t ≡ front ++ r
  few : length (decimal n) ≤ length front

abbrev NumberOf : ℕ → Bytes → Number → Type 0
NumberOf m t absent = T true
NumberOf m t large = T true
NumberOf m t (read n r) = Numbered m t n r

digit-first : (m b : ℕ) (t : Bytes) → is_digit b ≡ true → NumberOf m (b ∷ t) (number_from m 0 (b ∷ t))
unfolding number_from
digit-first m b t e = rw (e, number_from) (go (leb (10 * 0 + (b - 48)) m) refl (number_from m (10 * 0 + (b - 48)) t) (from-fine m (10 * 0 + (b - 48)) t))
  where
    more : leb (10 * 0 + (b - 48)) m ≡ true → (x : Number) → NumberFrom m (10 * 0 + (b - 48)) t x → NumberOf m (b ∷ t) x
    more l absent h = tt
    more l large h = tt
    more l (read n r) h =
        let (p, q) = digit-is b e in
        let d : 10 * 0 + (b - 48) < 10 = omega arith in
        let o : length (decimal (10 * 0 + (b - 48))) ≡ 1 = ap length (decimal-one (10 * 0 + (b - 48)) d) in
        record {
          small = h.small (leb-true (10 * 0 + (b - 48)) m l);
          front = b ∷ h.front;
          parts = ap (λ s. b ∷ s) h.parts;
          few = omega (arith, h.few, o);
        }

    go : (z : Bool) → leb (10 * 0 + (b - 48)) m ≡ z → (x : Number) → NumberFrom m (10 * 0 + (b - 48)) t x → NumberOf m (b ∷ t) (elim z [ true ↦ x | false ↦ large ])
    go false f x h = tt
    go true f x h = more f x h

number-fine : (m : ℕ) (t : Bytes) → NumberOf m t (number m t)
unfolding number
number-fine m [] = tt
number-fine m (b ∷ t) = go (is_digit b) (digit-first m b t)
  where
    go : (y : Bool) → (y ≡ true → NumberOf m (b ∷ t) (number_from m 0 (b ∷ t))) → NumberOf m (b ∷ t) (elim y [ true ↦ number_from m 0 (b ∷ t) | false ↦ absent ])
    go false h = tt
    go true h = h refl

-- ---- the bytes before a quote that ends the line
abbrev Closes : Bytes → Option Bytes → Type 0
Closes s none = T true
Closes s (some x) = s ≡ x ++ (quote ∷ [])

closed-fine : (s : Bytes) → Closes s (closed s)
unfolding closed
closed-fine [] = tt
closed-fine (b ∷ []) = go (eqb b quote) refl
  where
    go : (y : Bool) → eqb b quote ≡ y → Closes (b ∷ []) (cond y (some []) none)
    go true e = ap (λ x. x ∷ []) (eqb-true b quote e)
    go false e = tt
closed-fine (b ∷ c ∷ s) = go (closed (c ∷ s)) (closed-fine (c ∷ s))
  where
    go : (o : Option Bytes) → Closes (c ∷ s) o → Closes (b ∷ c ∷ s) (elim o [ none ↦ none | some t ↦ some (b ∷ t) ])
    go none h = tt
    go (some x) h = ap (λ r. b ∷ r) h

label-most : (x : Bytes) → length (label x) ≤ length x + 3
unfolding label
label-most [] = omega arith
label-most (b ∷ x) = omega (arith, length-append (b ∷ x) (quote ∷ []))

-- ---- blanks, two by two
abbrev Dents : ℕ → Bytes → Indented → Type 0
Dents l b odd = T true
Dents l b (level m t) = (2 * m + length t ≡ 2 * l + length b) × (Printable b → Printable t)

indented-fine : (l : ℕ) (b : Bytes) → Dents l b (indented l b)
unfolding indented
indented-fine l [] = (refl, λ p. p)
indented-fine l (a ∷ []) = go (eqb a space)
  where
    go : (y : Bool) → Dents l (a ∷ []) (cond y odd (level l (a ∷ [])))
    go true = tt
    go false = (refl, λ p. p)
indented-fine l (a ∷ b ∷ t) = go (eqb a space) (eqb b space) (indented (suc l) t) (indented-fine (suc l) t)
  where
    go : (y z : Bool) (x : Indented) → Dents (suc l) t x → Dents l (a ∷ b ∷ t) (elim y [ false ↦ level l (a ∷ b ∷ t) | true ↦ elim z [ true ↦ x | false ↦ odd ] ])
    go false z x h = (refl, λ p. p)
    go true false x h = tt
    go true true odd h = tt
    go true true (level m r) h = (omega (arith, h.0), λ p. h.1 (printable_last (a ∷ b ∷ []) t p))

-- ---- the parts of a line: what holds of every fault, and of the rest after whatever was read, holds of the whole
module _ (P : Line → Type 0) (faults : (f : Fault) → P (wrong f)) where
  optional-all : (w : Bytes) (m : ℕ) (rest : Option ℕ → Bytes → Line) (t : Bytes)
      → ((o : Option ℕ) (s : Bytes) → Most m o → length (field w o) + length s ≤ length t → (Printable t → Printable s) → P (rest o s)) → P (optional w m rest t)
  unfolding optional field
  optional-all w m rest t h = go (after w t) (after_follows w t)
    where
      got : (s : Bytes) → t ≡ w ++ s → (x : Number) → NumberOf m s x → P (numbered x rest)
      got s e absent n = unfold numbered in faults _
      got s e large n = unfold numbered in faults _
      got s e (read v r) n =
          unfold numbered in
          (h (some v) r n.small
          (rw (e, length-append w s, n.parts, length-append n.front r, length-append w (decimal v)) (omega (arith, n.few)))
          (λ p. printable_last n.front r (rw n.parts at (printable_last w s (rw e at p)))))

      go : (o : Option Bytes) → Follows w t o → P (elim o [ none ↦ rest none t | some s ↦ numbered (number m s) rest ])
      go none e = h none t tt (omega arith) (λ p. p)
      go (some s) e = got s e (number m s) (number-fine m s)

  labelled-all : (rest : Bytes → Line) (t : Bytes) → ((x : Bytes) → length (label x) ≤ length t → (Printable t → Printable x) → P (rest x)) → P (labelled rest t)
  unfolding labelled
  labelled-all rest [] h = h [] (unfold label in omega arith) (λ p. p)
  labelled-all rest (b ∷ t) h = go (after label_word (b ∷ t)) (after_follows label_word (b ∷ t))
    where
      got : (s : Bytes) → b ∷ t ≡ label_word ++ s → (o : Option Bytes) → Closes s o → P (elim o [ none ↦ wrong Fault.OpenLabel | some x ↦ rest x ])
      got s e none q = faults _
      got s e (some x) q =
          let n : length (b ∷ t) ≡ length (label_word ++ s) = ap length e in
          let m : length s ≡ length (x ++ (quote ∷ [])) = ap length q in
          h x (omega (arith, n, m, length-append x (quote ∷ []), label-most x)) (λ p. printable_first x (quote ∷ []) (rw q at (printable_last label_word s (rw e at p))))

      go : (o : Option Bytes) → Follows label_word (b ∷ t) o
          → P (elim o [ none ↦ wrong Fault.UnknownField | some s ↦ elim (closed s) [ none ↦ wrong Fault.OpenLabel | some x ↦ rest x ] ])
      go none e = faults _
      go (some s) e = got s e (closed s) (closed-fine s)

  module _ (c : ℕ) (seen : List ℕ) (l : ℕ) where
    abbrev AllKnown : List ℕ → Type 0
    AllKnown [] = T true
    AllKnown (k ∷ ks) = T (known k) × AllKnown ks

    named-all : (ks : List ℕ) (t : Bytes) → AllKnown ks → ((k : ℕ) (s : Bytes) → T (known k) → length (word k) + length s ≤ length t → (Printable t → Printable s) → P (fields_read c seen l k s)) → P (named c seen l ks t)
    unfolding named
    named-all [] t a h = faults _
    named-all (k ∷ ks) t a h = go (after (word k) t) (after_follows (word k) t) (named-all ks t a.1 h)
      where
        parts : (s : Bytes) → t ≡ word k ++ s → (y : Bool) → P (named c seen l ks t) → P (elim y [ true ↦ fields_read c seen l k s | false ↦ named c seen l ks t ])
        parts s e false q = q
        parts s e true q = h k s a.0 (let n : length t ≡ length (word k ++ s) = ap length e in omega (arith, n, length-append (word k) s)) (λ p. printable_last (word k) s (rw e at p))

        go : (o : Option Bytes) → Follows (word k) t o → P (named c seen l ks t)
            → P (elim o [ none ↦ named c seen l ks t | some s ↦ elim (parted s) [ true ↦ fields_read c seen l k s | false ↦ named c seen l ks t ] ])
        go none e q = q
        go (some s) e q = parts s e (parted s) q

-- ---- what was read, as it is written
usual_most : (m u : ℕ) (o : Option ℕ) → Most m o → Most m (unless u (or_usual u o))
unfolding or_usual
usual_most m u none h = unless-same m u u refl
usual_most m u (some v) h = unless-most m u v h

usual_short : (w : Bytes) (u : ℕ) (o : Option ℕ) → length (field w (unless u (or_usual u o))) ≤ length (field w o)
unfolding or_usual unless field
usual_short w u none = rw (eq-eqb u u refl) (omega arith)
usual_short w u (some v) = go (eqb v u)
  where
    go : (y : Bool) → length (field w (cond y none (some v))) ≤ length (w ++ decimal v)
    go true = omega arith
    go false = omega arith

pub border_small : (k : ℕ) → border k ≤ 4
unfolding border about
border_small zero = omega arith
border_small (suc zero) = omega arith
border_small (suc (suc zero)) = omega arith
border_small (suc (suc (suc zero))) = omega arith
border_small (suc (suc (suc (suc zero)))) = omega arith
border_small (suc (suc (suc (suc (suc zero))))) = omega arith
border_small (suc (suc (suc (suc (suc (suc k)))))) = omega arith

label-least : (x : Bytes) → length x ≤ length (label x)
unfolding label
label-least [] = omega arith
label-least (b ∷ x) = omega (arith, length-append (b ∷ x) (quote ∷ []))

natural_small : (k : ℕ) (x : Bytes) → length x ≤ most_line → natural k x ≤ most_pair
unfolding natural
natural_small k x h = omega (arith, border_small k)

usual_small : (m u : ℕ) (o : Option ℕ) → u ≤ m → Most m o → or_usual u o ≤ m
unfolding or_usual
usual_small m u none h g = h
usual_small m u (some v) h g = g

indent-length : (l : ℕ) → length (indent l) ≡ 2 * l
unfolding indent
indent-length zero = refl
indent-length (suc l) = omega (arith, indent-length l)

-- ---- a line
abbrev Writes : (c : ℕ) (seen : List ℕ) → Line → Type 0
Writes c seen (wrong f) = T true
Writes c seen (cell l i) = Writable c seen i × (l ≡ level_under seen i.cell.parent)

module _ (c : ℕ) (seen : List ℕ) (l k : ℕ) (w d q u : Option ℕ) (x : Bytes) where
  abbrev it : Item
  it = record { cell = record { parent = or_usual (nearest l seen) u; kind = k; width = or_usual (natural k x) w; depth = or_usual 1 d; rank = or_usual 0 q }; text = x }

  line_less : l ≡ level_under seen (or_usual (nearest l seen) u)
      → length (cell_line seen it) ≤ 2 * l + (length (word k) + (length (field width_word w) + (length (field depth_word d) + (length (field rank_word q) + (length (field under_word u) + length (label x))))))
  unfolding cell_line fields
  line_less e =
      let ww = field width_word (unless (natural k x) (or_usual (natural k x) w)) in
      let dd = field depth_word (unless 1 (or_usual 1 d)) in
      let qq = field rank_word (unless 0 (or_usual 0 q)) in
      let uu = field under_word (unless (nearest l seen) (or_usual (nearest l seen) u)) in
      rw (← e)
      (omega (
        arith,
        length-append (indent l) (word k ++ (ww ++ (dd ++ (qq ++ (uu ++ label x))))),
        length-append (word k) (ww ++ (dd ++ (qq ++ (uu ++ label x)))),
        length-append ww (dd ++ (qq ++ (uu ++ label x))),
        length-append dd (qq ++ (uu ++ label x)),
        length-append qq (uu ++ label x),
        length-append uu (label x),
        indent-length l,
        usual_short width_word (natural k x) w,
        usual_short depth_word 1 d,
        usual_short rank_word 0 q,
        usual_short under_word (nearest l seen) u,
      ))

  told_writes : T (known k) → Most most_pair w → Most most_byte d → Most most_byte q → Most most_byte u → Printable x
      → 2 * l + (length (word k) + (length (field width_word w) + (length (field depth_word d) + (length (field rank_word q) + (length (field under_word u) + length (label x)))))) ≤ most_line
      → Writes c seen (told c seen l k w d q u x)
  unfolding told placed
  told_writes kk a b e f p n = go (lower c (or_usual (nearest l seen) u)) refl (eqb l (level_under seen (or_usual (nearest l seen) u))) refl
    where
      go : (y : Bool) → lower c (or_usual (nearest l seen) u) ≡ y → (z : Bool) → eqb l (level_under seen (or_usual (nearest l seen) u)) ≡ z → Writes c seen (cond (y && z) (cell l it) (wrong Fault.Misplaced))
      go false g z h = tt
      go true g false h = tt
      go true g true h =
          let m : l ≡ level_under seen (or_usual (nearest l seen) u) = eqb-true l _ h in (
            record {
              is_lower = subst T (sym g) tt;
              is_known = kk;
              width_small = usual_small most_pair (natural k x) w (natural_small k x (omega (arith, label-least x))) a;
              depth_small = usual_small most_byte 1 d (omega arith) b;
              rank_small = usual_small most_byte 0 q (omega arith) e;
              under_small = rw (← m) (usual_most most_byte (nearest l seen) u f);
              printable = p;
              short = omega (arith, line_less m);
            },
            m,
          )

module _ (c : ℕ) (seen : List ℕ) where
  abbrev F : (f : Fault) → Writes c seen (wrong f)
  F f = tt

  fields_writes : (l k : ℕ) (t : Bytes) → T (known k) → Printable t → 2 * l + (length (word k) + length t) ≤ most_line → Writes c seen (fields_read c seen l k t)
  unfolding fields_read
  fields_writes l k t kk p n =
      optional-all (Writes c seen) F width_word most_pair _ t (λ w t₁ a n₁ p₁.
      optional-all (Writes c seen) F depth_word most_byte _ t₁ (λ d t₂ b n₂ p₂.
      optional-all (Writes c seen) F rank_word most_byte _ t₂ (λ q t₃ e n₃ p₃.
      optional-all (Writes c seen) F under_word most_byte _ t₃ (λ u t₄ f n₄ p₄.
      labelled-all (Writes c seen) F _ t₄ (λ x n₅ p₅.
      told_writes c seen l k w d q u x kk a b e f (p₅ (p₄ (p₃ (p₂ (p₁ p))))) (omega arith))))))

  line_clear : (b : Bytes) → ((f : Fault) → Writes c seen (wrong f)) → (Printable b → length b ≤ most_line → Writes c seen (elim (indented 0 b) [ odd ↦ wrong Fault.OddBlanks | level l t ↦ named c seen l kinds t ])) → Writes c seen (line c seen b)
  unfolding line clear
  line_clear b g h = go (every letter b) refl (leb (length b) most_line) refl
    where
      go : (y : Bool) → every letter b ≡ y → (z : Bool) → leb (length b) most_line ≡ z
          → Writes c seen (elim (elim y as (λ v. Option Fault) [ false ↦ some StrangeByte | true ↦ elim z [ true ↦ none | false ↦ some LongLine ] ]) [
            | some f ↦ wrong f
            | none ↦ elim (indented 0 b) [ odd ↦ wrong Fault.OddBlanks | level l t ↦ named c seen l kinds t ]
          ])
      go false e z f = tt
      go true e false f = tt
      go true e true f = h (subst T (sym e) tt) (leb-true (length b) most_line f)

  line_writes : (b : Bytes) → Writes c seen (line c seen b)
  line_writes b = line_clear b F (λ p n. go p n (indented 0 b) (indented-fine 0 b))
    where
      go : Printable b → length b ≤ most_line → (x : Indented) → Dents 0 b x → Writes c seen (elim x [ odd ↦ wrong Fault.OddBlanks | level l t ↦ named c seen l kinds t ])
      go p n odd h = tt
      go p n (level l t) h =
          named-all (Writes c seen) F c seen l kinds t (unfold known about in (tt, (tt, (tt, (tt, (tt, tt)))))) (λ k s kk n₁ p₁. fields_writes l k s kk (p₁ (h.1 p)) (omega (arith, h.0)))

-- ---- the cells
abbrev WritesAll : (c : ℕ) (seen : List ℕ) → Cells → Type 0
WritesAll c seen (faulty n f) = T true
WritesAll c seen (items is) = AllWritable c seen is × (c ≤ most_cells → c + length is ≤ most_cells)

cells_write : (c : ℕ) (seen : List ℕ) (bs : List Bytes) → WritesAll c seen (cells c seen bs)
unfolding cells with_cell
cells_write c seen [] = (tt, λ h. omega arith)
cells_write c seen (b ∷ bs) = go (ltb c most_cells) refl (line c seen b) (line_writes c seen b) (λ l. cells_write (suc c) (seen ++ (l ∷ [])) bs)
  where
    more : c < most_cells → (l : ℕ) (i : Item) → Writes c seen (cell l i) → (x : Cells) → WritesAll (suc c) (seen ++ (l ∷ [])) x → WritesAll c seen (with_cell i x)
    more n l i h (faulty k f) g = tt
    more n l i h (items is) g = ((h.0, rw h.1 at g.0), λ z. omega (arith, g.1 n))

    go : (y : Bool) → ltb c most_cells ≡ y → (x : Line) → Writes c seen x → ((l : ℕ) → WritesAll (suc c) (seen ++ (l ∷ [])) (cells (suc c) (seen ++ (l ∷ [])) bs))
        → WritesAll c seen (elim y [
          | false ↦ faulty (c + 2) Fault.ManyCells
          | true ↦ elim x [ wrong f ↦ faulty (c + 2) f | cell l i ↦ with_cell i (cells (suc c) (seen ++ (l ∷ [])) bs) ]
        ])
    go false e x h g = tt
    go true e (wrong f) h g = tt
    go true e (cell l i) h g = more (ltb-true c most_cells e) l i h (cells (suc c) (seen ++ (l ∷ [])) bs) (g l)

-- ---- the first line, and the whole
abbrev WritesFirst : First → Type 0
WritesFirst (no_first f) = T true
WritesFirst (allowed al) = al ≤ most_allowance

first_writes : (b : Bytes) → WritesFirst (first b)
unfolding first all_read
first_writes b = go (clear b) (after allowance_word b)
  where
    got : (s : Bytes) (x : Number) → NumberOf most_allowance s x → WritesFirst (all_read x)
    got s absent h = tt
    got s large h = tt
    got s (read n []) h = h.small
    got s (read n (b ∷ bs)) h = tt

    go : (o : Option Fault) (a : Option Bytes) → WritesFirst (elim o [ some f ↦ no_first f | none ↦ elim a [ none ↦ no_first Fault.NoAllowance | some s ↦ all_read (number most_allowance s) ] ])
    go (some f) a = tt
    go none none = tt
    go none (some s) = got s (number most_allowance s) (number-fine most_allowance s)

-- what holds of every content that a text says
pub record Told (c : Content) : Type 0 where
  pub allowed_is : c.allowance ≤ most_allowance
  pub few : length c.items ≤ most_cells
  pub all : AllWritable 0 [] c.items

abbrev WritesPlan : Understood → Type 0
WritesPlan (fault n f) = T true
WritesPlan (plan c) = Told c

lines_write : (bs : List Bytes) → WritesPlan (by_lines bs)
unfolding by_lines with_allowance
lines_write [] = tt
lines_write (b ∷ bs) = go (first b) (first_writes b) (cells 0 [] bs) (cells_write 0 [] bs)
  where
    more : (al : ℕ) → al ≤ most_allowance → (x : Cells) → WritesAll 0 [] x → WritesPlan (with_allowance al x)
    more al h (faulty n f) g = tt
    more al h (items is) g = record { allowed_is = h; few = omega (arith, g.1 (omega arith)); all = g.0 }

    go : (y : First) → WritesFirst y → (x : Cells) → WritesAll 0 [] x → WritesPlan (elim y [ no_first f ↦ fault 1 f | allowed al ↦ with_allowance al x ])
    go (no_first f) h x g = tt
    go (allowed al) h x g = more al h x g

pub understood-told : (t : Bytes) (c : Content) → understood t ≡ plan c → Told c
unfolding understood
understood-told t c e = subst WritesPlan e (lines_write (lines t))

-- what a text says, the outline of it says
pub understood_again : (t : Bytes) (c : Content) → understood t ≡ plan c → understood (outline c) ≡ plan c
understood_again t c e = let h = understood-told t c e in understood-back c h.allowed_is h.few h.all

-- two contents that their outlines say are one if the outlines are
plan-of : Content → Understood → Content
plan-of c (fault n f) = c
plan-of c (plan d) = d

pub one-content : (c d : Content) → understood (outline c) ≡ plan c → understood (outline d) ≡ plan d → outline c ≡ outline d → c ≡ d
unfolding plan-of
one-content c d p q e = ap (plan-of c) (sym p ∙ ap understood e ∙ q)

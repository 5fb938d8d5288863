-- The ends of lines and words, and the next word, as the code finds them. Assumes nothing.
use Rattle.std.specs.Prelude.{◌≡◌, List, [], ◌∷◌, Bool, true, false, cond, ℕ, suc, ◌+◌, ◌-◌, ◌≤◌, ◌<◌, eqb, length, get_or, take, drop}
use Rattle.std.proofs.Math.Path.{refl}
use Rattle.std.proofs.Common.{sym, ap, ◌∙◌, arith, add-one, drop_of_length-le, drop-cons, drop-drop, eq-eqb, ne_eqb}
use Rattle.listing.specs.Printed.{Bytes, line_feed}
use Rattle.drawing_spec.specs.Words.{onto, lines, blank, parted, words, first, others}
use Rattle.drawing_spec.specs.Said.{begins}
use Rattle.drawing_spec.proofs.Laws.Words.{words-solid}
use Rattle.drawing.specs.Steps.{until, feed, solid, Next}

-- a text from a place on, taken apart
pub from_place : (t : Bytes) (i : ℕ) → i < length t → drop i t ≡ get_or t i 0 ∷ drop (i + 1) t
from_place t i h = rw add-one (drop-cons t i 0 h)

pub past_end : (t : Bytes) (i : ℕ) → length t ≤ i → drop i t ≡ []
past_end t i h = drop_of_length-le t {i = i} h

-- ---- the loop that looks for a byte
module _ (test : ℕ → Bool) where
  until_yes : (b : ℕ) (t : Bytes) → test b ≡ true → until test (b ∷ t) ≡ 0
  unfolding until
  until_yes b t e = rw e

  until-no : (b : ℕ) (t : Bytes) → test b ≡ false → until test (b ∷ t) ≡ suc (until test t)
  unfolding until
  until-no b t e = rw e

  until_none : until test [] ≡ 0
  unfolding until
  until_none = refl

  module _ (text : Bytes) (at i : ℕ) (e : at + until test (drop at text) ≡ i + until test (drop i text)) where
    pub until-here : i < length text → test (get_or text i 0) ≡ true → i ≡ at + until test (drop at text)
    until-here h q = let n : until test (drop i text) ≡ 0 = rw (from_place text i h) (until_yes _ _ q) in omega arith

    pub until-later : i < length text → test (get_or text i 0) ≡ false → at + until test (drop at text) ≡ i + 1 + until test (drop (i + 1) text)
    until-later h q = let n : until test (drop i text) ≡ suc (until test (drop (i + 1) text)) = rw (from_place text i h) (until-no _ _ q) in omega arith

    pub until_last : length text ≤ i → i ≡ at + until test (drop at text)
    until_last h = let n : until test (drop i text) ≡ 0 = rw (past_end text i h) until_none in omega arith

pub feed_yes : (b : ℕ) → b ≡ line_feed → feed b ≡ true
unfolding feed
feed_yes b e = eq-eqb b line_feed e

pub feed-no : (b : ℕ) → ¬ (b ≡ line_feed) → feed b ≡ false
unfolding feed
feed-no b n = ne_eqb b line_feed n

pub solid_yes : (b : ℕ) → blank b ≡ false → solid b ≡ true
unfolding solid
solid_yes b e = rw e

pub solid-no : (b : ℕ) → blank b ≡ true → solid b ≡ false
unfolding solid
solid-no b e = rw e

-- ---- the first line of a text, and the others
line-cons : (b : ℕ) (t : Bytes) → lines (b ∷ t) ≡ take (until feed (b ∷ t)) (b ∷ t) ∷ lines (drop (until feed (b ∷ t)) t)
unfolding lines onto until feed
line-cons b [] = go (eqb b line_feed)
  where
    go : (y : Bool) → ◌≡◌ {A = List Bytes} (cond y ([] ∷ []) ((b ∷ []) ∷ [])) (take (cond y 0 1) (b ∷ []) ∷ lines (drop (cond y 0 1) []))
    go true = refl
    go false = refl
line-cons b (d ∷ t) = go (eqb b line_feed) (until feed (d ∷ t)) (line-cons d t)
  where
    go : (y : Bool) (m : ℕ) → lines (d ∷ t) ≡ take m (d ∷ t) ∷ lines (drop m t)
        → cond y ([] ∷ lines (d ∷ t)) (onto b (lines (d ∷ t))) ≡ take (cond y 0 (suc m)) (b ∷ d ∷ t) ∷ lines (drop (cond y 0 (suc m)) (d ∷ t))
    go true m e = refl
    go false m e = ap (onto b) e

pub lines_from : (text : Bytes) (at : ℕ) → at < length text
    → lines (drop at text) ≡ take (until feed (drop at text)) (drop at text) ∷ lines (drop (at + until feed (drop at text) + 1) text)
lines_from text at h =
    let n = until feed (drop at text) in
    let e : drop at text ≡ get_or text at 0 ∷ drop (at + 1) text = from_place text at h in
    let q : lines (drop at text) ≡ take n (drop at text) ∷ lines (drop n (drop (at + 1) text)) = rw e (line-cons (get_or text at 0) (drop (at + 1) text)) in
    let k : at + 1 + n ≡ at + n + 1 = omega arith in
    let d : drop n (drop (at + 1) text) ≡ drop (at + n + 1) text = drop-drop n (at + 1) text ∙ ap (λ i. drop i text) k in
    q ∙ ap (λ t. take n (drop at text) ∷ lines t) d

pub lines_none : (text : Bytes) (at : ℕ) → length text ≤ at → lines (drop at text) ≡ []
unfolding lines
lines_none text at h = rw (past_end text at h)

-- ---- the next word
words-blank : (b : ℕ) (t : Bytes) → blank b ≡ true → words (b ∷ t) ≡ words t
unfolding words
words-blank b t e = rw e

word_last : (b : ℕ) → (cond (parted []) ((b ∷ []) ∷ words []) (onto b (words [])) ≡ (b ∷ []) ∷ []) × (words [] ≡ [])
unfolding parted words
word_last b = (refl, refl)

parted-is : (d : ℕ) (t : Bytes) → parted (d ∷ t) ≡ blank d
unfolding parted
parted-is d t = refl

onto-is : (b : ℕ) (l : Bytes) (ls : List Bytes) → onto b (l ∷ ls) ≡ (b ∷ l) ∷ ls
unfolding onto
onto-is b l ls = refl

word-cons : (b : ℕ) (t : Bytes) → blank b ≡ false → words (b ∷ t) ≡ take (until blank (b ∷ t)) (b ∷ t) ∷ words (drop (until blank (b ∷ t)) (b ∷ t))
word-cons b [] e = words-solid b [] e ∙ (word_last b).0 ∙ rw (until-no blank b [] e, until_none blank, (word_last b).1)
word-cons b (d ∷ t) e = go (blank d) refl (word-cons d t)
  where
    go : (y : Bool) → blank d ≡ y → (blank d ≡ false → words (d ∷ t) ≡ take (until blank (d ∷ t)) (d ∷ t) ∷ words (drop (until blank (d ∷ t)) (d ∷ t)))
        → words (b ∷ d ∷ t) ≡ take (until blank (b ∷ d ∷ t)) (b ∷ d ∷ t) ∷ words (drop (until blank (b ∷ d ∷ t)) (b ∷ d ∷ t))
    go true q h = words-solid b (d ∷ t) e ∙ rw (until-no blank b (d ∷ t) e, until_yes blank d t q, parted-is d t, q)
    go false q h = words-solid b (d ∷ t) e ∙ rw (until-no blank b (d ∷ t) e, parted-is d t, q) (ap (onto b) (h q) ∙ onto-is b _ _)

split : (t : Bytes)
    → (first (words t) ≡ take (until blank (drop (until solid t) t)) (drop (until solid t) t)) × (others (words t) ≡ words (drop (until blank (drop (until solid t) t)) (drop (until solid t) t)))
unfolding first others
split [] = rw (until_none solid, until_none blank, (word_last 0).1) (refl, refl)
split (b ∷ t) = go (blank b) refl (split t)
  where
    go : (y : Bool) → blank b ≡ y
        → (first (words t) ≡ take (until blank (drop (until solid t) t)) (drop (until solid t) t)) × (others (words t) ≡ words (drop (until blank (drop (until solid t) t)) (drop (until solid t) t)))
        → (first (words (b ∷ t)) ≡ take (until blank (drop (until solid (b ∷ t)) (b ∷ t))) (drop (until solid (b ∷ t)) (b ∷ t)))
        × (others (words (b ∷ t)) ≡ words (drop (until blank (drop (until solid (b ∷ t)) (b ∷ t))) (drop (until solid (b ∷ t)) (b ∷ t))))
    go true e h = rw (until-no solid b t (solid-no b e), words-blank b t e) h
    go false e h = rw (until_yes solid b t (solid_yes b e)) (ap first (word-cons b t e), ap others (word-cons b t e))

pub next-is : (line : Bytes) (at s e : ℕ) → s ≡ at + until solid (drop at line) → e ≡ s + until blank (drop s line) → e ≤ length line → Next line at (record { start = s; end = e })
next-is line at s e p q h =
    let u = drop (until solid (drop at line)) (drop at line) in
    let d : drop s line ≡ u = ap (λ k. drop k line) p ∙ sym (drop-drop (until solid (drop at line)) at line) in
    let n : e - s ≡ until blank (drop s line) = omega arith in
    let r : drop e line ≡ drop (until blank (drop s line)) (drop s line) = ap (λ k. drop k line) q ∙ sym (drop-drop (until blank (drop s line)) s line) in
    let w : take (e - s) (drop s line) ≡ take (until blank u) u = ap (λ k. take k (drop s line)) n ∙ ap (λ (l : Bytes). take (until blank l) l) d in
    let v : words (drop e line) ≡ words (drop (until blank u) u) = ap words (r ∙ ap (λ (l : Bytes). drop (until blank l) l) d) in
    let z = split (drop at line) in
    record { word = z.0 ∙ sym w; rest = z.1 ∙ sym v; upward = omega arith; inside = h }

-- ---- a text that begins with a word
begins-cons : (x b : ℕ) (w t : Bytes) → begins (x ∷ w) (b ∷ t) ≡ elim (eqb x b) [ true ↦ begins w t | false ↦ false ]
unfolding begins
begins-cons x b w t = refl

begins-empty : (x : ℕ) (w : Bytes) → begins (x ∷ w) [] ≡ false
unfolding begins
begins-empty x w = refl

begins-done : (t : Bytes) → begins [] t ≡ true
unfolding begins
begins-done t = refl

module _ (w t : Bytes) (i : ℕ) (h : i < length w) where
  pub begins_short : length t ≤ i → begins (drop i w) (drop i t) ≡ false
  begins_short l = rw (from_place w i h, past_end t i l) (begins-empty _ _)

  pub begins-other : i < length t → ¬ (get_or t i 0 ≡ get_or w i 0) → begins (drop i w) (drop i t) ≡ false
  begins-other l n = rw (from_place w i h, from_place t i l, begins-cons, ne_eqb (get_or w i 0) (get_or t i 0) (λ e. n (sym e)))

  pub begins-more : i < length t → get_or t i 0 ≡ get_or w i 0 → begins (drop i w) (drop i t) ≡ begins (drop (i + 1) w) (drop (i + 1) t)
  begins-more l n = rw (from_place w i h, from_place t i l, begins-cons, eq-eqb (get_or w i 0) (get_or t i 0) (sym n))

pub begins-all : (w t : Bytes) (i : ℕ) → length w ≤ i → begins (drop i w) t ≡ true
begins-all w t i h = rw (past_end w i h) (begins-done t)

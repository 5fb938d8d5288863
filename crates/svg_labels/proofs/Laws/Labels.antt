-- The labels, as the code writes them. Nothing that a reader must believe stands here. Assumes nothing.
use Rattle.std.specs.Prelude.{◌≡◌, refl, List, [], ◌∷◌, ◌++◌, ℕ, ◌+◌, ◌≤◌, ◌<◌, Float, length, get_or, take, true, false, eqb}
use Rattle.std.proofs.Common.{sym, ◌∙◌, ap, append-nil, append_assoc, add-one, ne_eqb, take-suc, take_all}
use Rattle.listing.specs.Printed.{Bytes}
use Rattle.listing.specs.Put.{Put}
use Rattle.listing.proofs.Laws.Put.{then, put-none}
use Rattle.pen.specs.declared.Stroke.{Stroke}
use Rattle.pen.specs.declared.Stroke.TheVariants.{Move, Line, Lift}
use Rattle.svg_labels.specs.Words.{amp_word, lt_word, gt_word}
use Rattle.svg_labels.specs.Labels.{letter, escaped, label_at, at_line, label_text}

-- ---- letters
escaped-append : (l k : Bytes) → escaped (l ++ k) ≡ escaped l ++ escaped k
unfolding escaped
escaped-append [] k = refl
escaped-append (b ∷ l) k = ap (λ (r : Bytes). letter b ++ r) (escaped-append l k) ∙ sym (append_assoc (letter b) (escaped l) (escaped k))

pub letters-start : (l : Bytes) (a : List ℕ) (i : ℕ) → Put a i (escaped (take 0 l)) a i
unfolding escaped
letters-start l a i = put-none a i

pub letters-more : (l : Bytes) {a b d : List ℕ} {i j k n : ℕ} → Put a i (escaped (take n l)) b j → n < length l → Put b j (letter (get_or l n 0)) d k → Put a i (escaped (take (n + 1) l)) d k
unfolding escaped
letters-more l {n = n} p h q =
    let e : take (n + 1) l ≡ take n l ++ (get_or l n 0 ∷ []) = rw add-one (take-suc l n 0 h) in
    rw (e, escaped-append (take n l) (get_or l n 0 ∷ []), append-nil (letter (get_or l n 0))) (then p q)

pub letters-done : (l : Bytes) {a b : List ℕ} {i k n : ℕ} → Put a i (escaped (take n l)) b k → length l ≤ n → Put a i (escaped l) b k
letters-done l {n = n} p h = rw (take_all n l h) at p

pub letter_amp : (b : ℕ) → b ≡ 38 → letter b ≡ amp_word
unfolding letter
letter_amp b e = rw e

pub letter_lt : (b : ℕ) → b ≡ 60 → letter b ≡ lt_word
unfolding letter
letter_lt b e = rw e

pub letter_gt : (b : ℕ) → b ≡ 62 → letter b ≡ gt_word
unfolding letter
letter_gt b e = rw e

pub letter-plain : (b : ℕ) → ¬ (b ≡ 38) → ¬ (b ≡ 60) → ¬ (b ≡ 62) → letter b ≡ b ∷ []
unfolding letter
letter-plain b n m o = rw (ne_eqb b 38 n, ne_eqb b 60 m, ne_eqb b 62 o)

-- a text that is written is another's
pub put_as : {a b : List ℕ} {i k : ℕ} (s t : List ℕ) → t ≡ s → Put a i s b k → Put a i t b k
put_as s t e p = rw e p

-- ---- a label
pub label-empty : (s : Stroke) (l : Bytes) → true ≡ eqb (length l) 0 → label_text s l ≡ []
unfolding label_text
label-empty s l e = rw (← e)

module _ (s : Stroke) (l : Bytes) (n : false ≡ eqb (length l) 0) where
  pub label-move : (x y : Float) → s ≡ Move x y → label_text s l ≡ []
  unfolding label_text at_line
  label-move x y e = rw (← n, e)

  pub label-line : (x y : Float) → s ≡ Line x y → label_text s l ≡ label_at x y l
  unfolding label_text at_line
  label-line x y e = rw (← n, e)

  pub label_lift : s ≡ Lift → label_text s l ≡ []
  unfolding label_text at_line
  label_lift e = rw (← n, e)

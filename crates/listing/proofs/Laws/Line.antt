-- The lines as the code writes them: a first field, then each with its space before it. Assumes nothing.
use Rattle.std.specs.Prelude.{◌≡◌, refl, List, [], ◌∷◌, ◌++◌, ℕ, ℤ, length}
use Rattle.std.proofs.Common.{sym, ap, ◌∙◌, append_assoc, arith}
use Rattle.std.proofs.Math.Seq.{take-append_seam}
use Rattle.listing.specs.Printed.{Bytes, space, line_feed, sheet_word, refused_word, decimal, signed, line, sheet_line, label_field, cell_line, refused_line, mended_line, lines_joined, step_line, end_line}
use Rattle.listing.specs.Printed.{bitmap_word, bitmap_line}
use Rattle.listing.specs.Line.{spaced, line_of, text}

pub spaced-empty : (s : Bytes) → length s ≡ 0 → spaced s ≡ []
unfolding spaced
spaced-empty [] e = refl
spaced-empty (b ∷ bs) e = absurd (omega arith)

pub spaced-label : (s : Bytes) → ¬ (length s ≡ 0) → spaced s ≡ space ∷ s
unfolding spaced
spaced-label [] e = absurd (e refl)
spaced-label (b ∷ bs) e = refl

-- ---- the lines
pub sheet_line-is : (n al w h : ℕ) → sheet_word ++ (space ∷ decimal n) ++ (space ∷ decimal al) ++ (space ∷ decimal w) ++ (space ∷ decimal h) ++ (line_feed ∷ []) ≡ sheet_line n al w h
unfolding sheet_line line
sheet_line-is n al w h = simp append_assoc

pub refused_line-is : (k c : ℕ) → refused_word ++ (space ∷ decimal k) ++ (space ∷ decimal c) ++ (line_feed ∷ []) ≡ refused_line k c
unfolding refused_line line
refused_line-is k c = simp append_assoc

regroup : (a b c d e f g : Bytes) → a ++ b ++ c ++ d ++ e ++ f ++ g ≡ a ++ (b ++ (c ++ (d ++ (e ++ (f ++ g)))))
regroup a b c d e f g = simp append_assoc

pub cell_line-is : (c : ℕ) (x y : ℤ) (w d : ℕ) (l : Bytes)
    → decimal c ++ (space ∷ signed x) ++ (space ∷ signed y) ++ (space ∷ decimal w) ++ (space ∷ decimal d) ++ spaced l ++ (line_feed ∷ []) ≡ cell_line c x y w d l
unfolding cell_line line label_field spaced
cell_line-is c x y w d [] = regroup (decimal c) (space ∷ signed x) (space ∷ signed y) (space ∷ decimal w) (space ∷ decimal d) [] _
cell_line-is c x y w d (b ∷ l) = regroup (decimal c) (space ∷ signed x) (space ∷ signed y) (space ∷ decimal w) (space ∷ decimal d) (space ∷ b ∷ l) _

pub mended_line-is : (c v e w d : ℕ) → decimal c ++ (space ∷ decimal v) ++ (space ∷ decimal e) ++ (space ∷ decimal w) ++ (space ∷ decimal d) ++ (line_feed ∷ []) ≡ mended_line c v e w d
unfolding mended_line line
mended_line-is c v e w d = grouped (decimal c) (space ∷ decimal v) (space ∷ decimal e) (space ∷ decimal w) (space ∷ decimal d) (line_feed ∷ [])
  where
    grouped : (a b c d e f : Bytes) → a ++ b ++ c ++ d ++ e ++ f ≡ a ++ (b ++ (c ++ (d ++ (e ++ f))))
    grouped a b c d e f = simp append_assoc

-- ---- texts
pub line-text : (t : Bytes) → text (line_of t) ≡ t
unfolding line_of
line-text t = take-append_seam t _

pub joined-append : (ls ms : List Bytes) → lines_joined (ls ++ ms) ≡ lines_joined ls ++ lines_joined ms
unfolding lines_joined
joined-append [] ms = refl
joined-append (l ∷ ls) ms = ap (λ (t : Bytes). l ++ t) (joined-append ls ms) ∙ sym (append_assoc l (lines_joined ls) (lines_joined ms))

-- the first line of a bitmap
pub bitmap_line-is : (c r : ℕ) → bitmap_word ++ (space ∷ decimal c) ++ (space ∷ decimal r) ++ (line_feed ∷ []) ≡ bitmap_line c r
unfolding bitmap_line line
bitmap_line-is c r = simp append_assoc

pub step_line-is : (c : ℕ) (l : Bytes) → decimal c ++ spaced l ++ (line_feed ∷ []) ≡ step_line c l
unfolding step_line line label_field spaced
step_line-is c [] = simp append_assoc
step_line-is c (b ∷ l) = simp append_assoc

pub end_line-is : (word : Bytes) (u n : ℕ) → word ++ (space ∷ decimal u) ++ (space ∷ decimal n) ++ (line_feed ∷ []) ≡ end_line word u n
unfolding end_line line
end_line-is word u n = simp append_assoc

-- How long a line is. Assumes nothing.
use Rattle.std.specs.Prelude.{◌≡◌, refl, List, [], ◌∷◌, ◌++◌, ℕ, zero, suc, ◌+◌, ◌*◌, ◌^◌, ◌≤◌, ◌<◌, length}
use Rattle.std.proofs.Math.Option.{Option, none, some}
use Rattle.std.proofs.Common.{arith, length-append}
use Rattle.plan.specs.Limits.{most_label, most_width, most_depth, most_level}
use Rattle.listing.specs.Printed.{Bytes, decimal}
use Rattle.listing.proofs.Laws.Printed.{at_most}
use Rattle.content.specs.Content.{Item}
use Rattle.outline_spec.specs.Outline.{width_word, depth_word, rank_word, under_word, quote, word, nearest, level_under, natural, unless, indent, field, label, fields, cell_line}
use Rattle.outline_spec.specs.Understood.{most_line, most_byte}
use Rattle.outline_spec.proofs.Laws.Parts.{Most}
use Rattle.outline_spec.proofs.Laws.Back.{unless-most}

indent-length : (l : ℕ) → length (indent l) ≡ 2 * l
unfolding indent
indent-length zero = refl
indent-length (suc l) = omega (arith, indent-length l)

word-length : (k : ℕ) → length (word k) ≤ 6
unfolding word
word-length zero = omega arith
word-length (suc zero) = omega arith
word-length (suc (suc zero)) = omega arith
word-length (suc (suc (suc zero))) = omega arith
word-length (suc (suc (suc (suc zero)))) = omega arith
word-length (suc (suc (suc (suc (suc zero))))) = omega arith
word-length (suc (suc (suc (suc (suc (suc k)))))) = omega arith

field-length : (w : Bytes) (o : Option ℕ) (m k : ℕ) → Most m o → m < 10 ^ suc k → length (field w o) ≤ length w + suc k
unfolding field
field-length w none m k h l = omega arith
field-length w (some n) m k h l = let p : n < 10 ^ suc k = omega arith in rw (length-append w (decimal n)) (omega (arith, at_most k n p))

label-length : (t : Bytes) → length (label t) ≤ length t + 3
unfolding label
label-length [] = omega arith
label-length (b ∷ t) = omega (arith, length-append (b ∷ t) (quote ∷ []))

fields-length : (w d q u : Option ℕ) (t : Bytes) → Most most_width w → Most most_depth d → Most most_byte q → Most most_byte u → length (fields w d q u t) ≤ length t + 42
unfolding fields
fields-length w d q u t a b e f =
    omega (
      arith,
      length-append (field width_word w) (field depth_word d ++ (field rank_word q ++ (field under_word u ++ label t))),
      length-append (field depth_word d) (field rank_word q ++ (field under_word u ++ label t)),
      length-append (field rank_word q) (field under_word u ++ label t),
      length-append (field under_word u) (label t),
      field-length width_word w most_width 3 a (omega arith),
      field-length depth_word d most_depth 1 b (omega arith),
      field-length rank_word q most_byte 2 e (omega arith),
      field-length under_word u most_byte 2 f (omega arith),
      label-length t,
    )

-- the longest line of a plan that is accepted has 150 bytes
pub line_short : (seen : List ℕ) (i : Item) → level_under seen i.cell.parent ≤ most_level → i.cell.width ≤ most_width → i.cell.depth ≤ most_depth → i.cell.rank ≤ most_byte
    → Most most_byte (unless (nearest (level_under seen i.cell.parent) seen) i.cell.parent) → length i.text ≤ most_label → length (cell_line seen i) ≤ most_line
unfolding cell_line
line_short seen i l w d q u t =
    let l' = level_under seen i.cell.parent in
    let ww = unless (natural i.cell.kind i.text) i.cell.width in
    let dd = unless 1 i.cell.depth in
    let qq = unless 0 i.cell.rank in
    let uu = unless (nearest l' seen) i.cell.parent in
    omega (
      arith,
      length-append (indent l') (word i.cell.kind ++ fields ww dd qq uu i.text),
      length-append (word i.cell.kind) (fields ww dd qq uu i.text),
      indent-length l',
      word-length i.cell.kind,
      fields-length ww dd qq uu i.text (unless-most most_width (natural i.cell.kind i.text) i.cell.width w) (unless-most most_depth 1 i.cell.depth d) (unless-most most_byte 0 i.cell.rank q) u,
    )

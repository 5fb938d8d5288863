-- A line read back, the lines, and the whole outline, of items whose lines can be written. Assumes nothing.
use Rattle.std.specs.Prelude.{◌≡◌, refl, List, [], ◌∷◌, ◌++◌, Bool, true, false, cond, ℕ, zero, suc, ◌+◌, ◌/◌, ◌%◌, ◌≤◌, ◌<◌, T, eqb, leb, length}
use Rattle.std.proofs.Common.{sym, ap, ◌∙◌, append-nil, arith, leb→le, length-append, eq-eqb, ne_eqb, le-leb, lt-ltb}
use Rattle.std.proofs.Math.Option.{Option, none, some}
use Rattle.std.proofs.Math.Decide.{dec_lt, ℕ_discrete}
use Rattle.plan.specs.Limits.{most_cells, most_allowance}
use Rattle.plan.specs.Questions.{every, lower}
use Rattle.plan.specs.Kinds.{known}
use Rattle.plan.proofs.Laws.Steps.{and_left}
use Rattle.listing.specs.Printed.{Bytes, line_feed, digit, decimal}
use Rattle.listing.proofs.Laws.Printed.{decimal-one, decimal-more, at_most}
use Rattle.content.specs.Content.{Item, Content}
use Rattle.content.proofs.Laws.Fine.{letter, every-head, every_append}
use Rattle.outline_spec.specs.Outline.{allowance_word, width_word, depth_word, rank_word, under_word, quote, word, nearest, level_under, natural, unless, indent, field, label, fields, cell_line, cell_lines, first_line, ended, outline_lines, outline}
use Rattle.outline_spec.specs.Understood.{cell, read, level, allowed, items, plan, most_line, most_pair, most_byte, begun, lines, number, parted, or_usual, placed, told, fields_read, indented, clear, line, with_cell, cells, all_read, first, with_allowance, by_lines, understood}
use Rattle.outline_spec.proofs.Laws.Parts.{lead, mark, after-back, number-back, nothing-no, Most, optional-back, field-lead, field-mark, labelled-back, label-lead, label-mark, level-back, named_back, field-parted, label-parted}

-- a test that passes
pub passes : (b : Bool) → T b → b ≡ true
passes true h = refl
passes false h = absurd h

-- ---- the fields
module _ (c : ℕ) (seen : List ℕ) (l k : ℕ) (w d q u : Option ℕ) (t : Bytes) where
  pub fields_back : Most most_pair w → Most most_byte d → Most most_byte q → Most most_byte u → fields_read c seen l k (fields w d q u t) ≡ told c seen l k w d q u t
  unfolding fields_read fields
  fields_back a b e f =
      let lu = field-lead 117 _ u (label t) (label-lead t) in
      let lq = field-lead 114 _ q (field under_word u ++ label t) lu in
      let ld = field-lead 100 _ d (field rank_word q ++ (field under_word u ++ label t)) lq in
      let mu : (y : ℕ) → ¬ (117 ≡ y) → 35 ≤ y → ¬ (mark (field under_word u ++ label t) ≡ y) = λ y n h. field-mark 32 117 y _ u (label t) n (label-mark y t h) in
      let mq : (y : ℕ) → ¬ (114 ≡ y) → ¬ (117 ≡ y) → 35 ≤ y → ¬ (mark (field rank_word q ++ (field under_word u ++ label t)) ≡ y) = λ y m n h. field-mark 32 114 y _ q _ m (mu y n h) in
      let md : (y : ℕ) → ¬ (100 ≡ y) → ¬ (114 ≡ y) → ¬ (117 ≡ y) → 35 ≤ y → ¬ (mark (field depth_word d ++ (field rank_word q ++ (field under_word u ++ label t))) ≡ y) =
      λ y o m n h. field-mark 32 100 y _ d _ o (mq y m n h)
      in
      optional-back 32 119 _ most_pair _ w _ a (md 119 (omega arith) (omega arith) (omega arith) (omega arith)) ld
      ∙ optional-back 32 100 _ most_byte _ d _ b (mq 100 (omega arith) (omega arith) (omega arith)) lq
      ∙ optional-back 32 114 _ most_byte _ q _ e (mu 114 (omega arith) (omega arith)) lu
      ∙ optional-back 32 117 _ most_byte _ u _ f (label-mark 117 t (omega arith)) (label-lead t)
      ∙ labelled-back _ t

  pub fields-parted : parted (fields w d q u t) ≡ true
  unfolding fields
  fields-parted = field-parted 119 _ w _ (field-parted 100 _ d _ (field-parted 114 _ q _ (field-parted 117 _ u _ (label-parted t))))

-- ---- what is left out
usual_back : (u v : ℕ) → or_usual u (unless u v) ≡ v
unfolding or_usual unless
usual_back u v = elim (ℕ_discrete v u) [ yes e ↦ rw (eq-eqb v u e) (sym e) | no n ↦ rw (ne_eqb v u n) refl ]

pub unless-most : (m u v : ℕ) → v ≤ m → Most m (unless u v)
unfolding unless
unless-most m u v h = go (eqb v u)
  where
    go : (b : Bool) → Most m (cond b none (some v))
    go true = tt
    go false = h

pub unless-same : (m u v : ℕ) → v ≡ u → Most m (unless u v)
unfolding unless
unless-same m u v h = rw (eq-eqb v u h) tt

placed-back : (c : ℕ) (seen : List ℕ) (i : Item) → T (lower c i.cell.parent) → placed c seen (level_under seen i.cell.parent) i ≡ cell (level_under seen i.cell.parent) i
unfolding placed
placed-back c seen i h = rw (passes (lower c i.cell.parent) h, eq-eqb (level_under seen i.cell.parent) (level_under seen i.cell.parent) refl) refl

-- ---- a cell whose line can be written
pub record Writable (c : ℕ) (seen : List ℕ) (i : Item) : Type 0 where
  pub is_lower : T (lower c i.cell.parent)
  pub is_known : T (known i.cell.kind)
  pub width_small : i.cell.width ≤ most_pair
  pub depth_small : i.cell.depth ≤ most_byte
  pub rank_small : i.cell.rank ≤ most_byte
  pub under_small : Most most_byte (unless (nearest (level_under seen i.cell.parent) seen) i.cell.parent)
  pub printable : T (every letter i.text)
  pub short : length (cell_line seen i) ≤ most_line

told_back : (c : ℕ) (seen : List ℕ) (i : Item) → T (lower c i.cell.parent)
    → told c seen (level_under seen i.cell.parent) i.cell.kind (unless (natural i.cell.kind i.text) i.cell.width) (unless 1 i.cell.depth) (unless 0 i.cell.rank)
    (unless (nearest (level_under seen i.cell.parent) seen) i.cell.parent) i.text
    ≡ cell (level_under seen i.cell.parent) i
unfolding told
told_back c seen i h =
    rw (usual_back (natural i.cell.kind i.text) i.cell.width, usual_back 1 i.cell.depth, usual_back 0 i.cell.rank, usual_back (nearest (level_under seen i.cell.parent) seen) i.cell.parent)
    (placed-back c seen i h)

-- ---- its bytes are printable
indent-fine : (l : ℕ) → T (every letter (indent l))
unfolding indent every
indent-fine zero = tt
indent-fine (suc l) = indent-fine l

word-fine : (k : ℕ) → T (every letter (word k))
unfolding word every
word-fine zero = tt
word-fine (suc zero) = tt
word-fine (suc (suc zero)) = tt
word-fine (suc (suc (suc zero))) = tt
word-fine (suc (suc (suc (suc zero)))) = tt
word-fine (suc (suc (suc (suc (suc zero))))) = tt
word-fine (suc (suc (suc (suc (suc (suc k)))))) = tt

digit-fine : (d : ℕ) → d < 10 → T (every letter (digit d ∷ []))
unfolding every
digit-fine d h = rw (le-leb 32 (48 + d) (omega arith), le-leb (48 + d) 126 (omega arith)) tt

decimal_to : (k n : ℕ) → n ≤ k → T (every letter (decimal n))
decimal_to zero n h = rw (decimal-one n (omega arith)) (digit-fine n (omega arith))
decimal_to (suc k) n h =
    let front = decimal_to k (n / 10) in
    elim (dec_lt n 10) [
      | yes o ↦ rw (decimal-one n o) (digit-fine n o)
      | no o ↦ rw (decimal-more n (omega arith)) (every_append letter (decimal (n / 10)) (digit (n % 10) ∷ []) (front (omega arith)) (digit-fine (n % 10) (omega arith)))
    ]

decimal-fine : (n : ℕ) → T (every letter (decimal n))
decimal-fine n = decimal_to n n (omega arith)

field-fine : (w : Bytes) (o : Option ℕ) → T (every letter w) → T (every letter (field w o))
unfolding field every
field-fine w none h = tt
field-fine w (some n) h = every_append letter w (decimal n) h (decimal-fine n)

label-fine : (t : Bytes) → T (every letter t) → T (every letter (label t))
unfolding label every
label-fine [] h = tt
label-fine (b ∷ t) h = every_append letter (b ∷ t) (quote ∷ []) h tt

fields-fine : (w d q u : Option ℕ) (t : Bytes) → T (every letter t) → T (every letter (fields w d q u t))
unfolding fields
fields-fine w d q u t h =
    every_append letter (field width_word w) _ (field-fine width_word w (unfold every in tt))
    (every_append letter (field depth_word d) _ (field-fine depth_word d (unfold every in tt))
    (every_append letter (field rank_word q) _ (field-fine rank_word q (unfold every in tt))
    (every_append letter (field under_word u) _ (field-fine under_word u (unfold every in tt)) (label-fine t h))))

pub line-fine : (seen : List ℕ) (i : Item) → T (every letter i.text) → T (every letter (cell_line seen i))
unfolding cell_line
line-fine seen i h =
    every_append letter (indent (level_under seen i.cell.parent)) _ (indent-fine _) (every_append letter (word i.cell.kind) _ (word-fine _) (fields-fine _ _ _ _ i.text h))

pub first_fine : (al : ℕ) → T (every letter (first_line al))
unfolding first_line
first_fine al = every_append letter allowance_word (decimal al) (unfold every in tt) (decimal-fine al)

clear-back : (b : Bytes) → T (every letter b) → length b ≤ most_line → clear b ≡ none
unfolding clear
clear-back b h l = rw (passes (every letter b) h, clear, le-leb (length b) most_line l, clear) refl

-- ---- a line
-- what follows its kind
abbrev pub rest_of : (seen : List ℕ) → Item → Bytes
rest_of seen i =
    fields (unless (natural i.cell.kind i.text) i.cell.width) (unless 1 i.cell.depth) (unless 0 i.cell.rank) (unless (nearest (level_under seen i.cell.parent) seen) i.cell.parent) i.text

line-level : (seen : List ℕ) (i : Item) → T (known i.cell.kind) → indented 0 (cell_line seen i) ≡ level (level_under seen i.cell.parent) (word i.cell.kind ++ rest_of seen i)
unfolding cell_line
line-level seen i h = level-back i.cell.kind (level_under seen i.cell.parent) (rest_of seen i) h

pub line-back : (c : ℕ) (seen : List ℕ) (i : Item) → Writable c seen i → line c seen (cell_line seen i) ≡ cell (level_under seen i.cell.parent) i
unfolding line
line-back c seen i h =
    rw (clear-back (cell_line seen i) (line-fine seen i h.printable) h.short, line, line-level seen i h.is_known, line)
    (named_back c seen _ i.cell.kind (rest_of seen i) h.is_known (fields-parted c seen 0 0 _ _ _ _ i.text)
    ∙ fields_back c seen _ i.cell.kind _ _ _ _ i.text (unless-most _ _ _ h.width_small) (unless-most _ _ _ h.depth_small) (unless-most _ _ _ h.rank_small) h.under_small
    ∙ told_back c seen i h.is_lower)

-- ---- lines
ended-line : (l r : Bytes) → T (every letter l) → lines (l ++ (line_feed ∷ r)) ≡ l ∷ lines r
unfolding lines
ended-line [] r h = refl
ended-line (b ∷ l) r h =
    let (p, q) = every-head letter b l h in
    let n : 32 ≤ b = leb→le 32 b (and_left (leb 32 b) _ p) in
    rw (ne_eqb b line_feed (λ e. omega arith), ended-line l r q) (unfold begun in refl)

abbrev pub AllPrintable : List Bytes → Type 0
AllPrintable [] = T true
AllPrintable (l ∷ ls) = T (every letter l) × AllPrintable ls

pub lines-back : (ls : List Bytes) → AllPrintable ls → lines (ended ls) ≡ ls
unfolding ended lines
lines-back [] h = refl
lines-back (l ∷ ls) h = ended-line l (ended ls) h.0 ∙ ap (λ r. l ∷ r) (lines-back ls h.1)

-- ---- the cells
abbrev pub AllWritable : (c : ℕ) (seen : List ℕ) → List Item → Type 0
AllWritable c seen [] = T true
AllWritable c seen (i ∷ is) = Writable c seen i × AllWritable (suc c) (seen ++ (level_under seen i.cell.parent ∷ [])) is

pub lines-fine : (c : ℕ) (seen : List ℕ) (is : List Item) → AllWritable c seen is → AllPrintable (cell_lines seen is)
unfolding cell_lines
lines-fine c seen [] h = tt
lines-fine c seen (i ∷ is) h = (line-fine seen i h.0.printable, lines-fine (suc c) _ is h.1)

pub cells-back : (c : ℕ) (seen : List ℕ) (is : List Item) → c + length is ≤ most_cells → AllWritable c seen is → cells c seen (cell_lines seen is) ≡ items is
unfolding cells cell_lines with_cell
cells-back c seen [] n h = refl
cells-back c seen (i ∷ is) n h =
    rw (lt-ltb c most_cells (omega arith), cells, line-back c seen i h.0, cells, cells-back (suc c) (seen ++ (level_under seen i.cell.parent ∷ [])) is (omega arith) h.1) refl

-- ---- the first line
five : (al : ℕ) → al ≤ most_allowance → length (decimal al) ≤ 5
five al h = at_most 4 al (omega arith)

first_short : (al : ℕ) → al ≤ most_allowance → length (first_line al) ≤ most_line
unfolding first_line
first_short al h = rw (length-append allowance_word (decimal al)) (omega (arith, five al h))

number-all : (m n : ℕ) → n ≤ m → number m (decimal n) ≡ read n []
number-all m n h = ap (number m) (sym (append-nil (decimal n))) ∙ number-back m n [] h (unfold lead in nothing-no)

pub first_back : (al : ℕ) → al ≤ most_allowance → first (first_line al) ≡ allowed al
unfolding first
first_back al h =
    rw (clear-back (first_line al) (first_fine al) (first_short al h), first)
    (unfold first_line all_read in rw (after-back allowance_word (decimal al), first, number-all most_allowance al h) refl)

-- ---- the whole
pub understood-back : (c : Content) → c.allowance ≤ most_allowance → length c.items ≤ most_cells → AllWritable 0 [] c.items → understood (outline c) ≡ plan c
unfolding understood outline outline_lines by_lines with_allowance
understood-back c a n h =
    rw (lines-back (outline_lines c) (first_fine c.allowance, lines-fine 0 [] c.items h), first_back c.allowance a, by_lines, cells-back 0 [] c.items (omega arith) h) refl

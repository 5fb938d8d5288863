-- THE OUTLINE OF A PLAN: a text that people type and keep. A line for the allowance, then a line a cell, in file order, so that cell c is on line c + 2.
-- A cell stands one level, two blanks, further right than its parent, which is the nearest line above with less indentation, or else is named. Assumes nothing.
use Rattle.std.specs.Prelude.{List, [], ◌∷◌, ◌++◌, cond, ℕ, zero, suc, ◌+◌, eqb, ltb, length, get_or}
use Rattle.std.proofs.Math.Option.{Option, none, some}
use Rattle.plan.specs.Limits.{no_parent}
use Rattle.plan.specs.Kinds.{about}
use Rattle.std.specs.Prelude.{Some, None}
use Rattle.listing.specs.Printed.{Bytes, space, line_feed, decimal}
use Rattle.content.specs.Content.{Item, Content}

-- ---- the words
-- `allowance `
abbrev pub allowance_word : Bytes
allowance_word = 97 ∷ 108 ∷ 108 ∷ 111 ∷ 119 ∷ 97 ∷ 110 ∷ 99 ∷ 101 ∷ 32 ∷ []

-- the kinds of document 01: `step`, `run`, `repeat`, `choice`, `wait`
unfoldable pub word : (kind : ℕ) → Bytes
word zero = []
word (suc zero) = 115 ∷ 116 ∷ 101 ∷ 112 ∷ []
word (suc (suc zero)) = 114 ∷ 117 ∷ 110 ∷ []
word (suc (suc (suc zero))) = 114 ∷ 101 ∷ 112 ∷ 101 ∷ 97 ∷ 116 ∷ []
word (suc (suc (suc (suc zero)))) = 99 ∷ 104 ∷ 111 ∷ 105 ∷ 99 ∷ 101 ∷ []
word (suc (suc (suc (suc (suc zero))))) = 119 ∷ 97 ∷ 105 ∷ 116 ∷ []
word (suc (suc (suc (suc (suc (suc k)))))) = []

-- ` width `, ` depth `, ` rank `, ` under `
abbrev pub width_word : Bytes
width_word = 32 ∷ 119 ∷ 105 ∷ 100 ∷ 116 ∷ 104 ∷ 32 ∷ []

abbrev pub depth_word : Bytes
depth_word = 32 ∷ 100 ∷ 101 ∷ 112 ∷ 116 ∷ 104 ∷ 32 ∷ []

abbrev pub rank_word : Bytes
rank_word = 32 ∷ 114 ∷ 97 ∷ 110 ∷ 107 ∷ 32 ∷ []

abbrev pub under_word : Bytes
under_word = 32 ∷ 117 ∷ 110 ∷ 100 ∷ 101 ∷ 114 ∷ 32 ∷ []

-- a label stands between two quotes, the second of which ends its line: what is between them is the label, whatever its bytes
abbrev pub quote : ℕ
quote = 34

abbrev pub label_word : Bytes
label_word = 32 ∷ quote ∷ []

-- ---- where a cell stands, from the levels of the cells before it
-- the last of these cells, from c on, whose level is less than l
unfoldable pub last_less : (l c best : ℕ) → List ℕ → ℕ
last_less l c best [] = best
last_less l c best (m ∷ ms) = last_less l (suc c) (cond (ltb m l) c best) ms

-- the nearest line above with less indentation; none, as the root has none
unfoldable pub nearest : (level : ℕ) → (seen : List ℕ) → ℕ
nearest l seen = last_less l 0 no_parent seen

-- the level under a parent: 0 where that is none of the cells before
unfoldable pub level_under : (seen : List ℕ) → (parent : ℕ) → ℕ
level_under seen p = cond (ltb p (length seen)) (suc (get_or seen p 0)) 0

-- ---- what is left out
unfoldable pub border : (kind : ℕ) → ℕ
border k = elim (about k) [ Some r ↦ r.border | None ↦ 0 ]

-- the width of a box that fits its label: what question 10 asks for, and no more
unfoldable pub natural : (kind : ℕ) → (text : Bytes) → ℕ
natural k t = length t + border k

unfoldable pub unless : (usual v : ℕ) → Option ℕ
unless u v = cond (eqb v u) none (some v)

-- ---- a line
unfoldable pub indent : (level : ℕ) → Bytes
indent zero = []
indent (suc l) = space ∷ space ∷ indent l

unfoldable pub field : (word : Bytes) → Option ℕ → Bytes
field w none = []
field w (some n) = w ++ decimal n

unfoldable pub label : (text : Bytes) → Bytes
label [] = []
label (b ∷ bs) = label_word ++ ((b ∷ bs) ++ (quote ∷ []))

-- what follows the kind's word
unfoldable pub fields : (width depth rank under : Option ℕ) (text : Bytes) → Bytes
fields w d q u t = field width_word w ++ (field depth_word d ++ (field rank_word q ++ (field under_word u ++ label t)))

unfoldable pub cell_line : (seen : List ℕ) → Item → Bytes
cell_line seen i =
    let l = level_under seen i.cell.parent in
    indent l
    ++ (word i.cell.kind
    ++ fields (unless (natural i.cell.kind i.text) i.cell.width) (unless 1 i.cell.depth) (unless 0 i.cell.rank)
    (unless (nearest l seen) i.cell.parent) i.text)

-- ---- the lines, and THE outline
unfoldable pub cell_lines : (seen : List ℕ) → List Item → List Bytes
cell_lines seen [] = []
cell_lines seen (i ∷ is) = cell_line seen i ∷ cell_lines (seen ++ (level_under seen i.cell.parent ∷ [])) is

unfoldable pub first_line : (allowance : ℕ) → Bytes
first_line al = allowance_word ++ decimal al

-- a line feed ends each line
unfoldable pub ended : List Bytes → Bytes
ended [] = []
ended (l ∷ ls) = l ++ (line_feed ∷ ended ls)

unfoldable pub outline_lines : Content → List Bytes
outline_lines c = first_line c.allowance ∷ cell_lines [] c.items

unfoldable pub outline : Content → Bytes
outline c = ended (outline_lines c)

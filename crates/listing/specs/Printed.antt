-- THE LISTING (document 01, "Printed"): each line as bytes. Assumes nothing.
use Rattle.std.specs.Prelude.{List, [], ◌∷◌, ◌++◌, true, false, ℕ, zero, suc, ◌+◌, ◌/◌, ◌%◌, ltb, ℤ, pos, negsuc}

abbrev pub Bytes : Type 0
Bytes = List ℕ

-- ---- the bytes that are not a number's or a label's, in ASCII
abbrev pub space : ℕ
space = 32

abbrev pub line_feed : ℕ
line_feed = 10

abbrev pub minus_sign : ℕ
minus_sign = 45

-- the word `sheet`
abbrev pub sheet_word : Bytes
sheet_word = 115 ∷ 104 ∷ 101 ∷ 101 ∷ 116 ∷ []

-- the word `refused`
abbrev pub refused_word : Bytes
refused_word = 114 ∷ 101 ∷ 102 ∷ 117 ∷ 115 ∷ 101 ∷ 100 ∷ []

-- ---- numbers
-- a digit from 0 to 9
abbrev pub digit : ℕ → ℕ
digit d = 48 + d

-- the decimal digits of an n that is at most k
unfoldable pub digits : (k n : ℕ) → Bytes
digits zero n = digit n ∷ []
digits (suc k) n = elim (ltb n 10) [ true ↦ digit n ∷ [] | false ↦ digits k (n / 10) ++ (digit (n % 10) ∷ []) ]

unfoldable pub decimal : ℕ → Bytes
decimal n = digits n n

unfoldable pub signed : ℤ → Bytes
signed (pos n) = decimal n
signed (negsuc n) = minus_sign ∷ decimal (suc n)

-- ---- lines
-- one space parts the fields, and a line feed ends the line
unfoldable pub line : List Bytes → Bytes
line [] = line_feed ∷ []
line (f ∷ []) = f ++ (line_feed ∷ [])
line (f ∷ g ∷ fs) = f ++ (space ∷ line (g ∷ fs))

-- the first line
unfoldable pub sheet_line : (cells allowance width rows : ℕ) → Bytes
sheet_line n al w h = line (sheet_word ∷ decimal n ∷ decimal al ∷ decimal w ∷ decimal h ∷ [])

-- a label is the last field; an empty one is none
unfoldable pub label_field : Bytes → List Bytes
label_field [] = []
label_field (b ∷ bs) = (b ∷ bs) ∷ []

-- a cell's line
unfoldable pub cell_line : (cell : ℕ) (x y : ℤ) (width depth : ℕ) (label : Bytes) → Bytes
cell_line c x y w d label = line (decimal c ∷ signed x ∷ signed y ∷ decimal w ∷ decimal d ∷ label_field label)

-- the line of a refusal
unfoldable pub refused_line : (number cell : ℕ) → Bytes
refused_line k c = line (refused_word ∷ decimal k ∷ decimal c ∷ [])

-- the line of a mended cell (document 02, E11): "its number, old width and depth, new width and depth"
unfoldable pub mended_line : (cell old_width old_depth width depth : ℕ) → Bytes
mended_line c v e w d = line (decimal c ∷ decimal v ∷ decimal e ∷ decimal w ∷ decimal d ∷ [])

-- lines one after another
unfoldable pub lines_joined : List Bytes → Bytes
lines_joined [] = []
lines_joined (l ∷ ls) = l ++ lines_joined ls

-- ---- a sheet as a portable bitmap (document 02, E8)
-- the word `P4`
abbrev pub bitmap_word : Bytes
bitmap_word = 80 ∷ 52 ∷ []

-- its first line, which the rows follow
unfoldable pub bitmap_line : (columns rows : ℕ) → Bytes
bitmap_line c r = line (bitmap_word ∷ decimal c ∷ decimal r ∷ [])

-- document 02, E12: the line of a recorded step, and the last line of a drill, which a word begins
unfoldable pub step_line : (cell : ℕ) (label : Bytes) → Bytes
step_line c label = line (decimal c ∷ label_field label)

unfoldable pub end_line : (word : Bytes) (used records : ℕ) → Bytes
end_line word u n = line (word ∷ decimal u ∷ decimal n ∷ [])

-- THE PRINTED REPORT (document 02, E14), byte for byte: `word number` a line. Every definition computes. Assumes nothing.
use Rattle.std.specs.Prelude.{[], ◌∷◌, ◌++◌, ℕ}
use Rattle.listing.specs.Printed.{Bytes, space, line, decimal, refused_line}
use Rattle.season.specs.declared.Report.{Report}

-- the words: `plans`, `cells`, `widths`, `areas`, `least`, `greatest`, `mean`, `rest`
abbrev pub plans_word : Bytes
plans_word = 112 ∷ 108 ∷ 97 ∷ 110 ∷ 115 ∷ []

abbrev pub cells_word : Bytes
cells_word = 99 ∷ 101 ∷ 108 ∷ 108 ∷ 115 ∷ []

abbrev pub widths_word : Bytes
widths_word = 119 ∷ 105 ∷ 100 ∷ 116 ∷ 104 ∷ 115 ∷ []

abbrev pub areas_word : Bytes
areas_word = 97 ∷ 114 ∷ 101 ∷ 97 ∷ 115 ∷ []

abbrev pub least_word : Bytes
least_word = 108 ∷ 101 ∷ 97 ∷ 115 ∷ 116 ∷ []

abbrev pub greatest_word : Bytes
greatest_word = 103 ∷ 114 ∷ 101 ∷ 97 ∷ 116 ∷ 101 ∷ 115 ∷ 116 ∷ []

abbrev pub mean_word : Bytes
mean_word = 109 ∷ 101 ∷ 97 ∷ 110 ∷ []

abbrev pub rest_word : Bytes
rest_word = 114 ∷ 101 ∷ 115 ∷ 116 ∷ []

-- a word and a number
unfoldable pub figure_line : Bytes → ℕ → Bytes
figure_line word n = line (word ∷ decimal n ∷ [])

-- the eight lines, in two halves
unfoldable pub sums_lines : Report → Bytes
sums_lines r = ((figure_line plans_word r.plans ++ figure_line cells_word r.cells) ++ figure_line widths_word r.widths) ++ figure_line areas_word r.areas

unfoldable pub extremes_lines : Report → Bytes
extremes_lines r = ((figure_line least_word r.least ++ figure_line greatest_word r.greatest) ++ figure_line mean_word r.mean) ++ figure_line rest_word r.rest

unfoldable pub report_lines : Report → Bytes
report_lines r = sums_lines r ++ extremes_lines r

-- the line of a refused file: its name, then what the listing says of the refusal
unfoldable pub named_line : Bytes → (number cell : ℕ) → Bytes
named_line name k c = name ++ (space ∷ refused_line k c)

-- bytes of a figure's line, of a report, and of what stands behind a refused file's name, at most
abbrev pub figure_size : ℕ
figure_size = 30

abbrev pub report_size : ℕ
report_size = 240

abbrev pub named_size : ℕ
named_size = 51

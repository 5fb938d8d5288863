-- Lines of document 01 and others, computed. Assumes nothing.
use Rattle.std.specs.Prelude.{◌≡◌, refl, [], ◌∷◌, pos, negsuc}
use Rattle.listing.specs.Printed.{digits, decimal, signed, line, sheet_line, label_field, cell_line, refused_line, step_line, end_line, bitmap_line}

-- `0`, `10` and `65535`
nought : decimal 0 ≡ 48 ∷ []
unfolding decimal digits
nought = refl

ten : decimal 10 ≡ 49 ∷ 48 ∷ []
unfolding decimal digits
ten = refl

most : decimal 65535 ≡ 54 ∷ 53 ∷ 53 ∷ 51 ∷ 53 ∷ []
unfolding decimal digits
most = refl

-- `-4`
below : signed (negsuc 3) ≡ 45 ∷ 52 ∷ []
unfolding signed decimal digits
below = refl

-- `sheet 3 0 9 4`
first : sheet_line 3 0 9 4 ≡ 115 ∷ 104 ∷ 101 ∷ 101 ∷ 116 ∷ 32 ∷ 51 ∷ 32 ∷ 48 ∷ 32 ∷ 57 ∷ 32 ∷ 52 ∷ 10 ∷ []
unfolding sheet_line line decimal digits
first = refl

-- `1 -4 2 3 1 A`
labelled : cell_line 1 (negsuc 3) (pos 2) 3 1 (65 ∷ []) ≡ 49 ∷ 32 ∷ 45 ∷ 52 ∷ 32 ∷ 50 ∷ 32 ∷ 51 ∷ 32 ∷ 49 ∷ 32 ∷ 65 ∷ 10 ∷ []
unfolding cell_line label_field line signed decimal digits
labelled = refl

-- `0 0 0 5 1`, with no label
unlabelled : cell_line 0 (pos 0) (pos 0) 5 1 [] ≡ 48 ∷ 32 ∷ 48 ∷ 32 ∷ 48 ∷ 32 ∷ 53 ∷ 32 ∷ 49 ∷ 10 ∷ []
unfolding cell_line label_field line signed decimal digits
unlabelled = refl

-- `refused 13 7`
refusal : refused_line 13 7 ≡ 114 ∷ 101 ∷ 102 ∷ 117 ∷ 115 ∷ 101 ∷ 100 ∷ 32 ∷ 49 ∷ 51 ∷ 32 ∷ 55 ∷ 10 ∷ []
unfolding refused_line line decimal digits
refusal = refl

-- `P4 10 4`
bitmap : bitmap_line 10 4 ≡ 80 ∷ 52 ∷ 32 ∷ 49 ∷ 48 ∷ 32 ∷ 52 ∷ 10 ∷ []
unfolding bitmap_line line decimal digits
bitmap = refl

-- `2 A`, a recorded step, and `wrong 3 12`: 3 bytes used, 12 records (document 02, E12)
recorded : step_line 2 (65 ∷ []) ≡ 50 ∷ 32 ∷ 65 ∷ 10 ∷ []
unfolding step_line label_field line decimal digits
recorded = refl

ended : end_line (119 ∷ 114 ∷ 111 ∷ 110 ∷ 103 ∷ []) 3 12 ≡ 119 ∷ 114 ∷ 111 ∷ 110 ∷ 103 ∷ 32 ∷ 51 ∷ 32 ∷ 49 ∷ 50 ∷ 10 ∷ []
unfolding end_line line decimal digits
ended = refl

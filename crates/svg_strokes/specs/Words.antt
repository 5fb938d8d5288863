-- The fixed texts of the strokes of a drawing in SVG, and before them, in ASCII. Assumes nothing.
use Rattle.std.specs.Prelude.{[], ◌∷◌}
use Rattle.listing.specs.Printed.{Bytes}

-- `<svg xmlns="http://www.w3.org/2000/svg" width="`
abbrev pub svg_open : Bytes
svg_open = 60 ∷ 115 ∷ 118 ∷ 103 ∷ 32 ∷ 120 ∷ 109 ∷ 108 ∷ 110 ∷ 115 ∷ 61 ∷ 34 ∷ 104 ∷ 116 ∷ 116 ∷ 112 ∷ 58 ∷ 47 ∷ 47 ∷ 119 ∷ 119 ∷ 119 ∷ 46 ∷ 119 ∷ 51 ∷ 46 ∷ 111 ∷ 114 ∷ 103 ∷ 47 ∷ 50 ∷ 48 ∷ 48 ∷ 48 ∷ 47 ∷ 115 ∷ 118 ∷ 103 ∷ 34 ∷ 32 ∷ 119 ∷ 105 ∷ 100 ∷ 116 ∷ 104 ∷ 61 ∷ 34 ∷ []

-- `mm" height="`
abbrev pub mm_height : Bytes
mm_height = 109 ∷ 109 ∷ 34 ∷ 32 ∷ 104 ∷ 101 ∷ 105 ∷ 103 ∷ 104 ∷ 116 ∷ 61 ∷ 34 ∷ []

-- `mm" viewBox="0 0 `
abbrev pub mm_view : Bytes
mm_view = 109 ∷ 109 ∷ 34 ∷ 32 ∷ 118 ∷ 105 ∷ 101 ∷ 119 ∷ 66 ∷ 111 ∷ 120 ∷ 61 ∷ 34 ∷ 48 ∷ 32 ∷ 48 ∷ 32 ∷ []

-- `">\n<rect width="100%" height="100%" fill="white"/>\n<g fill="none" stroke="black" stroke-width="0.35" stroke-linejoin="round">\n`: the page in white, so that the ink is seen on a dark one, then the strokes
abbrev pub strokes_open : Bytes
strokes_open = 34 ∷ 62 ∷ 10 ∷ 60 ∷ 114 ∷ 101 ∷ 99 ∷ 116 ∷ 32 ∷ 119 ∷ 105 ∷ 100 ∷ 116 ∷ 104 ∷ 61 ∷ 34 ∷ 49 ∷ 48 ∷ 48 ∷ 37 ∷ 34 ∷ 32 ∷ 104 ∷ 101 ∷ 105 ∷ 103 ∷ 104 ∷ 116 ∷ 61 ∷ 34 ∷ 49 ∷ 48 ∷ 48 ∷ 37 ∷ 34 ∷ 32 ∷ 102 ∷ 105 ∷ 108 ∷ 108 ∷ 61 ∷ 34 ∷ 119 ∷ 104 ∷ 105 ∷ 116 ∷ 101 ∷ 34 ∷ 47 ∷ 62 ∷ 10 ∷ 60 ∷ 103 ∷ 32 ∷ 102 ∷ 105 ∷ 108 ∷ 108 ∷ 61 ∷ 34 ∷ 110 ∷ 111 ∷ 110 ∷ 101 ∷ 34 ∷ 32 ∷ 115 ∷ 116 ∷ 114 ∷ 111 ∷ 107 ∷ 101 ∷ 61 ∷ 34 ∷ 98 ∷ 108 ∷ 97 ∷ 99 ∷ 107 ∷ 34 ∷ 32 ∷ 115 ∷ 116 ∷ 114 ∷ 111 ∷ 107 ∷ 101 ∷ 45 ∷ 119 ∷ 105 ∷ 100 ∷ 116 ∷ 104 ∷ 61 ∷ 34 ∷ 48 ∷ 46 ∷ 51 ∷ 53 ∷ 34 ∷ 32 ∷ 115 ∷ 116 ∷ 114 ∷ 111 ∷ 107 ∷ 101 ∷ 45 ∷ 108 ∷ 105 ∷ 110 ∷ 101 ∷ 106 ∷ 111 ∷ 105 ∷ 110 ∷ 61 ∷ 34 ∷ 114 ∷ 111 ∷ 117 ∷ 110 ∷ 100 ∷ 34 ∷ 62 ∷ 10 ∷ []

-- `<path d="M`
abbrev pub path_open : Bytes
path_open = 60 ∷ 112 ∷ 97 ∷ 116 ∷ 104 ∷ 32 ∷ 100 ∷ 61 ∷ 34 ∷ 77 ∷ []

-- `L`
abbrev pub line_word : Bytes
line_word = 76 ∷ []

-- `"/>\n`
abbrev pub path_close : Bytes
path_close = 34 ∷ 47 ∷ 62 ∷ 10 ∷ []

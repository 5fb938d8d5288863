-- The fixed texts of the labels of a drawing in SVG, and before them, in ASCII. Assumes nothing.
use Rattle.std.specs.Prelude.{[], ◌∷◌}
use Rattle.listing.specs.Printed.{Bytes}

-- `</g>\n<g font-family="monospace" font-size="`
abbrev pub labels_open : Bytes
labels_open = 60 ∷ 47 ∷ 103 ∷ 62 ∷ 10 ∷ 60 ∷ 103 ∷ 32 ∷ 102 ∷ 111 ∷ 110 ∷ 116 ∷ 45 ∷ 102 ∷ 97 ∷ 109 ∷ 105 ∷ 108 ∷ 121 ∷ 61 ∷ 34 ∷ 109 ∷ 111 ∷ 110 ∷ 111 ∷ 115 ∷ 112 ∷ 97 ∷ 99 ∷ 101 ∷ 34 ∷ 32 ∷ 102 ∷ 111 ∷ 110 ∷ 116 ∷ 45 ∷ 115 ∷ 105 ∷ 122 ∷ 101 ∷ 61 ∷ 34 ∷ []

-- `"><g font-size="70%">\n`
abbrev pub labels_scaled : Bytes
labels_scaled = 34 ∷ 62 ∷ 60 ∷ 103 ∷ 32 ∷ 102 ∷ 111 ∷ 110 ∷ 116 ∷ 45 ∷ 115 ∷ 105 ∷ 122 ∷ 101 ∷ 61 ∷ 34 ∷ 55 ∷ 48 ∷ 37 ∷ 34 ∷ 62 ∷ 10 ∷ []

-- `<text x="`
abbrev pub text_open : Bytes
text_open = 60 ∷ 116 ∷ 101 ∷ 120 ∷ 116 ∷ 32 ∷ 120 ∷ 61 ∷ 34 ∷ []

-- `" y="`
abbrev pub text_y : Bytes
text_y = 34 ∷ 32 ∷ 121 ∷ 61 ∷ 34 ∷ []

-- `" dx="0.4em" dy="-0.3em">`
abbrev pub text_shift : Bytes
text_shift = 34 ∷ 32 ∷ 100 ∷ 120 ∷ 61 ∷ 34 ∷ 48 ∷ 46 ∷ 52 ∷ 101 ∷ 109 ∷ 34 ∷ 32 ∷ 100 ∷ 121 ∷ 61 ∷ 34 ∷ 45 ∷ 48 ∷ 46 ∷ 51 ∷ 101 ∷ 109 ∷ 34 ∷ 62 ∷ []

-- `</text>\n`
abbrev pub text_close : Bytes
text_close = 60 ∷ 47 ∷ 116 ∷ 101 ∷ 120 ∷ 116 ∷ 62 ∷ 10 ∷ []

-- `&amp;`
abbrev pub amp_word : Bytes
amp_word = 38 ∷ 97 ∷ 109 ∷ 112 ∷ 59 ∷ []

-- `&lt;`
abbrev pub lt_word : Bytes
lt_word = 38 ∷ 108 ∷ 116 ∷ 59 ∷ []

-- `&gt;`
abbrev pub gt_word : Bytes
gt_word = 38 ∷ 103 ∷ 116 ∷ 59 ∷ []

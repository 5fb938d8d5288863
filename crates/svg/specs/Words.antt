-- The fixed texts at the end of a drawing in SVG, in ASCII. Assumes nothing.
use Rattle.std.specs.Prelude.{[], ◌∷◌}
use Rattle.listing.specs.Printed.{Bytes}

-- `</g></g>\n</svg>\n`
abbrev pub svg_close : Bytes
svg_close = 60 ∷ 47 ∷ 103 ∷ 62 ∷ 60 ∷ 47 ∷ 103 ∷ 62 ∷ 10 ∷ 60 ∷ 47 ∷ 115 ∷ 118 ∷ 103 ∷ 62 ∷ 10 ∷ []

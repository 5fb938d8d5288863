-- Lines, computed. Assumes nothing.
use Rattle.std.specs.Prelude.{◌≡◌, refl, [], ◌∷◌, pos, negsuc}
use Rattle.listing.specs.Printed as printed
use Rattle.why_lines.specs.Printed.{head_line, link_line, last_line}

-- `why 13 3 25 4`
head : head_line 13 3 25 4 ≡ 119 ∷ 104 ∷ 121 ∷ 32 ∷ 49 ∷ 51 ∷ 32 ∷ 51 ∷ 32 ∷ 50 ∷ 53 ∷ 32 ∷ 52 ∷ 10 ∷ []
unfolding head_line printed.line printed.decimal printed.digits
head = refl

-- `3 4 S3 10 13`
step : link_line (record { rule = 3; from = 3; to = 4; apart = pos 10 }) (pos 13) ≡ 51 ∷ 32 ∷ 52 ∷ 32 ∷ 83 ∷ 51 ∷ 32 ∷ 49 ∷ 48 ∷ 32 ∷ 49 ∷ 51 ∷ 10 ∷ []
unfolding link_line printed.line printed.signed printed.decimal printed.digits
step = refl

-- `8 6 S5 -1 7`: a link that leads back
back : link_line (record { rule = 5; from = 8; to = 6; apart = negsuc 0 }) (pos 7) ≡ 56 ∷ 32 ∷ 54 ∷ 32 ∷ 83 ∷ 53 ∷ 32 ∷ 45 ∷ 49 ∷ 32 ∷ 55 ∷ 10 ∷ []
unfolding link_line printed.line printed.signed printed.decimal printed.digits
back = refl

-- `12 W 2 25`
last : last_line 12 2 (pos 25) ≡ 49 ∷ 50 ∷ 32 ∷ 87 ∷ 32 ∷ 50 ∷ 32 ∷ 50 ∷ 53 ∷ 10 ∷ []
unfolding last_line printed.line printed.signed printed.decimal printed.digits
last = refl

-- A PRINTED REASON, byte for byte. The first line: the word `why`, cells, allowance, width, links. Then a line a link: from, to, `S` and the rule, its distance, and the sum of the distances so far.
-- The last line: the last cell, `W`, its width, and the whole sum, which is the width of the first line, since the reason certifies it (crate why_spec, `reason-found`). So a pencil has one number to compare. Assumes nothing.
use Rattle.std.specs.Prelude.{List, [], ◌∷◌, ◌++◌, ℕ, length, ℤ, pos, ◌+ℤ◌}
use Rattle.whole.specs.Whole.{plus}
use Rattle.plan.specs.Plan.{Table, box_width}
use Rattle.rules.specs.Placement.{Placement, width}
use Rattle.listing.specs.Printed.{Bytes, decimal, signed, line}
use Rattle.why_spec.specs.Links.{Link, adds_up, Reason}

-- the word `why`
abbrev pub why_word : Bytes
why_word = 119 ∷ 104 ∷ 121 ∷ []

-- `S` and the number of a rule
abbrev pub rule_field : ℕ → Bytes
rule_field r = 83 ∷ decimal r

-- `W`
abbrev pub width_word : Bytes
width_word = 87 ∷ []

unfoldable pub head_line : (cells allowance width links : ℕ) → Bytes
head_line n al w k = line (why_word ∷ decimal n ∷ decimal al ∷ decimal w ∷ decimal k ∷ [])

-- a link, with the sum of the distances up to and with its own
unfoldable pub link_line : Link → (sum : ℤ) → Bytes
link_line l z = line (decimal l.from ∷ decimal l.to ∷ rule_field l.rule ∷ signed l.apart ∷ signed z ∷ [])

unfoldable pub last_line : (cell width : ℕ) (sum : ℤ) → Bytes
last_line e w z = line (decimal e ∷ width_word ∷ decimal w ∷ signed z ∷ [])

-- the lines of links, where the distances before them add up to z
unfoldable pub link_lines : ℤ → List Link → List Bytes
link_lines z [] = []
link_lines z (l ∷ ls) = link_line l (z +ℤ l.apart) ∷ link_lines (z +ℤ l.apart) ls

-- a reason for the width of a placement
unfoldable pub reason_lines : Table → (allowance : ℕ) → Placement → Reason → List Bytes
reason_lines t al p r =
    head_line (length t) al (plus (width t p)) (length r.links)
    ∷ (link_lines (pos 0) r.links ++ (last_line r.last (box_width t r.last) (adds_up r.links +ℤ pos (box_width t r.last)) ∷ []))

-- THE PRINTED MARKS, byte for byte: a line for each drawing, its name and its mark, or what is wrong with its text; after several the counts. Every definition computes. Assumes nothing.
use Rattle.std.specs.Prelude.{[], ◌∷◌, ◌++◌, cond, ℕ, ◌+◌, eqb, ltb, Result, Ok, Err}
use Rattle.listing.specs.Printed.{Bytes, space, line_feed, decimal}
use Rattle.summary.specs.Summary.{named_line}
use Rattle.drawing_spec.specs.declared.Fault.{Fault}
use Rattle.drawing_spec.specs.declared.Fault.TheVariants.{NoNumber, NoCell, Twice, Far, Missing, Long}
use Rattle.drawing_spec.specs.declared.DrawError.{DrawError}
use Rattle.drawing_spec.specs.declared.DrawError.TheVariants.{Wrong, Refused}
use Rattle.plan.specs.declared.Refusal.{Refusal}
use Rattle.mark_spec.specs.declared.Marked.{Marked}
use Rattle.mark_spec.specs.declared.Marked.TheVariants.{Full, Wide, Broken}
use Rattle.mark_text.specs.declared.Counts.{Counts}

-- ---- the words; specs/Words.antt has them as text
abbrev pub full_part : Bytes
full_part = 32 ∷ 102 ∷ 117 ∷ 108 ∷ 108 ∷ 32 ∷ []

abbrev pub wide_part : Bytes
wide_part = 32 ∷ 119 ∷ 105 ∷ 100 ∷ 101 ∷ 32 ∷ []

abbrev pub broken_part : Bytes
broken_part = 32 ∷ 98 ∷ 114 ∷ 111 ∷ 107 ∷ 101 ∷ 110 ∷ 32 ∷ 83 ∷ []

abbrev pub line_part : Bytes
line_part = 32 ∷ 108 ∷ 105 ∷ 110 ∷ 101 ∷ 32 ∷ []

abbrev pub numbers_part : Bytes
numbers_part = 58 ∷ 32 ∷ 110 ∷ 111 ∷ 116 ∷ 32 ∷ 116 ∷ 104 ∷ 114 ∷ 101 ∷ 101 ∷ 32 ∷ 110 ∷ 117 ∷ 109 ∷ 98 ∷ 101 ∷ 114 ∷ 115 ∷ 10 ∷ []

abbrev pub no_cell_part : Bytes
no_cell_part = 58 ∷ 32 ∷ 110 ∷ 111 ∷ 32 ∷ 115 ∷ 117 ∷ 99 ∷ 104 ∷ 32 ∷ 99 ∷ 101 ∷ 108 ∷ 108 ∷ 10 ∷ []

abbrev pub cell_part : Bytes
cell_part = 58 ∷ 32 ∷ 99 ∷ 101 ∷ 108 ∷ 108 ∷ 32 ∷ []

abbrev pub twice_part : Bytes
twice_part = 32 ∷ 105 ∷ 115 ∷ 32 ∷ 103 ∷ 105 ∷ 118 ∷ 101 ∷ 110 ∷ 32 ∷ 116 ∷ 119 ∷ 105 ∷ 99 ∷ 101 ∷ 10 ∷ []

abbrev pub far_part : Bytes
far_part = 58 ∷ 32 ∷ 97 ∷ 32 ∷ 110 ∷ 117 ∷ 109 ∷ 98 ∷ 101 ∷ 114 ∷ 32 ∷ 111 ∷ 117 ∷ 116 ∷ 32 ∷ 111 ∷ 102 ∷ 32 ∷ 98 ∷ 111 ∷ 117 ∷ 110 ∷ 100 ∷ 115 ∷ 10 ∷ []

abbrev pub missing_cell_part : Bytes
missing_cell_part = 32 ∷ 99 ∷ 101 ∷ 108 ∷ 108 ∷ 32 ∷ []

abbrev pub missing_part : Bytes
missing_part = 32 ∷ 105 ∷ 115 ∷ 32 ∷ 109 ∷ 105 ∷ 115 ∷ 115 ∷ 105 ∷ 110 ∷ 103 ∷ 10 ∷ []

abbrev pub long_part : Bytes
long_part = 32 ∷ 109 ∷ 111 ∷ 114 ∷ 101 ∷ 32 ∷ 116 ∷ 104 ∷ 97 ∷ 110 ∷ 32 ∷ 54 ∷ 53 ∷ 53 ∷ 51 ∷ 54 ∷ 32 ∷ 98 ∷ 121 ∷ 116 ∷ 101 ∷ 115 ∷ 10 ∷ []

abbrev pub drawings_part : Bytes
drawings_part = 100 ∷ 114 ∷ 97 ∷ 119 ∷ 105 ∷ 110 ∷ 103 ∷ 115 ∷ 32 ∷ []

abbrev pub broken_count_part : Bytes
broken_count_part = 32 ∷ 98 ∷ 114 ∷ 111 ∷ 107 ∷ 101 ∷ 110 ∷ 32 ∷ []

abbrev pub refused_part : Bytes
refused_part = 32 ∷ 114 ∷ 101 ∷ 102 ∷ 117 ∷ 115 ∷ 101 ∷ 100 ∷ 32 ∷ []

abbrev pub unread_part : Bytes
unread_part = 32 ∷ 117 ∷ 110 ∷ 114 ∷ 101 ∷ 97 ∷ 100 ∷ 32 ∷ []

-- ---- numbers, a blank between them
unfoldable pub pair : (a b : ℕ) → Bytes
pair a b = (decimal a ++ (space ∷ [])) ++ decimal b

unfoldable pub triple : (a b c : ℕ) → Bytes
triple a b c = (pair a b ++ (space ∷ [])) ++ decimal c

-- ---- the line of what Mark answers: a mark, or a refusal with its number and cell
unfoldable pub marked_line : (name : Bytes) → Result Marked Refusal → Bytes
marked_line name (Ok (Full m)) = ((name ++ full_part) ++ pair m.width m.rows) ++ (line_feed ∷ [])
marked_line name (Ok (Wide m l)) = ((name ++ wide_part) ++ triple m.width l m.rows) ++ (line_feed ∷ [])
marked_line name (Ok (Broken b)) = ((name ++ broken_part) ++ triple b.rule b.a b.b) ++ (line_feed ∷ [])
marked_line name (Err r) = named_line name r.number r.cell

-- ---- the line of a text that is no drawing of the plan
-- a line of it, and what is wrong there
unfoldable pub fault_line : (name : Bytes) (line : ℕ) (what : Bytes) → Bytes
fault_line name k what = ((name ++ line_part) ++ decimal k) ++ what

unfoldable pub unread_line : (name : Bytes) → Fault → Bytes
unread_line name (NoNumber k) = fault_line name k numbers_part
unread_line name (NoCell k) = fault_line name k no_cell_part
unread_line name (Twice k c) = (fault_line name k cell_part ++ decimal c) ++ twice_part
unread_line name (Far k) = fault_line name k far_part
unread_line name (Missing c) = ((name ++ missing_cell_part) ++ decimal c) ++ missing_part
unread_line name Long = name ++ long_part

unfoldable pub outcome_line : (name : Bytes) → Result Marked DrawError → Bytes
outcome_line name (Ok m) = marked_line name (Ok m)
outcome_line name (Err (Refused r)) = marked_line name (Err r)
outcome_line name (Err (Wrong f)) = unread_line name f

-- ---- the counts of a sitting
-- one more, as long as there are fewer than 4,294,967,295
unfoldable pub more : ℕ → ℕ
more n = cond (ltb n 4294967295) (n + 1) n

-- which count it is: full, wide, broken, refused, unread
unfoldable pub mark_kind : Marked → ℕ
mark_kind (Full m) = 1
mark_kind (Wide m l) = 2
mark_kind (Broken b) = 3

unfoldable pub outcome_kind : Result Marked DrawError → ℕ
outcome_kind (Ok m) = mark_kind m
outcome_kind (Err (Refused r)) = 4
outcome_kind (Err (Wrong f)) = 5

unfoldable pub more_if : (n kind this : ℕ) → ℕ
more_if n k i = cond (eqb k i) (more n) n

-- one drawing more
unfoldable pub counted : Counts → Result Marked DrawError → Counts
counted c o =
    record {
      drawings = more c.drawings;
      full = more_if c.full (outcome_kind o) 1;
      wide = more_if c.wide (outcome_kind o) 2;
      broken = more_if c.broken (outcome_kind o) 3;
      refused = more_if c.refused (outcome_kind o) 4;
      unread = more_if c.unread (outcome_kind o) 5;
    }

-- in two halves
unfoldable pub first_counts : Counts → Bytes
first_counts c = ((drawings_part ++ decimal c.drawings) ++ (full_part ++ decimal c.full)) ++ (wide_part ++ decimal c.wide)

unfoldable pub last_counts : Counts → Bytes
last_counts c = (((broken_count_part ++ decimal c.broken) ++ (refused_part ++ decimal c.refused)) ++ (unread_part ++ decimal c.unread)) ++ (line_feed ∷ [])

unfoldable pub counts_line : Counts → Bytes
counts_line c = first_counts c ++ last_counts c

-- bytes of a line behind the name, and of the counts, at most
abbrev pub mark_size : ℕ
mark_size = 100

abbrev pub counts_size : ℕ
counts_size = 200

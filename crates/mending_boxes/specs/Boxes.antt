-- Document 02, E11: which boxes are mended, and to what. Every definition computes. Assumes nothing.
use Rattle.std.specs.Prelude.{Bool, ◌&&◌, ◌||◌, cond, ℕ, ◌+◌, eqb, leb, ltb}
use Rattle.plan.specs.Limits.{most_label}
use Rattle.plan.specs.Kinds.{about, known}
use Rattle.plan.specs.declared.Record.{Record}
use Rattle.std.specs.Prelude.{Some, None}

-- "label length plus border"; an unknown kind has none
unfoldable pub least_width : (kind n : ℕ) → ℕ
least_width k n = elim (about k) [ Some r ↦ n + r.border | None ↦ 0 ]

-- not altered: "a cell whose kind is unknown or whose label is over 40 bytes"
unfoldable pub mendable : (kind n : ℕ) → Bool
mendable k n = known k && leb n most_label

-- a box too narrow for a label of n bytes
unfoldable pub cramped : (kind n width : ℕ) → Bool
cramped k n w = mendable k n && ltb w (least_width k n)

-- a box of depth 0
unfoldable pub shallow : (kind n depth : ℕ) → Bool
shallow k n d = mendable k n && eqb d 0

-- ---- of a record
abbrev pub narrow : Record → Bool
narrow r = cramped r.kind r.label_length r.width

abbrev pub flat : Record → Bool
flat r = shallow r.kind r.label_length r.depth

unfoldable pub new_width : Record → ℕ
new_width r = cond (narrow r) (least_width r.kind r.label_length) r.width

unfoldable pub new_depth : Record → ℕ
new_depth r = cond (flat r) 1 r.depth

-- is the cell altered
unfoldable pub changed : Record → Bool
changed r = narrow r || flat r

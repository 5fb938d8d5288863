-- A complete cell joins its parent: what becomes of the scratch and of the marks. Assumes nothing.
use Rattle.std.specs.Prelude.{Bool, cond, ℕ, zero, suc, ◌+◌, max, ltb}
use Rattle.rows.specs.Rows.{upto_rows, beyond_rows}
pub use Rattle.joining_cells.specs.Cells.{Memory, memory_of, mark, four, noted, height, joined_rows, Completing}
unfoldable pub use Rattle.joining_cells.specs.Cells.{completed}
pub use Rattle.joining_separation.specs.Separation.{Settling}
unfoldable pub use Rattle.joining_separation.specs.Separation.{settled_apart}

-- the first child: its rows become those of its parent
abbrev pub settled_first : Memory → ℕ → ℕ → ℕ → ℕ → Memory
settled_first m at f c hs = memory_of (upto_rows m.rows at 0 0 hs) (four m.marks f hs (mark m.marks c 2) 0 0)

-- a later child, g from the one before it, up to the appointed one or beyond it
abbrev pub settled_by : Memory → ℕ → ℕ → ℕ → ℕ → Bool → ℕ → Memory
settled_by m at f c hs beyond g =
    memory_of (cond beyond (beyond_rows m.rows at (mark m.marks f 2 + g) hs) (upto_rows m.rows at (mark m.marks f 0) g (max (mark m.marks f 0) hs)))
    (four (noted m.marks c (mark m.marks f 3 + g)) f (max (mark m.marks f 0) hs) (mark m.marks c 2) (cond beyond (mark m.marks f 2 + g) 0) (mark m.marks f 3 + g))

abbrev pub settled_at : Memory → ℕ → ℕ → ℕ → ℕ → ℕ → ℕ → ℕ → Memory
settled_at m at f c hs zero apt al = settled_first m at f c hs
settled_at m at f c hs (suc p) apt al = settled_by m at f c hs (ltb apt (suc p)) (settled_apart m at f c hs al)

-- the child at the given place, where apt is the appointed one
unfoldable pub settled : Memory → ℕ → ℕ → ℕ → ℕ → ℕ → ℕ → ℕ → Memory
settled m at f c hs place apt al = settled_at m at f c hs place apt al

-- the child c is completed and joins its parent f at the place given
abbrev pub finished : Memory → ℕ → ℕ → ℕ → ℕ → ℕ → ℕ → ℕ → ℕ → Memory
finished m at f c d w place apt al = settled (completed m (at + 2) c d w) at f c (height m.marks c d) place apt al

-- WHAT A DRAWING AS TEXT SAYS: the corner of each cell of a plan, as read off squared paper with any origin, or the first line that is wrong and why.
-- A line for each cell, in any order: its number, then x and y; what follows in the line is not read. Every definition computes. Assumes nothing.
use Rattle.std.specs.Prelude.{List, [], ◌∷◌, Bool, true, false, ◌&&◌, ◌||◌, cond, ℕ, zero, suc, ◌+◌, ◌*◌, eqb, ltb, length, get_or, set, replicate, ℤ, pos, ◌-ℤ◌}
use Rattle.std.proofs.Math.Option.{Option, none, some}
use Rattle.whole.specs.Range.{in_range}
use Rattle.plan.specs.Limits.{most_cells, farthest}
use Rattle.rules.specs.Placement.{Placement, placed}
use Rattle.positions.specs.Written.{corners}
use Rattle.listing.specs.Printed.{Bytes, sheet_word}
use Rattle.drawing_spec.specs.declared.Fault.{Fault}
use Rattle.drawing_spec.specs.declared.Fault.TheVariants.{NoNumber, NoCell, Twice, Far, Missing}
use Rattle.drawing_spec.specs.Words.{lines, words, first, others, natural, integer}

-- `#`
abbrev pub hash : ℕ
hash = 35

-- ---- a line
pub data Line : Type 0 where
  -- it is passed over
  passed : Line
  -- its first three words are not a natural number and two whole ones
  unread : Line
  -- the corner of a cell
  gives : (cell : ℕ) (x y : ℤ) → Line

-- the text begins with these bytes
unfoldable pub begins : Bytes → Bytes → Bool
begins [] t = true
begins (w ∷ ws) [] = false
begins (w ∷ ws) (b ∷ bs) = elim (eqb w b) [ true ↦ begins ws bs | false ↦ false ]

-- passed over: no word; a first word that begins with `#`; in the first line one that begins with `sheet`, so that a listing is a drawing
unfoldable pub passes : (is-first : Bool) (word : Bytes) → Bool
passes f w = eqb (length w) 0 || eqb (get_or w 0 0) hash || (f && begins sheet_word w)

unfoldable pub numbered : Option ℕ → Option ℤ → Option ℤ → Line
numbered none x y = unread
numbered (some c) none y = unread
numbered (some c) (some x) none = unread
numbered (some c) (some x) (some y) = gives c x y

unfoldable pub by_words : (is-first : Bool) → List Bytes → Line
by_words f ws = cond (passes f (first ws)) passed (numbered (natural (first ws)) (integer (first (others ws))) (integer (first (others (others ws)))))

-- what line number k says, counted from 1
unfoldable pub line_said : (k : ℕ) → Bytes → Line
line_said k l = by_words (eqb k 1) (words l)

-- ---- the text
pub data Said : Type 0 where
  -- x then y of each cell, moved so that the root's corner is 0 0
  placed_at : List ℤ → Said
  -- the first line that is wrong; or, where none is, the lowest cell that no line gives
  wrong : Fault → Said

-- the cells that are given, 1 each, and their corners, x then y
pub record Sketch : Type 0 where
  pub given : List ℕ
  pub places : List ℤ

unfoldable pub empty_sheet : Sketch
empty_sheet = record { given = replicate most_cells 0; places = replicate (2 * most_cells) (pos 0) }

unfoldable pub with_cell : Sketch → (cell : ℕ) (x y : ℤ) → Sketch
with_cell s c x y = record { given = set s.given c 1; places = set (set s.places (2 * c) x) (2 * c + 1) y }

-- one line more, number k, for a plan of n cells
pub data Step : Type 0 where
  goes : Sketch → Step
  stops : Said → Step

unfoldable pub step : (n k : ℕ) → Sketch → Line → Step
step n k s passed = goes s
step n k s unread = stops (wrong (NoNumber k))
step n k s (gives c x y) =
    cond (ltb c n)
    (cond (eqb (get_or s.given c 0) 0) (cond (in_range farthest x && in_range farthest y) (goes (with_cell s c x y)) (stops (wrong (Far k)))) (stops (wrong (Twice k c))))
    (stops (wrong (NoCell k)))

-- the lowest of d cells from c on that is not given; else the number after them
unfoldable pub lowest : (given : List ℕ) (c d : ℕ) → ℕ
lowest g c zero = c
lowest g c (suc d) = elim (eqb (get_or g c 0) 0) [ true ↦ c | false ↦ lowest g (suc c) d ]

-- the root's corner is 0 0
unfoldable pub moved : Placement → Placement
moved p = record { x = λ c. p.x c -ℤ p.x 0; y = λ c. p.y c -ℤ p.y 0 }

-- all lines are read
unfoldable pub complete : (n : ℕ) → Sketch → Said
complete n s = let c = lowest s.given 0 n in cond (ltb c n) (wrong (Missing c)) (placed_at (corners (moved (placed s.places)) 0 n))

-- these lines, from number k on
unfoldable pub said_lines : (n k : ℕ) → Sketch → List Bytes → Said
said_lines n k s [] = complete n s
said_lines n k s (l ∷ ls) = elim (step n k s (line_said k l)) [ goes s' ↦ said_lines n (suc k) s' ls | stops r ↦ r ]

-- THE meaning of a text for a plan of n cells
unfoldable pub said : (n : ℕ) → Bytes → Said
said n text = said_lines n 1 empty_sheet (lines text)

-- The reader as the code has it. Nothing that a reader must believe stands here. Assumes nothing.
use Rattle.std.specs.Prelude.{◌≡◌, List, [], ◌∷◌, Bool, true, not, cond, ℕ, suc, ◌-◌, ◌*◌, ◌≤◌, eqb, leb, ltb, ℤ, pos, length, get_or, take, drop, Option, Some, None, Result, Ok, Err, ⊤}
use Rattle.std.proofs.Math.Option as optional
use Rattle.whole.specs.Range.{in_range, InRange}
use Rattle.plan.specs.Limits.{most_cells, farthest}
use Rattle.listing.specs.Printed.{Bytes, line_feed}
use Rattle.drawing_spec.specs.Words.{lines, blank, words, first, others, natural, integer}
use Rattle.drawing_spec.specs.Said.{Line, passed, unread, gives, numbered, line_said, Said, wrong, Sketch, Step, goes, stops, step, lowest, complete, said_lines}
use Rattle.drawing_spec.specs.declared.Fault.{Fault}
use Rattle.drawing_spec.specs.declared.Fault.TheVariants.{NoNumber}
use Rattle.drawing.specs.declared.Span.{Span}
use Rattle.drawing.specs.declared.Corner.{Corner}

-- ---- how many bytes come before the first that passes the test
unfoldable pub until : (ℕ → Bool) → Bytes → ℕ
until test [] = 0
until test (b ∷ bs) = let n = suc (until test bs) in cond (test b) 0 n

unfoldable pub feed : ℕ → Bool
feed b = eqb b line_feed

unfoldable pub solid : ℕ → Bool
solid b = not (blank b)

-- the next word from a place on
pub record Next (line : Bytes) (at : ℕ) (r : Span) : Type 0 where
  pub word : first (words (drop at line)) ≡ take (r.end - r.start) (drop r.start line)
  pub rest : others (words (drop at line)) ≡ words (drop r.end line)
  pub upward : r.start ≤ r.end
  pub inside : r.end ≤ length line

-- ---- numbers
-- one past the bound stands for any number that is greater
abbrev pub beyond : ℕ
beyond = 262144

unfoldable pub capped : ℕ → ℕ
capped v = cond (leb v farthest) v beyond

pub record Grows (a b : ℕ) : Type 0 where
  pub small : a ≤ beyond
  pub low : 48 ≤ b
  pub high : b ≤ 57

unfoldable pub number_told : optional.Option ℕ → Option ℕ
number_told optional.none = None
number_told (optional.some v) = Some (capped v)

-- r stands for z: it is past the bound by one at most, near where z is, and then it is z
pub record Cut (z r : ℤ) : Type 0 where
  pub small : InRange beyond r
  pub same : in_range farthest r ≡ in_range farthest z
  pub near : in_range farthest z ≡ true → r ≡ z

abbrev pub IntegerTold : optional.Option ℤ → Option ℤ → Type 0
IntegerTold optional.none None = Unit {0}
IntegerTold optional.none (Some r) = ⊥
IntegerTold (optional.some z) None = ⊥
IntegerTold (optional.some z) (Some r) = Cut z r

-- the corner c x y as the code has it
pub record Marks (c : ℕ) (x y : ℤ) (r : Corner) : Type 0 where
  pub cell : r.cell ≡ capped c
  pub x_cut : Cut x r.x
  pub y_cut : Cut y r.y

-- three words as numbers
abbrev pub NumberedTold : Line → Option Corner → Type 0
NumberedTold passed r = ⊥
NumberedTold unread None = Unit {0}
NumberedTold unread (Some r) = ⊥
NumberedTold (gives c x y) None = ⊥
NumberedTold (gives c x y) (Some r) = Marks c x y r

-- the part of a line that is a word
abbrev pub part : Bytes → Span → Bytes
part line a = take (a.end - a.start) (drop a.start line)

-- of a line's words from the first on
abbrev pub CornerTold : Bytes → Span → Option Corner → Type 0
CornerTold line a r =
    NumberedTold (numbered (natural (part line a)) (integer (first (words (drop a.end line)))) (integer (first (others (words (drop a.end line)))))) r

abbrev pub LineTold : (k : ℕ) → Line → Result (Option Corner) Fault → Type 0
LineTold k passed r = r ≡ Ok None
LineTold k unread r = r ≡ Err (NoNumber k)
LineTold k (gives c x y) (Err f) = ⊥
LineTold k (gives c x y) (Ok None) = ⊥
LineTold k (gives c x y) (Ok (Some r)) = Marks c x y r

-- ---- one line
-- every number is near
abbrev pub Held : List ℤ → Type 0
Held ps = (i : ℕ) → InRange farthest (get_or ps i (pos 0))

-- at most 256 cells, and arrays for 256
pub record Sized (n : ℕ) (given : List ℕ) (places : List ℤ) : Type 0 where
  pub few : n ≤ most_cells
  pub flags : length given ≡ most_cells
  pub room : length places ≡ 2 * most_cells

abbrev pub sketch : List ℕ → List ℤ → Sketch
sketch g ps = record { given = g; places = ps }

-- a line is noted, or its fault
unfoldable pub stepped : Sketch → Result ⊤ Fault → Step
stepped s (Ok u) = goes s
stepped s (Err f) = stops (wrong f)

pub record Steps (n k : ℕ) (t : Corner) (g : List ℕ) (ps : List ℤ) (g' : List ℕ) (ps' : List ℤ) (r : Result ⊤ Fault) : Type 0 where
  pub is : (c : ℕ) (x y : ℤ) → Marks c x y t → step n k (sketch g ps) (gives c x y) ≡ stepped (sketch g' ps') r
  pub held : Held ps'

pub record Turned (n k : ℕ) (line : Bytes) (g : List ℕ) (ps : List ℤ) (g' : List ℕ) (ps' : List ℤ) (r : Result ⊤ Fault) : Type 0 where
  pub is : step n k (sketch g ps) (line_said k line) ≡ stepped (sketch g' ps') r
  pub held : Held ps'

-- ---- all lines
-- what the reader of lines answers: all cells so far, or a fault
unfoldable pub read_said : (n : ℕ) → List ℕ → List ℤ → Result ⊤ Fault → Said
read_said n g ps (Ok u) = complete n (sketch g ps)
read_said n g ps (Err f) = wrong f

pub record Reads (n : ℕ) (text : Bytes) (g : List ℕ) (ps : List ℤ) (g' : List ℕ) (ps' : List ℤ) (r : Result ⊤ Fault) : Type 0 where
  pub is : read_said n g' ps' r ≡ said_lines n 1 (sketch g ps) (lines text)
  pub held : Held ps'

-- the lowest cell that is not given
unfoldable pub missing : List ℕ → (n : ℕ) → Option ℕ
missing g n = let c = lowest g 0 n in cond (ltb c n) (Some c) None

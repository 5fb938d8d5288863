-- What the functions say of each other: bytes that show a picture, and what a function adds to it. Assumes nothing.
use Rattle.std.specs.Prelude.{◌≡◌, List, Bool, ◌&&◌, ◌||◌, ℕ, ◌+◌, ◌*◌, ◌-◌, ◌<◌, eqb, leb, ℤ, length, get_or, set}
use Rattle.std.specs.Int.Bits.{bit_or}
use Rattle.corners.specs.Corners.{x_up, y_up}
use Rattle.raster.specs.Strip.{byte}

-- of each byte and each of its eight places, from the left, whether it is set
abbrev pub Picture : Type 0
Picture = ℕ → ℕ → Bool

-- n bytes show the picture
pub record Painted (bs : List ℕ) (n : ℕ) (F : Picture) : Type 0 where
  pub long : length bs ≡ n
  pub at : (i : ℕ) → i < n → get_or bs i 0 ≡ byte (F i)

-- whatever the bytes show, they show afterwards that and the picture
pub record Paints (bs cs : List ℕ) (P : Picture) : Type 0 where
  pub adds : (n : ℕ) (F : Picture) → Painted bs n F → Painted cs n (λ i j. F i j || P i j)

-- a mask into byte i
unfoldable pub or_at : List ℕ → ℕ → ℕ → List ℕ
or_at bs i m = set bs i (bit_or (get_or bs i 0) m)

-- the column of a byte's place, counted from the strip's first
abbrev pub column : ℕ → ℕ → ℕ
column i j = 8 * i + j

-- the boundary of a box at x, y
unfoldable pub edge : (x y w d column row : ℕ) → Bool
edge x y w d c r =
    (eqb c x || eqb c (x + w)) && (leb y r && leb r (y + d))
    || (eqb r y || eqb r (y + d)) && (leb x c && leb c (x + w))

-- the boundary of a box in a row, as the strip shows it
abbrev pub boxed : (first row x y w d : ℕ) → Picture
boxed first row x y w d = λ i j. edge x y w d (first + column i j) row

-- that of cell a, in a row moved up; its x counted from the least, which is l moved up
abbrev pub cell_in : (first row l : ℕ) (ws ds : List ℕ) (ps : List ℤ) (a : ℕ) → Picture
cell_in first row l ws ds ps a = boxed first row (x_up ps a - l) (y_up ps a) (get_or ws a 0) (get_or ds a 0)

-- A STRIP: one row of a sheet as bytes (document 02, E8). Assumes nothing.
use Rattle.std.specs.Prelude.{List, [], ◌∷◌, Bool, true, false, ℕ, zero, suc, ◌+◌, ◌*◌}
use Rattle.plan.specs.Plan.{Table}
use Rattle.rules.specs.Placement.{Placement}
use Rattle.raster.specs.Points.{dot}

abbrev pub digit : Bool → ℕ
digit true = 1
digit false = 0

-- the number whose k binary digits are f 0 to f (k - 1), the highest first
unfoldable pub pack : (ℕ → Bool) → ℕ → ℕ
pack f zero = 0
pack f (suc k) = pack f k * 2 + digit (f k)

-- "each byte holds eight columns, the leftmost in the highest bit"
abbrev pub byte : (ℕ → Bool) → ℕ
byte f = pack f 8

-- k bytes of the columns from `first` on
unfoldable pub bytes : (ℕ → Bool) → (first k : ℕ) → List ℕ
bytes f first zero = []
bytes f first (suc k) = byte (λ j. f (first + j)) ∷ bytes f (first + 8) k

-- THE strip of a row: k bytes from a first column on. Columns are natural numbers, of any size
unfoldable pub strip_of : Table → Placement → (row first k : ℕ) → List ℕ
strip_of t p row first k = bytes (dot t p row) first k

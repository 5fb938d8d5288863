-- How wide a sheet can be, for the bitmap's buffer. Assumes nothing.
use Rattle.std.specs.Prelude.{ℕ}

-- 256 boxes of 1,023, side by side
abbrev pub most_wide : ℕ
most_wide = 262143

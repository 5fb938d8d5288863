-- A LINE AS THE CODE HAS IT. Assumes nothing.
use Rattle.std.specs.Prelude.{◌≡◌, ◌++◌, [], ◌∷◌, ℕ, ◌-◌, ◌≤◌, length, take, replicate}
use Rattle.listing.specs.Printed.{Bytes, space}
use Rattle.listing.specs.declared.Line.{Line}

-- bytes of a line's buffer: no line has more than 98
abbrev pub line_size : ℕ
line_size = 128

-- the text, and zeros after it
unfoldable pub line_of : Bytes → Line
line_of text = record { bytes = text ++ replicate (line_size - length text) 0; length = length text }

-- a label with its space; an empty one and its space are dropped
unfoldable pub spaced : Bytes → Bytes
spaced [] = []
spaced (b ∷ bs) = space ∷ b ∷ bs

-- the bytes of a line
abbrev pub text : Line → Bytes
text l = take l.length l.bytes

-- a line whose bytes can be written
pub record Whole (l : Line) : Type 0 where
  pub long : length l.bytes ≡ line_size
  pub inside : l.length ≤ line_size

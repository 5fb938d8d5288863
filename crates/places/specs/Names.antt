-- THE NAMES THAT C IS HANDED, as bytes. Assumes nothing.
use Rattle.std.specs.Prelude.{◌≡◌, ◌++◌, ◌≢◌, ℕ, ◌-◌, ◌<◌, length, replicate, get_or}
use Rattle.listing.specs.Printed.{Bytes}

-- bytes of a name as C reads it, with the 0 that ends it
abbrev pub path_size : ℕ
path_size = 4096

-- a name that C can be handed whole
pub record Nameable (name : Bytes) : Type 0 where
  pub some : 0 < length name
  pub short : length name < path_size
  pub whole : (i : ℕ) → i < length name → get_or name i 0 ≢ 0

-- as C reads it: its bytes, then zeros
unfoldable pub c_name : Bytes → Bytes
c_name name = name ++ replicate (path_size - length name) 0

-- it ends there: its last byte is 0
abbrev pub Ended : Bytes → Type 0
Ended bytes = get_or bytes 4095 1 ≡ 0

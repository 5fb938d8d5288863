-- The bytes that Label lends. Assumes nothing.
use Rattle.std.specs.Prelude.{List, ◌≡◌, ℕ, ◌+◌, ◌-◌, take, drop}
use Rattle.std.specs.Borrow.{Bor}
use Rattle.planfile_spec.specs.declared.Part.{Part}

-- the bytes of a part
abbrev pub bytes_in : List ℕ → Part → List ℕ
bytes_in f p = take (p.end - p.start) (drop p.start f)

-- "that part of the file's own bytes": lent bytes that are a part of others, in their memory (a block, and an offset in it) from the part's start on
pub record Subslice (whole : Bor (List ℕ)) (p : Part) (r : Bor (List ℕ)) : Type 0 where
  pub block : r.ref_ptr.0 ≡ whole.ref_ptr.0
  pub place : r.ref_ptr.1 ≡ whole.ref_ptr.1 + p.start
  pub bytes : r.now ≡ bytes_in whole.now p

-- WHAT LABEL RETURNS. Assumes nothing.
use Rattle.std.specs.Prelude.{List, ℕ}
use Rattle.std.specs.Borrow.{Bor}
use Rattle.planfile_spec.specs.Reading.{label_part}
use Rattle.planfile.specs.Subslice.{bytes_in, Subslice}

-- the bytes of the file from the start of the label to its end; refused, none
abbrev pub label_of : List ℕ → (cell : ℕ) → List ℕ
label_of f c = bytes_in f (label_part f c)

-- the call's answer: these bytes where they stand in the file; refused, the empty part at byte 0
abbrev pub Labels : (file : Bor (List ℕ)) (cell : ℕ) (r : Bor (List ℕ)) → Type 0
Labels file c r = Subslice file (label_part file.now c) r

-- WHAT THE PROGRAM `join` PRINTS, every byte of it: `first refused 7 3`, `second refused 2 0`, `refused 16 0`; nothing where the joined file is written. Every definition computes. Assumes nothing.
use Rattle.std.specs.Prelude.{[], ◌∷◌, ◌++◌, Result, Ok, Err, ℕ}
use Rattle.listing.specs.Printed.{Bytes, space, refused_line}
use Rattle.join_file_spec.specs.declared.JoinError.{JoinError}
use Rattle.join_file_spec.specs.declared.JoinError.TheVariants.{FirstRefused, SecondRefused, Refused}

-- the words `first` and `second`
abbrev pub first_word : Bytes
first_word = 102 ∷ 105 ∷ 114 ∷ 115 ∷ 116 ∷ []

abbrev pub second_word : Bytes
second_word = 115 ∷ 101 ∷ 99 ∷ 111 ∷ 110 ∷ 100 ∷ []

-- THE text of an answer
unfoldable pub join_text : Result ℕ JoinError → Bytes
join_text (Ok n) = []
join_text (Err (FirstRefused r)) = first_word ++ (space ∷ refused_line r.number r.cell)
join_text (Err (SecondRefused r)) = second_word ++ (space ∷ refused_line r.number r.cell)
join_text (Err (Refused r)) = refused_line r.number r.cell

-- bytes of it, at most
abbrev pub join_size : ℕ
join_size = 64

-- The last line of each outcome, computed: the word, 3 bytes used, 12 records. Assumes nothing.
use Rattle.std.specs.Prelude.{◌≡◌, refl, [], ◌∷◌, Ok}
use Rattle.listing.specs.Printed.{digits, decimal, line, end_line}
use Rattle.following.specs.declared.Drilled.TheVariants.{Finished, Spent, Wrong, Full}
use Rattle.transcript.specs.Transcript.{steps_text, told_lines}

-- `finished 3 12`
finished : told_lines [] [] (Ok (Finished 3 12)) ≡ 102 ∷ 105 ∷ 110 ∷ 105 ∷ 115 ∷ 104 ∷ 101 ∷ 100 ∷ 32 ∷ 51 ∷ 32 ∷ 49 ∷ 50 ∷ 10 ∷ []
unfolding told_lines steps_text end_line line decimal digits
finished = refl

-- `spent 3 12`
spent : told_lines [] [] (Ok (Spent 3 12)) ≡ 115 ∷ 112 ∷ 101 ∷ 110 ∷ 116 ∷ 32 ∷ 51 ∷ 32 ∷ 49 ∷ 50 ∷ 10 ∷ []
unfolding told_lines steps_text end_line line decimal digits
spent = refl

-- `wrong 3 12`
wrong : told_lines [] [] (Ok (Wrong 3 12)) ≡ 119 ∷ 114 ∷ 111 ∷ 110 ∷ 103 ∷ 32 ∷ 51 ∷ 32 ∷ 49 ∷ 50 ∷ 10 ∷ []
unfolding told_lines steps_text end_line line decimal digits
wrong = refl

-- `full 3 12`
full : told_lines [] [] (Ok (Full 3 12)) ≡ 102 ∷ 117 ∷ 108 ∷ 108 ∷ 32 ∷ 51 ∷ 32 ∷ 49 ∷ 50 ∷ 10 ∷ []
unfolding told_lines steps_text end_line line decimal digits
full = refl

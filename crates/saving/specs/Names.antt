-- THE NAME OF A NEW FILE while it is written, as bytes. Assumes nothing.
use Rattle.std.specs.Prelude.{[], ◌∷◌, ◌++◌, ℕ}
use Rattle.listing.specs.Printed.{Bytes, decimal}

-- `.unfinished-`
abbrev pub unfinished_word : Bytes
unfinished_word = 46 ∷ 117 ∷ 110 ∷ 102 ∷ 105 ∷ 110 ∷ 105 ∷ 115 ∷ 104 ∷ 101 ∷ 100 ∷ 45 ∷ []

-- the new file while it is written: NAME.unfinished-PID
unfoldable pub unfinished : (name : Bytes) (pid : ℕ) → Bytes
unfinished name pid = name ++ (unfinished_word ++ decimal pid)

-- bytes behind the name, at most: the word, and 20 digits
abbrev pub suffix_size : ℕ
suffix_size = 32

-- Laws of the definitions in specs/Names.antt. Nothing that a reader must believe stands here. Assumes nothing.
use Rattle.std.specs.Prelude.{◌≡◌, refl, List, [], ◌∷◌, ◌++◌, ℕ}
use Rattle.std.proofs.Common.{append_assoc}
use Rattle.listing.specs.Printed.{Bytes, digits, decimal}
use Rattle.listing.specs.Put.{Put}
use Rattle.listing.proofs.Laws.Put.{then}
use Rattle.saving.specs.Names.{unfinished_word, unfinished}

-- `a.unfinished-12`
unfinished_spelled : unfinished (97 ∷ []) 12 ≡ 97 ∷ 46 ∷ 117 ∷ 110 ∷ 102 ∷ 105 ∷ 110 ∷ 105 ∷ 115 ∷ 104 ∷ 101 ∷ 100 ∷ 45 ∷ 49 ∷ 50 ∷ []
unfolding unfinished decimal digits
unfinished_spelled = refl

-- the new file's name, from its three parts
unfinished-is : (name : Bytes) (pid : ℕ) → (name ++ unfinished_word) ++ decimal pid ≡ unfinished name pid
unfolding unfinished
unfinished-is name pid = append_assoc name unfinished_word (decimal pid)

pub unfinished-put : {a b c d name : List ℕ} {i j k l : ℕ} (pid : ℕ) → Put a i name b j → Put b j unfinished_word c k → Put c k (decimal pid) d l → Put a i (unfinished name pid) d l
unfinished-put {name = name} pid p q r = rw (← unfinished-is name pid) (then (then p q) r)

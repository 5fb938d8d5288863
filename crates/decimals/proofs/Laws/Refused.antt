-- The line of a refusal, from its parts: for the code. Nothing that a reader must believe stands here. Assumes nothing.
use Rattle.std.specs.Prelude.{ℕ, List, [], ◌∷◌}
use Rattle.listing.specs.Printed.{space, line_feed, refused_word, decimal, refused_line}
use Rattle.listing.proofs.Laws.Line.{refused_line-is}
use Rattle.listing.specs.Put.{Put}
use Rattle.listing.proofs.Laws.Put.{then}

pub refused-put : (k c : ℕ) {a b d e f g h : List ℕ} {i j l m n o q : ℕ} → Put a i refused_word b j → Put b j (space ∷ []) d l → Put d l (decimal k) e m → Put e m (space ∷ []) f n → Put f n (decimal c) g o → Put g o (line_feed ∷ []) h q → Put a i (refused_line k c) h q
refused-put k c u v w x y z = rw (← refused_line-is k c) (then (then (then u (then v w)) (then x y)) z)

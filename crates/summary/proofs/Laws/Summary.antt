-- Lines put together: for the code. Nothing that a reader must believe stands here. Assumes nothing.
use Rattle.std.specs.Prelude.{◌≡◌, List, [], ◌∷◌, ◌++◌, ℕ}
use Rattle.std.proofs.Common.{append_assoc}
use Rattle.listing.specs.Printed.{Bytes, space, line_feed, line, decimal, refused_line}
use Rattle.listing.specs.Put.{Put}
use Rattle.listing.proofs.Laws.Put.{then}
use Rattle.summary.specs.Summary.{figure_line, named_line}

-- a figure's line, from its four parts
figure_is : (w : Bytes) (n : ℕ) → (w ++ (space ∷ decimal n)) ++ (line_feed ∷ []) ≡ figure_line w n
unfolding figure_line line
figure_is w n = append_assoc w (space ∷ decimal n) (line_feed ∷ [])

pub figure_put : {a b c d e w : List ℕ} {i j k l m : ℕ} (n : ℕ) → Put a i w b j → Put b j (space ∷ []) c k → Put c k (decimal n) d l → Put d l (line_feed ∷ []) e m → Put a i (figure_line w n) e m
figure_put {w = w} n p q r s = rw (← figure_is w n) (then (then p (then q r)) s)

-- the line of a refused file
named-is : (w : Bytes) (k c : ℕ) → (w ++ (space ∷ [])) ++ refused_line k c ≡ named_line w k c
unfolding named_line
named-is w k c = append_assoc w (space ∷ []) (refused_line k c)

pub named_put : {a b c d w : List ℕ} {i j k m : ℕ} (n x : ℕ) → Put a i w b j → Put b j (space ∷ []) c k → Put c k (refused_line n x) d m → Put a i (named_line w n x) d m
named_put {w = w} n x p q r = rw (← named-is w n x) (then (then p q) r)

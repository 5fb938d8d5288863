-- What is printed of a fault. Assumes nothing.
use Rattle.std.specs.Prelude.{List, [], ◌∷◌, ℕ}
use Rattle.listing.specs.Printed.{line_feed, decimal}
use Rattle.listing.specs.Put.{Put}
use Rattle.listing.proofs.Laws.Put.{then}
use Rattle.outline_spec.specs.Text.{text}
use Rattle.outline_spec.specs.declared.Fault.{Fault}
use Rattle.outline_spec.specs.Faults.{advice, fault_line}

-- the whole line
pub line-put : {a b c d e f : List ℕ} {i j k l m : ℕ} (n : ℕ) (x : Fault) → Put a 0 (text "line ") b i → Put b i (decimal n) c j → Put c j (text ": ") d k → Put d k (advice x) e l → Put e l (line_feed ∷ []) f m
    → Put a 0 (fault_line n x) f m
unfolding fault_line
line-put n x p q r s t = then p (then q (then r (then s t)))

-- A stroke, as the code writes it. Nothing that a reader must believe stands here. Assumes nothing.
use Rattle.std.specs.Prelude.{◌≡◌, List, ℕ}
use Rattle.listing.specs.Put.{Put}
use Rattle.pen.specs.declared.Stroke.{Stroke}
use Rattle.svg_strokes.specs.Strokes.{stroke_text}

-- a stroke is the one that it was matched as
pub stroke_as : {a b : List ℕ} {i k : ℕ} (s t : Stroke) → s ≡ t → Put a i (stroke_text s) b k → Put a i (stroke_text t) b k
stroke_as s t e p = rw (← e) p

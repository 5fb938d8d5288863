-- The children of a cell joined one after another, as the engine does it: what it keeps of them, and how the next one is added. Assumes nothing.
use Rattle.std.specs.Prelude.{ℕ, zero, suc, ◌+◌, Bool, cond, List, [], ◌∷◌, ◌++◌, ltb, length, take, replicate}
use Rattle.plan.specs.Plan.{Table, place}
use Rattle.contours.specs.Contour.{Contour, greatest}
use Rattle.contours.specs.Sheet.{contours}
use Rattle.folding.proofs.Laws.Join.{Merge, upto, beyond, separation_to}

-- of the children joined so far: their number, their rows, the right extent of the latest and its distance from the first
pub record Tally : Type 0 where
  pub done : ℕ
  pub merge : Merge
  pub edge : ℕ
  pub far : ℕ

abbrev pub fresh : Tally
fresh = record { done = 0; merge = record { left = []; right = []; past = 0 }; edge = 0; far = 0 }

abbrev pub first : Contour → Tally
first p = record { done = 1; merge = record { left = p.left; right = p.right; past = 0 }; edge = greatest p.right; far = 0 }

-- one more, g from the latest, with these rows
abbrev pub later : Tally → Contour → ℕ → Merge → Tally
later a p g s = record { done = suc a.done; merge = s; edge = greatest p.right; far = a.far + g }

-- its rows join those up to the appointed child or those beyond it
abbrev pub side : Bool → Merge → Contour → ℕ → Merge
side past s p g = cond past (beyond s p g) (upto s p g)

module _ (al : ℕ) where
  -- the child at place d, where m is the appointed place
  abbrev pub add_at : ℕ → ℕ → Tally → Contour → Tally
  add_at m zero a p = first p
  add_at m (suc d) a p = later a p (separation_to al a.merge p) (side (ltb m (suc d)) a.merge p (separation_to al a.merge p))

  unfoldable pub add : ℕ → Tally → Contour → Tally
  add m a p = add_at m a.done a p

  unfoldable pub add_all : ℕ → Tally → List Contour → Tally
  add_all m a [] = a
  add_all m a (p ∷ ps) = add_all m (add m a p) ps

-- a box over the joined children
abbrev pub boxed : ℕ → ℕ → Tally → Contour
boxed d w a = record { left = replicate (d + 1) 0 ++ a.merge.left; right = replicate (d + 1) w ++ a.merge.right }

-- the first o children of c, joined
abbrev pub partial : Table → ℕ → ℕ → ℕ → Tally
partial t al c o = add_all al (place t c (length (contours t al c))) fresh (take o (contours t al c))

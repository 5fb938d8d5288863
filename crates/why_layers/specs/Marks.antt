-- The search as the code makes it, on marks: a cell's mark is 1 more than the fewest links that lead to it, 0 where none do so far. Assumes nothing.
use Rattle.std.specs.Prelude.{Bool, cond, ◌&&◌, List, ℕ, zero, suc, ◌+◌, get_or, eqb, ltb, Option, Some, None}
use Rattle.looking_sights.specs.Sights.{Sights}
use Rattle.why_ties.specs.Ties.{rule_of}

-- the first of d numbers from k on that passes; k + d where none does
unfoldable pub seek : (ℕ → Bool) → ℕ → ℕ → ℕ
seek f k zero = k
seek f k (suc d) = let r = seek f (suc k) d in cond (f k) k r

-- a search's answer: the number among n, none where it is n
unfoldable pub among : (n k : ℕ) → Option ℕ
among n k = cond (ltb k n) (Some k) None

module _ (s : Sights) where
  -- a has mark m, and a tight link leads from it to b
  unfoldable pub leads_on : ℕ → List ℕ → ℕ → ℕ → ℕ → Bool
  leads_on al xs m b a = eqb (get_or xs a 0) m && ltb 0 (rule_of al a b (s a) (s b))

  -- the lowest such a; n where there is none
  unfoldable pub source : (al n : ℕ) → List ℕ → ℕ → ℕ → ℕ
  source al n xs m b = seek (leads_on al xs m b) 0 n

  -- e has mark m and the greatest right edge
  unfoldable pub at_end : List ℕ → ℕ → ℕ → ℕ → Bool
  at_end xs m high e = eqb (get_or xs e 0) m && eqb (s e).right high

  unfoldable pub ending : (n : ℕ) → List ℕ → ℕ → ℕ → ℕ
  ending n xs m high = seek (at_end xs m high) 0 n

  -- the marks of no link, and of one link more
  unfoldable pub mark_first : ℕ → ℕ → ℕ
  mark_first low c = cond (eqb (s c).x low) 1 0

  unfoldable pub mark_next : (al n : ℕ) → List ℕ → ℕ → ℕ → ℕ
  mark_next al n xs m c = cond (eqb (get_or xs c 0) 0) (cond (ltb (source al n xs m c) n) (m + 1) 0) (get_or xs c 0)

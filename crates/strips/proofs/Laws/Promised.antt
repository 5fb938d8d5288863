-- E8's sentences, of what Strip leaves in the bytes lent to it. Assumes nothing.
use Rattle.std.specs.Prelude.{◌≡◌, refl, List, ◌++◌, Bool, true, false, ◌↔◌, ℕ, ◌+◌, ◌*◌, ◌-◌, ◌/◌, ◌%◌, ◌^◌, ◌<◌, ℤ, pos, ◌+ℤ◌, length, get_or, ◌≤ℤ◌, ◌<ℤ◌, Result, Ok, Err, ⊤}
use Rattle.std.proofs.Common.{sym, ap, ◌∙◌, arith, length-append}
use Rattle.std.proofs.Math.Decide.{ℕ_discrete}
use Rattle.whole.specs.Says.{Says}
use Rattle.plan.specs.Plan.{Table, Sound}
use Rattle.plan.specs.Questions.{strip, none, refusal, strip_given}
use Rattle.plan.proofs.Laws.Questions.{both-none}
use Rattle.plan.proofs.Laws.Calls.{strip-refusal}
use Rattle.plan.proofs.Laws.Fit.{lent_fit}
use Rattle.plan.specs.declared.Refusal.{Refusal}
use Rattle.rules.specs.Placement.{placed, width, rows}
use Rattle.corners.specs.Corners.{left}
use Rattle.raster.specs.Points.{dot}
use Rattle.raster.specs.Boundary.{OnSome}
use Rattle.raster.specs.Strip.{digit, strip_of}
use Rattle.raster.proofs.Laws.Bytes.{strip_bit, strip_cut}
use Rattle.plan.proofs.Laws.Answered.{answered_none, answered_some}
use Rattle.strips.specs.Stripped.{bytes_after, Strips}
use Rattle.strips.proofs.Laws.Points.{says_printed, dot-beyond, dot-below}

-- a digit that is 1
digit_says : {b : Bool} {P : Type 0} → Says b P → (digit b ≡ 1) ↔ P
digit_says {b = true} s = (λ e. s.read tt, λ h. refl)
digit_says {b = false} s = (λ e. absurd (omega arith), λ h. absurd (s.show h))

module _ (t : Table) (ps : List ℤ) (row first : ℕ) (bs bs' : List ℕ) (r : Result ⊤ Refusal) (g : Strips t ps row first bs bs' r) where
  abbrev why : Refusal
  why = refusal strip (strip_given t ps)

  -- a refusal leaves the bytes as they were
  pub unchanged : ¬ (why.number ≡ 0) → (r ≡ Err why) × (bs' ≡ bs)
  unfolding bytes_after
  unchanged z = let e = g.answers ∙ answered_some why tt z in (e, g.bytes ∙ rw e)

  printed-bytes : why.number ≡ 0 → (r ≡ Ok tt) × (bs' ≡ strip_of t (placed ps) row first (length bs))
  unfolding bytes_after
  printed-bytes z = let e = g.answers ∙ answered_none why tt z in (e, g.bytes ∙ rw e)

  module _ (z : why ≡ none) where
    -- every byte is the strip's
    pub gives : (r ≡ Ok tt) × (bs' ≡ strip_of t (placed ps) row first (length bs))
    gives = printed-bytes (ap (λ (x : Refusal). x.number) z)

    sound : Sound t
    sound = (lent_fit t (length ps) (both-none _ _ (ap (λ (x : Refusal). x.number) (sym (strip-refusal t ps) ∙ z))).0).fit.sound

    module _ (i j : ℕ) (h : i < length bs) (l : j < 8) where
      bit : get_or bs' i 0 / 2 ^ (7 - j) % 2 ≡ digit (dot t (placed ps) row (first + (8 * i + j)))
      bit = ap (λ (b : List ℕ). get_or b i 0 / 2 ^ (7 - j) % 2) gives.1 ∙ strip_bit t (placed ps) row first (length bs) i j h l

      -- "A bit is set exactly if that lattice point is on the boundary of some box"
      pub sets : (get_or bs' i 0 / 2 ^ (7 - j) % 2 ≡ 1) ↔ OnSome t (placed ps) (left t (placed ps) +ℤ pos (first + (8 * i + j))) (pos row)
      unfolding dot
      sets = rw bit (digit_says (says_printed t (placed ps) _ _))

      -- "Points outside the sheet give 0"
      pub beyond : width t (placed ps) <ℤ pos (first + (8 * i + j)) → get_or bs' i 0 / 2 ^ (7 - j) % 2 ≡ 0
      beyond w = bit ∙ ap digit (dot-beyond t (placed ps) row (first + (8 * i + j)) w)

      pub below : rows t (placed ps) ≤ℤ pos row → get_or bs' i 0 / 2 ^ (7 - j) % 2 ≡ 0
      below w = bit ∙ ap digit (dot-below t (placed ps) sound row (first + (8 * i + j)) w)

-- "A strip cut between any two of its bytes gives two strips that join into the whole"; refused, all three stay as they were
pub joins : (t : Table) (ps : List ℤ) (row first : ℕ) (cs ds cs' ds' whole : List ℕ) (q r s : Result ⊤ Refusal)
    → Strips t ps row first cs cs' q → Strips t ps row (first + 8 * length cs) ds ds' r → Strips t ps row first (cs ++ ds) whole s → whole ≡ cs' ++ ds'
joins t ps row first cs ds cs' ds' whole q r s a b w = go (ℕ_discrete (refusal strip (strip_given t ps)).number 0)
  where
    go : Dec ((refusal strip (strip_given t ps)).number ≡ 0) → whole ≡ cs' ++ ds'
    go (yes z) =
        rw ((printed-bytes t ps row first cs cs' q a z).1, (printed-bytes t ps row (first + 8 * length cs) ds ds' r b z).1)
        ((printed-bytes t ps row first (cs ++ ds) whole s w z).1 ∙ ap (strip_of t (placed ps) row first) (length-append cs ds) ∙ strip_cut t (placed ps) row first (length cs) (length ds))
    go (no z) =
        rw ((unchanged t ps row first cs cs' q a z).1, (unchanged t ps row (first + 8 * length cs) ds ds' r b z).1) (unchanged t ps row first (cs ++ ds) whole s w z).1

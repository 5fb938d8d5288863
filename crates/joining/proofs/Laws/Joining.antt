-- Laws of the definitions in specs/Joining.antt. Assumes nothing.
use Rattle.std.specs.Prelude.{◌≡◌, refl, List, Bool, cond, ℕ, zero, suc, ◌+◌, ◌<◌, max, ltb}
use Rattle.std.proofs.Common.{arith}
use Rattle.rows.specs.Rows.{upto_rows, beyond_rows}
use Rattle.joining.specs.Joining.{Memory, memory_of, mark, four, noted, settled_apart, settled_first, settled_by, settled}

-- ---- a place is the first, or not
pub at_first : (m : Memory) (at f c hs p apt al : ℕ) → p ≡ 0 → settled m at f c hs p apt al ≡ settled_first m at f c hs
unfolding settled
at_first m at f c hs p apt al e = rw e

pub at-later : (m : Memory) (at f c hs p apt al : ℕ) → 0 < p → settled m at f c hs p apt al ≡ settled_by m at f c hs (ltb apt p) (settled_apart m at f c hs al)
unfolding settled
at-later m at f c hs zero apt al l = absurd (omega arith)
at-later m at f c hs (suc p) apt al l = refl

-- ---- the numbers that the code finds on its way
pub later-found : (xs ms : List ℕ) (at f c hs : ℕ) (beyond : Bool) (al : ℕ) {g x h hf p past r all : ℕ} {xs' ms₁ ms₂ : List ℕ} → g ≡ settled_apart (memory_of xs ms) at f c hs al → x ≡ mark ms f 3 → h ≡ mark ms f 0
    → hf ≡ h → p ≡ mark ms f 2 → xs' ≡ cond beyond (beyond_rows xs at (p + g) hs) (upto_rows xs at hf g (max hf hs)) → past ≡ cond beyond (p + g) 0 → r ≡ mark ms c 2 → ms₁ ≡ noted ms c (x + g) → all ≡ max hf hs
    → ms₂ ≡ four ms₁ f all r past (x + g) → memory_of xs' ms₂ ≡ settled_by (memory_of xs ms) at f c hs beyond (settled_apart (memory_of xs ms) at f c hs al)
later-found xs ms at f c hs beyond al e₁ e₂ e₃ e₄ e₅ e₆ e₇ e₈ e₉ e₁₀ e₁₁ = rw (e₁₁, e₁₀, e₉, e₈, e₇, e₆, e₅, e₄, e₃, e₂, e₁)

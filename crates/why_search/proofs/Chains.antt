-- The cells of a chain, as the code reads them. Assumes nothing.
use mathlib.Core.Path.{◌≡◌, refl}
use mathlib.Core.List.{List}
use Rattle.std.specs.Prelude.{Option, unwrap_or}
use Prim.Native.Nat.{ℕ, zero, suc, ◌+◌, ◌≤◌, ◌<◌}
use native.Mathlib.Omega.{arith}
use lib.ListN.{get_or}
use Rattle.plan.specs.Limits.{most_cells}
use Rattle.looking_sights.specs.Sights.{Sights, Sighted}
use Rattle.looking_sights.specs.declared.View.{View}
use Rattle.why_ties.specs.Ties.{rule_of, named}
use Rattle.why_search.specs.Rules.{rule_between, Inside}

pub inside_few : (s : Sights) (n count : ℕ) (cells : List ℕ) (j : ℕ) → Sighted s n → Inside cells n count → j ≤ count → get_or cells j 0 < most_cells
inside_few s n count cells j h i l = omega (arith, h.few, i.inside j l)

or_zero : (k : ℕ) → unwrap_or (named k) 0 ≡ k
unfolding named
or_zero zero = refl
or_zero (suc k) = refl

pub between : (s : Sights) (al : ℕ) (cells : List ℕ) (j : ℕ) (r : Option ℕ) (v w : View) → v ≡ s (get_or cells j 0) → w ≡ s (get_or cells (j + 1) 0)
    → r ≡ named (rule_of al (get_or cells j 0) (get_or cells (j + 1) 0) v w) → unwrap_or r 0 ≡ rule_between s al cells j
unfolding rule_between
between s al cells j r v w e f q = rw (q, e, f) (or_zero _)

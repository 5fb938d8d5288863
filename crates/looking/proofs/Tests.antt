-- Tests made one after the other, as the code makes them. Assumes nothing.
use mathlib.Core.Path.{◌≡◌, refl}
use mathlib.Core.Bool.{Bool, true, false, ◌&&◌}
use mathlib.Core.Logic.{◌≢◌}
use Prim.Native.Nat.{ℕ, zero, suc}
use Rattle.whole.specs.Says.{only}
use Rattle.looking.specs.Passes.{passes}
use Rattle.looking_sights.specs.declared.View.{View}

pub and_no : {p : Bool} (q : Bool) → p ≡ false → false ≡ p && q
and_no q e = rw e

pub and_yes : {p : Bool} (q : Bool) → p ≡ true → q ≡ p && q
and_yes q e = rw e

pub unasked : {p : Bool} (q : Bool) → p ≡ false → true ≡ only p q
unasked q e = rw e

pub asked : {p : Bool} (q : Bool) → p ≡ true → q ≡ only p q
asked q e = rw e

pub unasked_first : {p : Bool} (q r : Bool) → p ≡ false → true ≡ only (p && q) r
unasked_first q r e = rw e

pub unasked_second : {p q : Bool} (r : Bool) → p ≡ true → q ≡ false → true ≡ only (p && q) r
unasked_second r e f = rw (e, f)

pub asked-both : {p q : Bool} (r : Bool) → p ≡ true → q ≡ true → r ≡ only (p && q) r
asked-both r e f = rw (e, f)

pub both-no : {p q : Bool} (r : Bool) → p ≡ true → q ≡ false → p && (q && r) ≡ false
both-no r e f = rw (e, f)

pub all_three : {p q r : Bool} → p ≡ true → q ≡ true → r ≡ true → p && (q && r) ≡ true
all_three e f g = rw (e, f) g

pub last_no : {p q r : Bool} → p ≡ true → q ≡ true → r ≡ false → p && (q && r) ≡ false
last_no e f g = rw (e, f) g

-- what is no rule is kept
pub no_rule : (al r a b : ℕ) (v w : View) → r ≢ 1 → r ≢ 2 → r ≢ 3 → r ≢ 4 → r ≢ 5 → true ≡ passes al r a b v w
unfolding passes
no_rule al zero a b v w h1 h2 h3 h4 h5 = refl
no_rule al (suc zero) a b v w h1 h2 h3 h4 h5 = absurd (h1 refl)
no_rule al (suc (suc zero)) a b v w h1 h2 h3 h4 h5 = absurd (h2 refl)
no_rule al (suc (suc (suc zero))) a b v w h1 h2 h3 h4 h5 = absurd (h3 refl)
no_rule al (suc (suc (suc (suc zero)))) a b v w h1 h2 h3 h4 h5 = absurd (h4 refl)
no_rule al (suc (suc (suc (suc (suc zero))))) a b v w h1 h2 h3 h4 h5 = absurd (h5 refl)
no_rule al (suc (suc (suc (suc (suc (suc r)))))) a b v w h1 h2 h3 h4 h5 = refl

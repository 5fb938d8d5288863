-- A difference as the machine reads it back from its bits, on paper. Assumes nothing.
use mathlib.Core.Path.{◌≡◌, ◌∙◌, refl, sym, ap}
use mathlib.Core.Bool.{Bool, true, false, ◌&&◌}
use Prim.Native.Nat.{ℕ, ◌<◌, ◌^◌}
use lib.IntN.{ℤ, pos, ◌-ℤ◌}
use lib.Ieee.{Float}
use mir.Syntax.{w32}
use mir.Val.{to_z, of_z}
use mir.ValLaws.{to_z-of_z}
use Rattle.whole.proofs.Machine.{difference_fits, back_nat}
use Rattle.pen.specs.Paper.{plotted}

pub plotted-back : (a b : ℕ) (d : ℤ) (p m : Float) → a < 2 ^ 31 → b < 2 ^ 31 → d ≡ pos a -ℤ pos b
    → plotted (to_z w32 (of_z w32 d)) p m ≡ plotted (pos a -ℤ pos b) p m
plotted-back a b d p m ha hb e =
    rw e (ap (λ (z : ℤ). plotted z p m) (to_z-of_z w32 (pos a -ℤ pos b) (rw (back_nat a ha, back_nat b hb) at (difference_fits a b ha hb))))

-- two tests, one after the other
pub stop_and : (a b r : Bool) → r ≡ a → r ≡ false → false ≡ a && b
stop_and a b r e h = rw (sym e ∙ h) refl

pub go_and : (a b r s : Bool) → r ≡ a → r ≡ true → s ≡ b → s ≡ a && b
go_and a b r s e h k = rw (sym e ∙ h) k

use mathlib.Core.Path.{ap, ◌∙◌}
use Prim.Native.Nat.{ℕ}
use lib.ListN.{replicate}
use Rattle.whole.specs.Whole.{plus}
use Rattle.mark.proofs.least_width.Goals as goal

pub width_at-requires : goal.width_at-requires
width_at-requires c =
    record { fit = c.requires.0; rows = c.tops_of-tops.ensures; scratch = c.fill.ensures.after (λ y e. e) ∙ ap (λ (k : ℕ). replicate k 0) c.requires.1 }

pub returns : goal.returns
returns c = let e = c.width_at.ensures in (ap plus e.0, e.1)

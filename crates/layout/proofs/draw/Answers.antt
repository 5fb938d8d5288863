use mathlib.Core.Path.{ap, ◌∙◌}
use Prim.Native.Nat.{ℕ}
use lib.ListN.{replicate}
use Rattle.layout.proofs.draw.Goals as goal

pub draw_over_zeros-requires : goal.draw_over_zeros-requires
draw_over_zeros-requires c =
    let h = c.requires in
    let f = c.fill.ensures in
    (record { fit = h.fit; room = h.room; scratch = f.len ∙ h.scratch }, f.after (λ y e. e) ∙ ap (λ (k : ℕ). replicate k 0) h.scratch)

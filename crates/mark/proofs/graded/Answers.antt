use mathlib.Core.Path.{ap, ◌∙◌}
use Prim.Native.Nat.{ℕ}
use Rattle.mark_spec.specs.Marked.{by_width}
use Rattle.mark.proofs.graded.Goals as goal

pub returns : goal.returns
returns c =
    let a = c.args in
    let e = c.least_width-least.ensures in
    (c.by_width.ensures ∙ ap (λ (l : ℕ). by_width l a.sheet.width a.sheet.rows) e.0, e.1)

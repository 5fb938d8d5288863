use mathlib.Core.Path.{◌∙◌, ap}
use Prim.Native.Nat.{◌+◌}
use Rattle.outline_line.proofs.Laws.Written.{under-lower, under_none}
use Rattle.outline_line.proofs.level_under.Goals as goal

pub returns-then-parent-seen : goal.returns-then-parent-seen
returns-then-parent-seen c = ap (λ n. n + 1) c.from.ensures ∙ under-lower c.args.seen.now c.args.parent c.if-parent-seen.true

pub returns : goal.returns
returns c = under_none c.args.seen.now _ c.if-parent-seen.false

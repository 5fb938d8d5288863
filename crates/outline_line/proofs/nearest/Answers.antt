use native.Mathlib.Omega.{arith}
use mathlib.Core.Path.{refl, sym, ◌∙◌}
use Rattle.outline_line.proofs.Laws.Written.{less_start, less_here, less_not, less_end}
use Rattle.outline_line.proofs.nearest.Goals as goal
use Rattle.outline_line.proofs.nearest.Goals.{then-from-level, else-from-level}

pub loop-i-init : goal.loop-i-init
loop-i-init c = less_start c.args.seen.now _

pub loop-i-preserved : goal.loop-i-preserved
loop-i-preserved c =
    elim c.if-from-level.branch [
      | then-from-level w ↦ c.loop-i.invariant ∙ less_here c.args.seen.now c.args.level c.loop-i.i c.loop-i.best c.loop-i-test.true (omega (arith, c.from.ensures)) ∙ rw w.best-is refl
      | else-from-level w ↦ c.loop-i.invariant ∙ less_not c.args.seen.now c.args.level c.loop-i.i c.loop-i.best c.loop-i-test.true (omega (arith, c.from.ensures)) ∙ rw w.best-is refl
    ]

pub returns : goal.returns
returns c = sym (c.loop-i.invariant ∙ less_end c.args.seen.now c.args.level c.loop-i.i c.loop-i.best (omega arith))

use Rattle.ends.proofs.Joining.{moved_low, moved-is, moved_back}
use Rattle.plan.specs.Limits.{farthest}
use lib.IntN.{pos, ◌-ℤ◌}
use Prim.Native.Nat.{ℕ, ◌+◌}
use native.Mathlib.Omega.{arith}
use mathlib.Core.Path.{◌∙◌, ap}
use Rattle.ends.proofs.moved.Goals as goal

pub raise_at-requires : goal.raise_at-requires
raise_at-requires c = (c.requires.0, omega arith, c.requires.1)

pub overflow_add-raise_at : goal.overflow_add-raise_at
overflow_add-raise_at c = omega (arith, c.raise_at.ensures, moved_low _ c.requires.1 0, c.requires.2)

pub difference-requires : goal.difference-requires
difference-requires c = (omega (arith, c.raise_at.ensures, moved_low _ c.requires.1 0, c.requires.2), omega arith)

pub returns : goal.returns
returns c = moved_back _ c.requires.1 _ _ c.requires.2 (c.difference.ensures ∙ ap (λ (n : ℕ). pos (n + c.args.by) -ℤ pos farthest) c.raise_at.ensures ∙ moved-is _ c.requires.1 _)

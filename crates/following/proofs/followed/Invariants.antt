use Prim.Native.Nat.{◌≤◌}
use Rattle.plan.specs.Limits.{most_steps}
use Rattle.following.proofs.Laws.Follows.{Goes}
use Rattle.following.proofs.Laws.Runs.{weight}
use Rattle.following_turn.specs.Needed.{Arrays, Wrote}
use Rattle.following_turn.specs.Machine.{chain, state_of}
use Rattle.plan.specs.Columns.{table_of}
use lib.ListN.{length}
use mathlib.Core.Path.{◌≡◌}
use Rattle.following.proofs.followed.Given as goal

abbrev pub invariant-loop-path : goal.invariant-loop-path
invariant-loop-path l = Goes (table_of l.t) l.links l.t.kind l.answers (state_of (chain l.path l.at.count) l.at.halt l.at.used l.at.records l.list)
    × Wrote l.initial.at.records l.at.records l.initial.list l.list
    × (most_steps ≤ length l.list)
    × (length l.list ≡ length l.initial.list)
    × Arrays l.path

abbrev pub decreases-loop-path : goal.decreases-loop-path
decreases-loop-path l = weight l.answers (state_of (chain l.path l.at.count) l.at.halt l.at.used l.at.records l.list)

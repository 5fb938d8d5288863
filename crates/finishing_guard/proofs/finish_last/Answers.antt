use mathlib.Core.Path.{sym, subst, ◌∙◌}
use native.Mathlib.Omega.{arith}
use lib.ListN.{length-set}
use Prim.Native.Nat.{ℕ}
use Rattle.joining.specs.Joining.{memory_of}
use Rattle.finishing_guard.specs.Guard.{OwnRows, uncounted}
use Rattle.finishing_guard.proofs.Laws.Guard.{root_ready, root_found, tried_yes, tried_no}
use Rattle.finishing_guard.proofs.finish_last.Goals as goal

pub guarded_own-requires : goal.guarded_own-requires
guarded_own-requires c =
    (omega (arith, c.requires.3), omega (arith, c.requires.4, c.from-d.ensures))

pub bounds-rows-63 : goal.bounds-rows-63
bounds-rows-63 c = omega (arith, c.requires.2)

pub finish_root-requires : goal.finish_root-requires
finish_root-requires c =
    root_ready c.args.rows.now c.args.marks.now _ c.requires.2 c.requires.3 (c.guarded_own.ensures.yes c.if-guarded_own.true)

pub shape_of-rows-then-guarded_own : goal.shape_of-rows-then-guarded_own
shape_of-rows-then-guarded_own c = c.finish_root.auto.rows ∙ length-set {A = ℕ} c.args.rows.now 63 0

pub returns-then-guarded_own : goal.returns-then-guarded_own
returns-then-guarded_own c =
    tried_yes (c.finish_root.ensures ∙ root_found (uncounted (memory_of c.args.rows.now c.args.marks.now)) c.from-d.ensures c.from.ensures)

pub returns : goal.returns
returns c = tried_no (λ g. c.guarded_own.ensures.no c.if-guarded_own.false (subst (λ (d : ℕ). OwnRows c.args.marks.now 0 d 0) (sym c.from-d.ensures) g))

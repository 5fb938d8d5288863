use mathlib.Core.Path.{sym, subst}
use native.Mathlib.Omega.{arith}
use Rattle.rows.specs.Rows.{Low}
use Rattle.finishing_guard.proofs.Laws.Guard.{tells_no, tells_low, part-stretch}
use Rattle.finishing_guard.proofs.guarded.Goals as goal

pub guarded_own-requires : goal.guarded_own-requires
guarded_own-requires c =
    (c.requires.1, c.requires.3)

pub returns-then-not-guarded_own : goal.returns-then-not-guarded_own
returns-then-not-guarded_own c = tells_no (λ g. c.guarded_own.ensures.no c.if-not-guarded_own.true g.own)

pub guarded_parent-requires : goal.guarded_parent-requires
guarded_parent-requires c =
    (c.requires.2, omega (arith, c.requires.3))

pub returns-then-not-guarded_parent : goal.returns-then-not-guarded_parent
returns-then-not-guarded_parent c = tells_no (λ g. c.guarded_parent.ensures.no c.if-not-guarded_parent.true g.theirs)

pub overflow_mul-start : goal.overflow_mul-start
overflow_mul-start c = omega (arith, c.requires.3)

pub joined_rows-requires : goal.joined_rows-requires
joined_rows-requires c =
    (c.requires.2, c.requires.1, omega (arith, (c.guarded_own.ensures.yes c.if-not-guarded_own.false).fit))

pub overflow_mul-end : goal.overflow_mul-end
overflow_mul-end c =
    omega (arith, c.requires.0, c.requires.3, c.joined_rows.ensures, (c.guarded_own.ensures.yes c.if-not-guarded_own.false).fit, (c.guarded_parent.ensures.yes c.if-not-guarded_parent.false).fit)

pub overflow_add-end : goal.overflow_add-end
overflow_add-end c =
    omega (arith, c.requires.0, c.requires.3, c.joined_rows.ensures, (c.guarded_own.ensures.yes c.if-not-guarded_own.false).fit, (c.guarded_parent.ensures.yes c.if-not-guarded_parent.false).fit)

pub offset_bounds-scratch-start : goal.offset_bounds-scratch-start
offset_bounds-scratch-start c =
    omega (arith, c.requires.0, c.requires.3, c.joined_rows.ensures, (c.guarded_own.ensures.yes c.if-not-guarded_own.false).fit, (c.guarded_parent.ensures.yes c.if-not-guarded_parent.false).fit)

pub slice_bounds-all_low-count : goal.slice_bounds-all_low-count
slice_bounds-all_low-count c =
    omega (arith, c.requires.0, c.requires.3, c.joined_rows.ensures, (c.guarded_own.ensures.yes c.if-not-guarded_own.false).fit, (c.guarded_parent.ensures.yes c.if-not-guarded_parent.false).fit)

pub slice_bounds-all_low-start : goal.slice_bounds-all_low-start
slice_bounds-all_low-start c =
    omega (arith, c.requires.0, c.requires.3, c.joined_rows.ensures, (c.guarded_own.ensures.yes c.if-not-guarded_own.false).fit, (c.guarded_parent.ensures.yes c.if-not-guarded_parent.false).fit)

pub slice_bounds-all_low-end : goal.slice_bounds-all_low-end
slice_bounds-all_low-end c =
    omega (arith, c.requires.0, c.requires.3, c.joined_rows.ensures, (c.guarded_own.ensures.yes c.if-not-guarded_own.false).fit, (c.guarded_parent.ensures.yes c.if-not-guarded_parent.false).fit)

pub returns : goal.returns
returns c =
    let e = part-stretch c.args.scratch.now c.args.y c.joined_rows.result _ c.joined_rows.ensures in
    tells_low _ c.all_low.ensures
    (λ l. record { own = c.guarded_own.ensures.yes c.if-not-guarded_own.false; theirs = c.guarded_parent.ensures.yes c.if-not-guarded_parent.false; low = subst Low e l })
    (λ g. subst Low (sym e) g.low)

use mathlib.Core.List.{[]}
use mathlib.Core.Path.{◌≡◌, refl, ◌∙◌}
use Prim.Native.Nat.{◌-◌}
use native.Mathlib.Omega.{arith}
use lib.ListN.{get_or, replicate, get_or-replicate, length-set}
use Rattle.plan.specs.Limits.{most_cells}
use Rattle.plan.specs.Plan.{level, row}
use Rattle.plan.specs.Columns.{table}
use Rattle.plan.proofs.Laws.Trees.{parent_few, seen, seen_most, seen_more, seen-children, level_small, level_value, level-more, row_value, row_more, row_small, first-only}
use Rattle.asking.proofs.tree.survey.Goals as goal

pub loop-c-init : goal.loop-c-init
unfolding seen level row
loop-c-init c =
    let t = c.args.t.now in
    record {
      counts_long = refl;
      levels_long = refl;
      rows_long = refl;
      children_seen = λ f h. get_or-replicate most_cells f 0 0 h;
      levels_found = λ ks ws qs. first-only (replicate most_cells 0) (level (table t.parent ks ws t.depth qs t.count)) refl;
      rows_found = λ ks ws qs. first-only (replicate most_cells 0) (row (table t.parent ks ws t.depth qs t.count)) refl;
    }

pub overflow_add-counts : goal.overflow_add-counts
overflow_add-counts c =
    let l = c.loop-c in
    let ps = c.args.t.now.parent in
    omega (arith, c.requires.lower.few, l.invariant.children_seen (get_or ps l.c 0) (parent_few c.requires.lower l.auto.c c.loop-c-test.true), seen_most ps (l.c - 1) (get_or ps l.c 0))

pub overflow_add-levels : goal.overflow_add-levels
overflow_add-levels c =
    let l = c.loop-c in
    let t = c.args.t.now in
    omega (arith, c.requires.lower.few, level_value t.parent [] [] t.depth [] t.count c.requires.lower l.levels l.c l.auto.c c.loop-c-test.true l.invariant.levels_long (l.invariant.levels_found [] [] []), level_small t.parent [] [] t.depth [] t.count c.requires.lower l.c)

pub overflow_add-rows : goal.overflow_add-rows
overflow_add-rows c =
    let l = c.loop-c in
    let t = c.args.t.now in
    let less = c.loop-c-test.true in
    omega (arith, c.requires.lower.few, c.requires.flat.flat l.c less, row_value t.parent [] [] t.depth [] t.count c.requires.lower l.rows l.c l.auto.c less l.invariant.rows_long (l.invariant.rows_found [] [] []), row_small t.parent [] [] t.depth [] t.count c.requires.lower c.requires.flat l.c less)

pub overflow_add-rows-in-loop-c : goal.overflow_add-rows-in-loop-c
overflow_add-rows-in-loop-c c =
    let l = c.loop-c in
    let t = c.args.t.now in
    let less = c.loop-c-test.true in
    omega (arith, c.requires.lower.few, c.requires.flat.flat l.c less, row_value t.parent [] [] t.depth [] t.count c.requires.lower l.rows l.c l.auto.c less l.invariant.rows_long (l.invariant.rows_found [] [] []), row_small t.parent [] [] t.depth [] t.count c.requires.lower c.requires.flat l.c less)

pub loop-c-preserved : goal.loop-c-preserved
loop-c-preserved c =
    let l = c.loop-c in
    let i = l.invariant in
    let t = c.args.t.now in
    let less = c.loop-c-test.true in
    record {
      counts_long = simp length-set i.counts_long;
      levels_long = simp length-set i.levels_long;
      rows_long = simp length-set i.rows_long;
      children_seen = seen_more t.parent l.counts t.count l.c c.requires.lower l.auto.c less i.counts_long i.children_seen;
      levels_found = λ ks ws qs. level-more t.parent ks ws t.depth qs t.count c.requires.lower l.levels l.c l.auto.c less i.levels_long (i.levels_found ks ws qs);
      rows_found = λ ks ws qs. row_more t.parent ks ws t.depth qs t.count c.requires.lower l.rows l.c l.auto.c less i.rows_long (i.rows_found ks ws qs);
    }

pub returns : goal.returns
returns c = λ ks ws qs.
    let l = c.loop-c in
    let t = c.args.t.now in
    let e : l.c ≡ t.count = omega (arith, c.requires.lower, l.auto.c, l.auto.c-end, c.loop-c-test.false) in (
      record { long = l.invariant.counts_long; each = λ f h. l.invariant.children_seen f (omega (arith, c.requires.lower.few)) ∙ rw e (seen-children t.parent ks ws t.depth qs t.count f) },
      record { long = l.invariant.levels_long; each = λ x h. l.invariant.levels_found ks ws qs x (omega arith) },
      record { long = l.invariant.rows_long; each = λ x h. l.invariant.rows_found ks ws qs x (omega arith) },
    )

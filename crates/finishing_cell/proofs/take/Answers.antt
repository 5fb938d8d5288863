use mathlib.Core.Path.{refl}
use native.Mathlib.Omega.{arith}
use borrow.Author.Rules.{rules}
use lib.ListN.{length}
use mathlib.Core.Path.{◌≡◌}
use Rattle.plan.specs.Limits.{most_cells}
use Rattle.marks.proofs.Laws.Marks.{Long}
use Rattle.layout.proofs.Laws.Laid.{fit_lower, fit_flat}
use Rattle.finishing_order.proofs.Laws.Seeking.{seeking}
use Rattle.finishing_cell.proofs.Laws.Taking.{static, took-yes, took-no}
use Rattle.finishing_cell.proofs.take.Goals as goal
use Rattle.finishing_cell.proofs.take.Goals.{Start}

-- each column has 256 numbers
long : (s : Start) → Long s.args.t.now
long s =
    let t = s.args.t.now in
    let w : length t.width ≡ most_cells = search rules in
    let d : length t.depth ≡ most_cells = search rules in
    record { widths = omega arith; depths = omega arith }

pub survey-found-requires-clause-lower : goal.survey-found-requires-clause-lower
survey-found-requires-clause-lower c = fit_lower c.args.t.now c.requires.0.fit

pub survey-found-requires-clause-flat : goal.survey-found-requires-clause-flat
survey-found-requires-clause-flat c = fit_flat c.args.t.now c.requires.0.fit

pub links_of-links-requires : goal.links_of-links-requires
links_of-links-requires c = c.requires.0.fit

pub seek-s-requires : goal.seek-s-requires
seek-s-requires c =
    (let g = seeking c.args.t.now c.requires.0.fit _ c.links_of-links.ensures in (g.0, g.1, omega (arith, c.requires.1)))

pub bounds-found-f : goal.bounds-found-f
bounds-found-f c =
    (static c.args.t.now c.requires.0.fit (long (goal.at.bounds-found-f c).Start) _ _ _ (c.survey-found.ensures _ _ _).2 (c.survey-found.ensures _ _ _).1 c.links_of-links.ensures c.args.allowance c.args.k c.requires.1 _ _ _ c.seek-s.ensures.0 c.above-f.ensures refl c.args.scratch.now c.args.marks.now c.requires.0.scratch c.requires.0.marks).smallf

pub offset_bounds-found-f : goal.offset_bounds-found-f
offset_bounds-found-f c =
    omega (arith, (static c.args.t.now c.requires.0.fit (long (goal.at.offset_bounds-found-f c).Start) _ _ _ (c.survey-found.ensures _ _ _).2 (c.survey-found.ensures _ _ _).1 c.links_of-links.ensures c.args.allowance c.args.k c.requires.1 _ _ _ c.seek-s.ensures.0 c.above-f.ensures refl c.args.scratch.now c.args.marks.now c.requires.0.scratch c.requires.0.marks).smallf)

pub above-f-requires : goal.above-f-requires
above-f-requires c =
    (static c.args.t.now c.requires.0.fit (long (goal.at.above-f-requires c).Start) _ _ _ (c.survey-found.ensures _ _ _).2 (c.survey-found.ensures _ _ _).1 c.links_of-links.ensures c.args.allowance c.args.k c.requires.1 _ _ _ c.seek-s.ensures.0 refl refl c.args.scratch.now c.args.marks.now c.requires.0.scratch c.requires.0.marks).small

pub finish-done-requires : goal.finish-done-requires
finish-done-requires c =
    static c.args.t.now c.requires.0.fit (long (goal.at.finish-done-requires c).Start) _ _ _ (c.survey-found.ensures _ _ _).2 (c.survey-found.ensures _ _ _).1 c.links_of-links.ensures c.args.allowance c.args.k c.requires.1 _ _ _ c.seek-s.ensures.0 c.above-f.ensures c.from-level.ensures c.args.scratch.now c.args.marks.now c.requires.0.scratch c.requires.0.marks

pub returns-then-done : goal.returns-then-done
returns-then-done c =
    took-yes c.args.t.now c.requires.0.fit (long (goal.at.returns-then-done c).Start) _ _ _ (c.survey-found.ensures _ _ _).2 (c.survey-found.ensures _ _ _).1 c.links_of-links.ensures c.args.allowance c.args.k c.requires.1 _ _ _ c.seek-s.ensures.0 c.above-f.ensures c.from-level.ensures c.args.scratch.now c.args.marks.now c.requires.0.scratch c.requires.0.marks _ c.if-done.true c.finish-done.ensures

pub returns-else-done : goal.returns-else-done
returns-else-done c =
    took-no c.args.t.now c.requires.0.fit (long (goal.at.returns-else-done c).Start) _ _ _ (c.survey-found.ensures _ _ _).2 (c.survey-found.ensures _ _ _).1 c.links_of-links.ensures c.args.allowance c.args.k c.requires.1 _ _ _ c.seek-s.ensures.0 c.above-f.ensures c.from-level.ensures c.args.scratch.now c.args.marks.now c.requires.0.scratch c.requires.0.marks _ c.if-done.false c.finish-done.ensures

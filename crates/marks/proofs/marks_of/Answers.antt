use borrow.Author.Rules.{rules}
use mathlib.Core.Path.{◌≡◌}
use lib.ListN.{length}
use native.Mathlib.Omega.{arith}
use Rattle.plan.specs.Limits.{most_cells}
use Rattle.marks.proofs.Laws.Marks.{Long, walking, marked, toured}
use Rattle.marks.proofs.marks_of.Goals as goal
use Rattle.marks.proofs.marks_of.Goals.{Start}

-- each column has 256 numbers
long : (s : Start) → Long s.args.t
long s =
    let t = s.args.t in
    let w : length t.width ≡ most_cells = search rules in
    let d : length t.depth ≡ most_cells = search rules in
    record { widths = omega arith; depths = omega arith }

pub links_of-links-requires : goal.links_of-links-requires
links_of-links-requires c =
    c.requires.fit

pub walk-requires : goal.walk-requires
walk-requires c =
    let a = c.args in
    let y : length a.tops.now ≡ most_cells = search rules in
    walking a.t a.tops.now a.allowance a.rows.now a.marks.now c.requires (long (goal.at.walk-requires c).Start) _ c.links_of-links.ensures (omega arith) (search rules)

pub returns : goal.returns
returns c =
    let a = c.args in
    let y : length a.tops.now ≡ most_cells = search rules in
    let w = c.walk.ensures in
    let b = c.links_of-links.ensures in
    record { rows_unchanged = marked a.t a.tops.now a.allowance a.rows.now a.marks.now c.requires (long (goal.at.returns c).Start) _ b (omega arith) _ _ w.walked; toured = toured a.t a.tops.now a.allowance a.rows.now a.marks.now c.requires (long (goal.at.returns c).Start) _ b (omega arith) w.visited }

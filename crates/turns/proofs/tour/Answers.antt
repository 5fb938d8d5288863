use Rattle.std.proofs.Common.{◌≡◌, length, refl, arith, rules}
use Rattle.plan.specs.Limits.{most_cells}
use Rattle.marks.proofs.Laws.Marks.{Long, walking}
use Rattle.layout.proofs.Laws.Laid.{markable}
use Rattle.turns.proofs.tour.Goals as goal

pub watch-requires : goal.watch-requires
watch-requires g c =
    let a = c.args in
    let y : length a.tops.now ≡ most_cells = search rules in
    let w : length a.t.width ≡ most_cells = search rules in
    let d : length a.t.depth ≡ most_cells = search rules in
    let long : Long a.t = record { widths = omega arith; depths = omega arith } in
    walking a.t a.tops.now a.allowance _ _ (markable a.t c.requires.fit a.tops.now c.requires.rows _ refl) long _ c.links_of-links.ensures (omega arith) (search rules)

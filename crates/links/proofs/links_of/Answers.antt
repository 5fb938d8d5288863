use borrow.Author.Rules.{rules}
use mathlib.Core.Path.{◌≡◌}
use lib.ListN.{length}
use Rattle.plan.specs.Limits.{most_cells}
use Rattle.links.proofs.Laws.Linked.{linking, linked}
use Rattle.links.proofs.links_of.Goals as goal

pub link_all-requires : goal.link_all-requires
link_all-requires c =
    let t = c.args.t in
    let p : length t.parent ≡ most_cells = search rules in
    let k : length t.kind ≡ most_cells = search rules in
    let r : length t.rank ≡ most_cells = search rules in
    linking t c.requires p k r

pub returns : goal.returns
returns c =
    let t = c.args.t in
    linked t c.requires c.link_all.ensures

use Rattle.links.proofs.Laws.Build.{links-found}
use Rattle.links.proofs.Laws.Built.{counting, appointing, links_are}
use Rattle.links.proofs.link_all.Goals as goal

pub number_siblings-requires : goal.number_siblings-requires
number_siblings-requires c =
    let t = c.args.t.now in
    counting t.parent t.kind t.rank t.count c.args.links.now c.requires c.chain_siblings.ensures

pub appoint-requires : goal.appoint-requires
appoint-requires c =
    let t = c.args.t.now in
    appointing t.parent t.kind t.rank t.count c.args.links.now c.requires c.chain_siblings.ensures c.number_siblings.ensures

pub returns : goal.returns
returns c =
    let t = c.args.t.now in
    links_are t.parent t.kind t.rank t.count c.args.links.now c.requires (links-found t.parent t.kind t.rank c.args.links.now t.count c.chain_siblings.ensures c.number_siblings.ensures c.appoint.ensures)

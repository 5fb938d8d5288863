use Rattle.looking_sights.proofs.Looking.{looked}
use Rattle.looking_sights.proofs.look.Goals as goal

pub returns : goal.returns
returns c = looked c.args.t c.requires.0 c.args.positions.now c.requires.1 c.look_at_tree.ensures c.look_at_placement.ensures

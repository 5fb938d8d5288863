use Rattle.std.proofs.Common.{arith}
use Rattle.places.proofs.Laws.Names.{c_name-put}
use Rattle.places.proofs.c_name.Goals as goal

pub returns : goal.returns
returns c = c_name-put c.put_text.ensures (omega (arith, c.requires))

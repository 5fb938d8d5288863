use Rattle.copying_records.proofs.Laws.Put.{then}
use Rattle.copying_parts.proofs.put_trailer.Goals as goal

pub returns : goal.returns
returns c = then (then (then c.put_pair-a.ensures c.put_pair-b.ensures) c.put_pair-c.ensures) c.put_pair.ensures

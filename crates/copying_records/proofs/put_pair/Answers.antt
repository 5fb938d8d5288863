use Rattle.copying_records.proofs.Laws.Put.{then, put-listed}
use Rattle.copying_records.proofs.put_pair.Goals as goal

pub returns : goal.returns
returns c = then (put-listed c.put_byte-high.ensures) (put-listed c.put_byte.ensures)

use Rattle.copying_records.proofs.Laws.Put.{then, put-listed}
use Rattle.copying_records.proofs.put_old.Goals as goal

pub returns : goal.returns
returns c =
    then (then (then (then (then c.put_pair-a.ensures (put-listed c.put_byte-b.ensures)) (put-listed c.put_byte-c.ensures)) (put-listed c.put_byte-d.ensures)) (put-listed c.put_byte-e.ensures)) c.put_pair.ensures

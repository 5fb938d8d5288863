use Rattle.copying.proofs.Laws.Written.{rows_ready, parts-put, parts-room, trailer_room}
use Rattle.copying.proofs.write.Goals as goal

pub put_records-end-requires : goal.put_records-end-requires
put_records-end-requires c =
    (rows_ready c.args.t.now c.args.letters.now c.requires.0 _ c.form_for-form.ensures, (parts-room c.args.t.now c.args.letters.now c.requires.0 _ _ _ c.put_labels-begin.ensures c.requires.2).1)

pub overflow_cast-last : goal.overflow_cast-last
overflow_cast-last c = record { fits = (parts-room c.args.t.now c.args.letters.now c.requires.0 _ _ _ c.put_labels-begin.ensures c.requires.2).0 }

pub put_trailer-requires : goal.put_trailer-requires
put_trailer-requires c = trailer_room c.args.t.now c.args.letters.now c.requires.0 _ c.form_for-form.ensures _ _ _ _ _ c.put_labels-begin.ensures c.put_records-end.ensures c.requires.2

pub returns : goal.returns
returns c =
    parts-put c.args.t.now c.args.letters.now c.requires.0 _ c.form_for-form.ensures _ _ _ _ _ _ _ _ _ c.put_labels-begin.ensures c.put_records-end.ensures c.mark_of.ensures c.put_trailer.ensures

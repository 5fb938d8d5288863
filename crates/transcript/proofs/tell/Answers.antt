use Rattle.std.proofs.Common.{arith}
use Rattle.transcript.proofs.Laws.Transcript.{within, in_finished, in_spent, in_wrong, in_full, tell_needs, tell_finished, tell_spent, tell_wrong, tell_full, tell_refused}
use Rattle.transcript.proofs.tell.Goals as goal

pub put_drill-requires : goal.put_drill-requires
put_drill-requires c =
    let s = c.requires in
    let k = tell_needs _ _ s.1 (in_finished (within c.in-Ok-Finished.is (rw c.in-Ok-Finished.is at c.in-Ok-Finished.field-0-is))) in
    (s.0, k.0, s.2, omega arith, k.1)

pub returns-in-Ok-Finished : goal.returns-in-Ok-Finished
returns-in-Ok-Finished c = tell_finished _ c.args.list.now (within c.in-Ok-Finished.is (rw c.in-Ok-Finished.is at c.in-Ok-Finished.field-0-is)) c.put_drill.ensures

pub put_drill-requires-in-Ok-Spent : goal.put_drill-requires-in-Ok-Spent
put_drill-requires-in-Ok-Spent c =
    let s = c.requires in
    let k = tell_needs _ _ s.1 (in_spent (within c.in-Ok-Spent.is (rw c.in-Ok-Spent.is at c.in-Ok-Spent.field-0-is))) in
    (s.0, k.0, s.2, omega arith, k.1)

pub returns-in-Ok-Spent : goal.returns-in-Ok-Spent
returns-in-Ok-Spent c = tell_spent _ c.args.list.now (within c.in-Ok-Spent.is (rw c.in-Ok-Spent.is at c.in-Ok-Spent.field-0-is)) c.put_drill-in-Ok-Spent.ensures

pub put_drill-requires-in-Ok-Wrong : goal.put_drill-requires-in-Ok-Wrong
put_drill-requires-in-Ok-Wrong c =
    let s = c.requires in
    let k = tell_needs _ _ s.1 (in_wrong (within c.in-Ok-Wrong.is (rw c.in-Ok-Wrong.is at c.in-Ok-Wrong.field-0-is))) in
    (s.0, k.0, s.2, omega arith, k.1)

pub returns-in-Ok-Wrong : goal.returns-in-Ok-Wrong
returns-in-Ok-Wrong c = tell_wrong _ c.args.list.now (within c.in-Ok-Wrong.is (rw c.in-Ok-Wrong.is at c.in-Ok-Wrong.field-0-is)) c.put_drill-in-Ok-Wrong.ensures

pub put_drill-requires-in-Ok-Full : goal.put_drill-requires-in-Ok-Full
put_drill-requires-in-Ok-Full c =
    let s = c.requires in
    let k = tell_needs _ _ s.1 (in_full (within c.in-Ok-Full.is (rw c.in-Ok-Full.is at c.in-Ok-Full.field-0-is))) in
    (s.0, k.0, s.2, omega arith, k.1)

pub returns-in-Ok-Full : goal.returns-in-Ok-Full
returns-in-Ok-Full c = tell_full _ c.args.list.now (within c.in-Ok-Full.is (rw c.in-Ok-Full.is at c.in-Ok-Full.field-0-is)) c.put_drill-in-Ok-Full.ensures

pub returns-in-Err : goal.returns-in-Err
returns-in-Err c = tell_refused _ c.args.list.now c.in-Err.is c.put_refusal.ensures

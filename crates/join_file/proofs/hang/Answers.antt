use mathlib.Core.Path.{refl}
use Rattle.planfile_spec.specs.Read.{reading}
use Rattle.join_file.proofs.Laws.Steps.{read-ended, letters_few, read_shiftable, joint_is, hang-refused, hang-written}
use Rattle.join_file.proofs.hang.Goals as goal

pub letters-top-requires : goal.letters-top-requires
letters-top-requires c = read-ended _ _ c.requires.0

pub letters-below-requires : goal.letters-below-requires
letters-below-requires c = read-ended _ _ c.requires.1

pub shift-moved-requires : goal.shift-moved-requires
shift-moved-requires c = read_shiftable _ _ c.requires.1 _ (rw c.letters-top.ensures (letters_few _ _ c.requires.0))

pub returns-in_err-joined : goal.returns-in_err-joined
returns-in_err-joined c =
    let a = reading c.args.a.now in
    let b = reading c.args.b.now in
    let s = c.requires in
    hang-refused a c.args.first.now c.args.cell b c.args.second.now s.0 s.1 _ s.2 _ _ (joint_is a c.args.first.now c.args.cell b c.args.second.now s.0 s.1 _ _ _ c.letters-top.ensures c.shift-moved.ensures c.in_err-joined.ensures) c.from_residual.ensures.1

pub write-requires : goal.write-requires
write-requires c =
    let s = c.requires in
    (rw c.letters-top.ensures (letters_few _ _ s.0), rw c.letters-below.ensures (letters_few _ _ s.1))

pub returns : goal.returns
returns c =
    let a = reading c.args.a.now in
    let b = reading c.args.b.now in
    let s = c.requires in
    hang-written a c.args.first.now c.args.cell b c.args.second.now s.0 s.1 _ (joint_is a c.args.first.now c.args.cell b c.args.second.now s.0 s.1 _ _ _ c.letters-top.ensures c.shift-moved.ensures c.in_ok-joined.ensures) _ _ _ _ _ s.2 refl (rw (c.letters-top.ensures, c.letters-below.ensures)) c.write.ensures

use mathlib.Core.Path.{refl}
use Rattle.spans.proofs.Laying.{laying_starts, sharing, laying_turns, laying_ends}
use Rattle.spans.proofs.lay.Goals as goal

pub loop-c-init : goal.loop-c-init
loop-c-init c =
    let a = c.args in
    laying_starts a.t c.requires.fit a.links.now c.requires.links a.size c.requires.sized _ refl

pub lay_children-requires : goal.lay_children-requires
lay_children-requires c =
    let a = c.args in
    let l = c.loop-c in
    sharing a.t c.requires.fit a.links.now c.requires.links a.size c.requires.sized l.invariant c.loop-c-test.true

pub loop-c-preserved : goal.loop-c-preserved
loop-c-preserved c =
    let a = c.args in
    let l = c.loop-c in
    laying_turns a.t c.requires.fit a.links.now c.requires.links a.size c.requires.sized l.invariant c.loop-c-test.true c.lay_children.ensures

pub returns : goal.returns
returns c =
    let a = c.args in
    let l = c.loop-c in
    laying_ends a.t c.requires.fit a.links.now c.requires.links a.size c.requires.sized l.invariant c.loop-c-test.false

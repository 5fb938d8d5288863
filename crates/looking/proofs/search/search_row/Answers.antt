use native.Mathlib.Omega.{arith}
use mathlib.Core.Path.{◌∙◌, sym}
use Rattle.looking.proofs.Searching.{rowing_starts, rowing_turns, rowing_stops, rowing_ends}
use Rattle.looking.proofs.search.search_row.Goals as goal

pub loop-b-init : goal.loop-b-init
loop-b-init c = rowing_starts _ _ _ _ _

pub passes-requires : goal.passes-requires
passes-requires c =
    let s = c.requires.0 in
    (omega (arith, s.few, c.requires.1), rw c.see-v.ensures (s.right_small _ c.requires.1), rw c.see-w.ensures (s.x_small _ c.loop-b-test.true), c.requires.2)

pub returns-then-not-passes : goal.returns-then-not-passes
returns-then-not-passes c = rowing_stops c.loop-b.invariant c.see-v.ensures c.see-w.ensures c.loop-b-test.true (sym c.passes.ensures ∙ c.if-not-passes.true)

pub loop-b-preserved : goal.loop-b-preserved
loop-b-preserved c = rowing_turns c.loop-b.invariant c.see-v.ensures c.see-w.ensures (sym c.passes.ensures ∙ c.if-not-passes.false)

pub returns : goal.returns
returns c = rowing_ends c.loop-b.invariant (omega arith) c.loop-b-test.false

use Rattle.drawing.proofs.Laws.Numbers.{natural-empty, going-starts, going-turns, going_low, going_high, going-ends}
use native.Mathlib.Omega.{arith}
use Rattle.drawing.proofs.natural.Goals as goal

pub returns-then-word-eq0 : goal.returns-then-word-eq0
returns-then-word-eq0 c = natural-empty _ c.if-word-eq0.true

pub loop-i-init : goal.loop-i-init
loop-i-init c = going-starts _ c.if-word-eq0.false

pub returns-then-b-lt48 : goal.returns-then-b-lt48
returns-then-b-lt48 c = going_low c.args.word.now c.loop-i.a c.loop-i.i c.loop-i.invariant (omega arith) c.if-b-lt48.true

pub returns-then-b-gt57 : goal.returns-then-b-gt57
returns-then-b-gt57 c = going_high c.args.word.now c.loop-i.a c.loop-i.i c.loop-i.invariant (omega arith) c.if-b-gt57.true

pub grown-a-requires : goal.grown-a-requires
grown-a-requires c = record { small = c.loop-i.invariant.small; low = c.if-b-lt48.false; high = c.if-b-gt57.false }

pub loop-i-preserved : goal.loop-i-preserved
loop-i-preserved c = going-turns c.args.word.now c.loop-i.a c.loop-i.i c.loop-i.invariant _ (omega arith) c.if-b-lt48.false c.if-b-gt57.false c.grown-a.ensures.0

pub returns : goal.returns
returns c = going-ends c.args.word.now c.loop-i.a c.loop-i.i c.loop-i.invariant (omega arith)

use Rattle.drawing.proofs.Laws.Lines.{passes-empty, passes-hash, passes-later, passes-sheet}
use Rattle.drawing.proofs.passes.Goals as goal

pub returns-then-word-eq0 : goal.returns-then-word-eq0
returns-then-word-eq0 c = passes-empty c.args.first c.args.word.now c.if-word-eq0.true

pub returns-then-word-eq-HASH : goal.returns-then-word-eq-HASH
returns-then-word-eq-HASH c = passes-hash c.args.first c.args.word.now c.if-word-eq0.false c.if-word-eq-HASH.true

pub returns-then-not-first : goal.returns-then-not-first
returns-then-not-first c = passes-later c.args.first c.args.word.now c.if-word-eq0.false c.if-word-eq-HASH.false (c.if-not-first.true)

pub returns : goal.returns
returns c = passes-sheet c.args.first c.args.word.now _ c.if-word-eq0.false c.if-word-eq-HASH.false (c.if-not-first.false) c.begins.ensures

use Rattle.outline.proofs.Laws.Outlined.{outline_short, outline-roomy}
use Rattle.outline.proofs.outline.Goals as goal

pub returns-then-out-lt-OUTLINE_SIZE : goal.returns-then-out-lt-OUTLINE_SIZE
returns-then-out-lt-OUTLINE_SIZE c = outline_short c.args.file.now _ c.if-out-lt-OUTLINE_SIZE.true

pub returns : goal.returns
returns c = outline-roomy _ _ _ _ c.if-out-lt-OUTLINE_SIZE.false c.outlining.ensures

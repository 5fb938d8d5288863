use Rattle.compose_line.proofs.Laws.Cells.{tells_err}
use Rattle.compose_line.proofs.Laws.Lines.{read_unclear, read-odd, read-on, clear_short}
use Rattle.compose_line.proofs.read_line.Goals as goal

pub returns-in_err-clear : goal.returns-in_err-clear
returns-in_err-clear c = tells_err c.args.line.now _ _ _ (read_unclear _ c.args.seen.now c.args.line.now _ c.in_err-clear.ensures) c.from_residual.ensures.1

pub indented-requires : goal.indented-requires
indented-requires c = clear_short 0 c.args.seen.now c.args.line.now _ c.in_ok-clear.ensures

pub worded-requires : goal.worded-requires
worded-requires c = (c.requires, clear_short 0 c.args.seen.now c.args.line.now _ c.in_ok-clear.ensures, c.in-Some.ensures.started)

pub returns-in-None : goal.returns-in-None
returns-in-None c = read-odd _ c.args.seen.now c.args.line.now _ c.in_ok-clear.ensures c.in-None.ensures

pub returns-in-Some : goal.returns-in-Some
returns-in-Some c = read-on _ c.args.seen.now c.args.line.now _ c.in_ok-clear.ensures _ _ c.in-Some.ensures c.worded.ensures

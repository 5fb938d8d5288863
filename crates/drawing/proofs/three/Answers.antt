use Rattle.drawing.proofs.Laws.Numbers.{read_back}
use Rattle.drawing.proofs.Laws.Lines.{corner-cell, corner-x, corner-y, corner-all}
use Rattle.drawing.proofs.three.Goals as goal

pub returns-in_err-cell : goal.returns-in_err-cell
returns-in_err-cell c = rw c.from_residual.ensures (corner-cell c.args.line.now c.args.first c.in_err-cell.ensures)

pub returns-in_err-x : goal.returns-in_err-x
returns-in_err-x c = rw c.from_residual-in_err-x.ensures (corner-x _ _ _ c.next_word-second.ensures c.in_err-x.ensures)

pub returns-in_err-y : goal.returns-in_err-y
returns-in_err-y c = rw c.from_residual-in_err-y.ensures (corner-y _ _ _ c.next_word-second.ensures _ c.next_word-third.ensures c.in_err-y.ensures)

pub returns : goal.returns
returns c =
    rw (read_back _ c.in_ok-x.x c.in_ok-x.ensures, read_back _ c.in_ok-y.y c.in_ok-y.ensures)
    (corner-all _ _ _ c.next_word-second.ensures _ c.next_word-third.ensures _ _ _ c.in_ok-cell.ensures c.in_ok-x.ensures c.in_ok-y.ensures)

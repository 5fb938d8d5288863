use Rattle.compose.proofs.Laws.Composed.{compose_short, compose_wrong, compose_written, compose_refused}
use Rattle.compose.proofs.compose.Goals as goal

pub returns-then-out-lt-MOST_FILE : goal.returns-then-out-lt-MOST_FILE
returns-then-out-lt-MOST_FILE c = compose_short c.args.text.now _ c.if-out-lt-MOST_FILE.true

pub returns-in_err-u : goal.returns-in_err-u
returns-in_err-u c = compose_wrong c.args.text.now _ c.args.out.now c.if-out-lt-MOST_FILE.false _ c.in_err-u.ensures _ c.from_residual.ensures.1

pub returns-in_err-n : goal.returns-in_err-n
returns-in_err-n c = compose_refused c.args.text.now _ c.args.out.now c.if-out-lt-MOST_FILE.false c.in_ok-u.u c.in_ok-u.ensures _ _ (rw c.from.ensures at c.in_err-n.ensures) _ c.from_residual-in_err-n.ensures.1

pub returns : goal.returns
returns c = compose_written c.args.text.now _ c.args.out.now c.if-out-lt-MOST_FILE.false c.in_ok-u.u c.in_ok-u.ensures _ _ (rw c.from.ensures at c.in_ok-n.ensures)

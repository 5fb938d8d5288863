use native.Mathlib.Omega.{arith}
use Rattle.drawing.proofs.Laws.Drawn.{drawn_many, drawn_short, drawn_long, drawn_fault, drawn_missing, drawn_placed, asked_small, zeros_held, zeros-sized}
use Rattle.drawing.proofs.read_drawing.Goals as goal

pub returns-in_err-asked : goal.returns-in_err-asked
returns-in_err-asked c = drawn_many c.args.n c.args.text.now c.args.positions.now _ _ (c.in_err-asked.ensures.numbered (omega arith)) c.from_residual.ensures.1

pub overflow_mul-n : goal.overflow_mul-n
overflow_mul-n c = let few = asked_small 3 _ _ _ (c.in_ok-asked.ensures.numbered (omega arith)) in omega arith

pub returns-in_err-asked-2 : goal.returns-in_err-asked-2
returns-in_err-asked-2 c =
    let few = asked_small 3 _ _ _ (c.in_ok-asked.ensures.numbered (omega arith)) in
    drawn_short c.args.n c.args.text.now c.args.positions.now few _ _ (c.in_err-asked-2.ensures.numbered (omega arith)) c.from_residual-in_err-asked-2.ensures.1

pub returns-then-text-gt-TEXT_SIZE : goal.returns-then-text-gt-TEXT_SIZE
returns-then-text-gt-TEXT_SIZE c =
    let few = asked_small 3 _ _ _ (c.in_ok-asked.ensures.numbered (omega arith)) in
    let room = asked_small 0 _ _ _ (c.in_ok-asked-2.ensures.numbered (omega arith)) in
    drawn_long c.args.n c.args.text.now c.args.positions.now few room c.if-text-gt-TEXT_SIZE.true

pub read_lines-requires : goal.read_lines-requires
read_lines-requires c = (zeros-sized c.args.n (asked_small 3 _ _ _ (c.in_ok-asked.ensures.numbered (omega arith))), zeros_held 512, c.if-text-gt-TEXT_SIZE.false)

pub returns-in_err-read_lines : goal.returns-in_err-read_lines
returns-in_err-read_lines c =
    let few = asked_small 3 _ _ _ (c.in_ok-asked.ensures.numbered (omega arith)) in
    let room = asked_small 0 _ _ _ (c.in_ok-asked-2.ensures.numbered (omega arith)) in
    drawn_fault c.args.n c.args.text.now c.args.positions.now few room c.if-text-gt-TEXT_SIZE.false _ _ _ c.in_err-read_lines.ensures _ c.from_residual-in_err-read_lines.ensures.1

pub lowest-requires : goal.lowest-requires
lowest-requires c = omega (arith, c.read_lines.auto, asked_small 3 _ _ _ (c.in_ok-asked.ensures.numbered (omega arith)))

pub returns-in-Some : goal.returns-in-Some
returns-in-Some c =
    let few = asked_small 3 _ _ _ (c.in_ok-asked.ensures.numbered (omega arith)) in
    let room = asked_small 0 _ _ _ (c.in_ok-asked-2.ensures.numbered (omega arith)) in
    drawn_missing c.args.n c.args.text.now c.args.positions.now few room c.if-text-gt-TEXT_SIZE.false _ _ _ c.in_ok-read_lines.ensures _ c.in-Some.ensures

pub put_moved-requires : goal.put_moved-requires
put_moved-requires c =
    let few = asked_small 3 _ _ _ (c.in_ok-asked.ensures.numbered (omega arith)) in
    let room = asked_small 0 _ _ _ (c.in_ok-asked-2.ensures.numbered (omega arith)) in
    (c.read_lines.ensures.held, omega (arith, c.read_lines.auto), room)

pub returns : goal.returns
returns c =
    let few = asked_small 3 _ _ _ (c.in_ok-asked.ensures.numbered (omega arith)) in
    let room = asked_small 0 _ _ _ (c.in_ok-asked-2.ensures.numbered (omega arith)) in
    drawn_placed c.args.n c.args.text.now c.args.positions.now few room c.if-text-gt-TEXT_SIZE.false _ _ _ c.in_ok-read_lines.ensures c.in_default.ensures _ c.put_moved.ensures _

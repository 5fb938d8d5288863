use mathlib.Core.Path.{sym, ◌∙◌}
use native.Mathlib.Omega.{arith}
use Rattle.drawing.proofs.Laws.Turns.{turned_goes, turned_stops, reads-stops, reads_all}
use Rattle.drawing.proofs.read_lines.Goals as goal

pub returns-in_err-turn : goal.returns-in_err-turn
returns-in_err-turn c =
    let l = c.loop-at in
    reads-stops c.args.n c.args.text.now _ _ l.k l.at l.given l.places l.invariant.same _
    (turned_stops c.args.n c.args.text.now l.k l.at _ l.given l.places c.loop-at-test.true c.line_end-end.ensures.0 _ _ _ c.in_err-turn.ensures) _ _ c.turn.ensures.held _ c.from_residual.ensures.1

pub loop-at-preserved : goal.loop-at-preserved
loop-at-preserved c =
    let l = c.loop-at in
    record {
      counted = omega (arith, l.invariant.counted, c.line_end-end.ensures);
      same = sym (turned_goes c.args.n c.args.text.now l.k l.at _ l.given l.places c.loop-at-test.true c.line_end-end.ensures.0 _ _ _ c.in_ok-turn.ensures) ∙ l.invariant.same;
      held = c.turn.ensures.held;
    }

pub returns : goal.returns
returns c =
    let l = c.loop-at in
    reads_all c.args.n c.args.text.now _ _ l.k l.at l.given l.places l.invariant.same c.loop-at-test.false l.invariant.held _

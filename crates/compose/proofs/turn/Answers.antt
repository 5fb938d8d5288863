use Rattle.compose.proofs.Laws.Lines.{line-here}
use lib.ListN.{length}
use mathlib.Core.Path.{◌≡◌, refl}
use Rattle.compose.proofs.Laws.Turns.{turn_many, turn_wrong, turn_more}
use Rattle.compose.specs.State.{Long}
use Rattle.compose.proofs.turn.Goals as goal

pub returns-then-c-ge-MOST_CELLS : goal.returns-then-c-ge-MOST_CELLS
returns-then-c-ge-MOST_CELLS c = turn_many c.args.text.now c.args.letters.now c.args.s c.requires.0 c.requires.1 c.if-c-ge-MOST_CELLS.true

pub returns-in_err-told : goal.returns-in_err-told
returns-in_err-told c = turn_wrong c.args.text.now c.args.letters.now c.args.s c.requires.0 c.requires.1 c.if-c-ge-MOST_CELLS.false _ (line-here c.args.text.now c.args.s.at c.line_end-end.result c.line_end-end.ensures.0) _ refl c.requires.0.seen _ c.in_err-told.ensures _ c.from_residual.ensures.1

pub returns : goal.returns
returns c =
    let g : Long c.args.s.table = c.requires.0.long in
    let v : length c.args.s.levels ≡ 256 = c.requires.0.seen in
    turn_more c.args.text.now c.args.letters.now c.args.s c.requires.0 c.requires.1 c.if-c-ge-MOST_CELLS.false _ (line-here c.args.text.now c.args.s.at c.line_end-end.result c.line_end-end.ensures.0) _ refl v c.in_ok-told.told c.in_ok-told.ensures g c.requires.2 _ _ c.keep_label-used.ensures c.line_end-end.result c.line_end-end.ensures.0 _ (rw (c.noted.ensures, c.past_line.ensures) refl)

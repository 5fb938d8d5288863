use native.Mathlib.Omega.{arith}
use Rattle.printing.proofs.Laws.Taken.{taken_few, taken_drawable}
use Rattle.planfile_spec.specs.Read.{reading}
use Rattle.svg.proofs.Laws.Drawing.{taken_fit, taken-near, drawn_ours, wide_is, high_is, ours_are, sheet-put}
use borrow.Author.Rules.{rules}
use Rattle.svg.proofs.write_sheet.Goals as goal

pub draw_over_zeros-sheet-requires : goal.draw_over_zeros-sheet-requires
draw_over_zeros-sheet-requires c = (taken_drawable _ _ c.requires.0 _ _ (search rules) (omega arith), search rules)

pub put_head-a-requires : goal.put_head-a-requires
put_head-a-requires c = omega (arith, c.requires.1)

pub put_strokes-b-requires : goal.put_strokes-b-requires
put_strokes-b-requires c = (taken_fit _ _ c.requires.0, taken-near _ _ c.requires.0 _ (drawn_ours _ _ c.requires.0 c.draw_over_zeros-sheet.ensures) (omega (arith, c.draw_over_zeros-sheet.auto)), omega (arith, c.requires.1, c.put_head-a.ensures.1, taken_few _ _ c.requires.0))

pub put_labels_head-c-requires : goal.put_labels_head-c-requires
put_labels_head-c-requires c = omega (arith, c.requires.1, c.put_head-a.ensures.1, c.put_strokes-b.ensures.1, taken_few _ _ c.requires.0)

pub put_labels-d-requires : goal.put_labels-d-requires
put_labels-d-requires c = (taken_fit _ _ c.requires.0, taken-near _ _ c.requires.0 _ (drawn_ours _ _ c.requires.0 c.draw_over_zeros-sheet.ensures) (omega (arith, c.draw_over_zeros-sheet.auto)), omega (arith, c.requires.1, c.put_head-a.ensures.1, c.put_strokes-b.ensures.1, c.put_labels_head-c.ensures.1, taken_few _ _ c.requires.0))

pub put_text-requires : goal.put_text-requires
put_text-requires c = omega (arith, c.requires.1, c.put_head-a.ensures.1, c.put_strokes-b.ensures.1, c.put_labels_head-c.ensures.1, c.put_labels-d.ensures.1, taken_few _ _ c.requires.0)

pub returns : goal.returns
returns c = (
  sheet-put (reading c.args.plan) c.args.page c.args.file.now _ _ _ _ _ (ours_are _ _ _ (drawn_ours _ _ c.requires.0 c.draw_over_zeros-sheet.ensures)) (wide_is _ _ c.requires.0 c.draw_over_zeros-sheet.ensures) (high_is _ _ c.requires.0 c.draw_over_zeros-sheet.ensures) c.side-wide.ensures c.side-high.ensures
      c.put_head-a.ensures.0 c.put_strokes-b.ensures.0 c.put_labels_head-c.ensures.0 c.put_labels-d.ensures.0 c.put_text.ensures,
  omega (arith, c.put_head-a.ensures.1, c.put_strokes-b.ensures.1, c.put_labels_head-c.ensures.1, c.put_labels-d.ensures.1, c.put_text.ensures.place, taken_few _ _ c.requires.0),
)

use mathlib.Core.Path.{refl}
use native.Mathlib.Omega.{arith}
use Rattle.frame_text.proofs.Laws.FrameText.{drawn_measures, table_drawable}
use borrow.Author.Rules.{rules}
use Rattle.frame_text.proofs.measured.Goals as goal

pub draw_over_zeros-requires : goal.draw_over_zeros-requires
draw_over_zeros-requires c = (table_drawable _ c.requires _ _ (search rules) (omega arith), refl)

pub returns : goal.returns
returns c = drawn_measures _ _ c.draw_over_zeros.ensures

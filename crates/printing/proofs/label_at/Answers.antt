use mathlib.Core.Path.{refl}
use native.Mathlib.Omega.{arith}
use Rattle.printing.proofs.Laws.Taken.{taken_few, label_inside, label_there}
use Rattle.printing.proofs.label_at.Goals as goal

pub offset_bounds-plan-c : goal.offset_bounds-plan-c
offset_bounds-plan-c c = omega (arith, c.requires.0, taken_few _ _ c.requires.1)

pub bounds-plan-c : goal.bounds-plan-c
bounds-plan-c c = omega (arith, c.requires.0, taken_few _ _ c.requires.1)

pub bounds-plan-c-2 : goal.bounds-plan-c-2
bounds-plan-c-2 c = omega (arith, c.requires.0, taken_few _ _ c.requires.1)

pub overflow_add-end : goal.overflow_add-end
overflow_add-end c = omega (arith, label_inside _ _ c.requires.1 _ c.requires.0)

pub slice_bounds-result-end : goal.slice_bounds-result-end
slice_bounds-result-end c = omega (arith, label_inside _ _ c.requires.1 _ c.requires.0)

pub returns : goal.returns
returns c = label_there _ _ c.requires.1 _ c.requires.0 _ _ refl refl

use Rattle.joining.specs.Joining.{memory_of}
use Rattle.joining.proofs.Laws.Joining.{at_first, at-later}
use native.Mathlib.Omega.{arith}
use mathlib.Core.Path.{◌∙◌, sym}
use Rattle.joining.proofs.settle.Goals as goal

pub returns-then-place-eq0 : goal.returns-then-place-eq0
returns-then-place-eq0 c =
    let a = c.args in
    c.settle_first.ensures ∙ sym (at_first (memory_of a.rows.now a.marks.now) a.at a.f a.c a.hs a.place a.apt a.allowance (omega arith))

pub returns : goal.returns
returns c =
    let a = c.args in
    c.settle_later.ensures ∙ sym (at-later (memory_of a.rows.now a.marks.now) a.at a.f a.c a.hs a.place a.apt a.allowance (omega arith))

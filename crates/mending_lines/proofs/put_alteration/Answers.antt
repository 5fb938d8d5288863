use mathlib.Core.Path.{sym, ◌∙◌}
use native.Mathlib.Omega.{arith}
use Rattle.mending_lines.proofs.Laws.Code.{line-fits, line-put, no-line-put}
use borrow.Author.Rules.{rules}
use Rattle.mending_lines.proofs.put_alteration.Goals as goal

pub put_line-requires : goal.put_line-requires
put_line-requires c =
    let l = line-fits c.args.cell c.args.r (c.from.ensures, search rules) (c.from-then-changed.ensures, search rules) (c.from-then-changed-2.ensures ∙ c.new_width.ensures, omega (arith, c.from-then-changed-2.ensures, c.new_width.type_inv)) (c.from-then-changed-3.ensures ∙ c.new_depth.ensures, omega (arith, c.from-then-changed-3.ensures, c.new_depth.type_inv)) _ c.mended_line-line.ensures.0 c.requires.0 in
    (record { long = search rules; inside = c.mended_line-line.ensures.1 }, omega (arith, l, c.requires.1))

pub returns-then-changed : goal.returns-then-changed
returns-then-changed c =
    line-put c.args.cell c.args.r (c.from.ensures, search rules) (c.from-then-changed.ensures, search rules) (c.from-then-changed-2.ensures ∙ c.new_width.ensures, omega (arith, c.from-then-changed-2.ensures, c.new_width.type_inv)) (c.from-then-changed-3.ensures ∙ c.new_depth.ensures, omega (arith, c.from-then-changed-3.ensures, c.new_depth.type_inv)) _ c.mended_line-line.ensures.0 c.requires.0 (sym c.changed.ensures ∙ c.if-changed.true) c.put_line.ensures

pub returns : goal.returns
returns c = no-line-put _ _ (sym c.changed.ensures ∙ c.if-changed.false) _ _

use Rattle.finishing_order.specs.Order.{leaf}
use Rattle.finishing_order.proofs.Laws.Order.{after_root, after-some, enter-none, enter-some}
use Rattle.links.specs.Links.{link}
use lib.ListN.{get_or}
use mathlib.Core.Path.{sym, ap, ◌∙◌}
use native.Mathlib.Omega.{arith}
use Rattle.finishing_order.proofs.after.Goals as goal

pub returns-then-c-eq0 : goal.returns-then-c-eq0
returns-then-c-eq0 c = sym (after_root c.args.links.now c.args.parents.now c.args.c c.if-c-eq0.true)

pub returns-then-s-eq0 : goal.returns-then-s-eq0
returns-then-s-eq0 c = rw c.from.ensures (sym (enter-none c.args.links.now _ _ (sym c.link_of-s.ensures ∙ c.if-s-eq0.true)) ∙ sym (after-some c.args.links.now c.args.parents.now c.args.c (omega (arith, c.if-c-eq0.false))))

pub leaf-requires : goal.leaf-requires
leaf-requires c = (c.requires.0.falls, rw c.link_of-s.ensures (c.requires.0.sibling c.args.c c.requires.1 (omega (arith, c.if-c-eq0.false)) (omega (arith, c.link_of-s.ensures, c.if-s-eq0.false))))

pub returns : goal.returns
returns c = c.leaf.ensures ∙ ap (leaf c.args.links.now) c.link_of-s.ensures ∙ sym (enter-some c.args.links.now (get_or c.args.parents.now c.args.c 0) (link c.args.links.now c.args.c 1) (omega (arith, c.link_of-s.ensures, c.if-s-eq0.false))) ∙ sym (after-some c.args.links.now c.args.parents.now c.args.c (omega (arith, c.if-c-eq0.false)))

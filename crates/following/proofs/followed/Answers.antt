use Rattle.std.proofs.Common.{◌≡◌, List, ℕ, length, refl, ◌∙◌, sym, arith, rules}
use Rattle.plan.specs.declared.Columns.{Columns}
use Rattle.plan.specs.Columns.{table_of}
use Rattle.plan.specs.Fit.{Fit}
use Rattle.plan.proofs.Laws.Tables.{kind-is, length-is}
use Rattle.links.specs.Links.{Links}
use Rattle.following_turn.specs.Machine.{chain}
use Rattle.following_turn.proofs.Laws.Machine.{wrote_none}
use Rattle.following.proofs.Laws.Follows.{Reads, goes-start, goes_turning, goes_turn, goes_less, goes_end, goes-both, wrote_more}
use Rattle.following.proofs.followed.Goals as goal

-- the table that the columns are of
given : (t : Columns) (ls : List ℕ) → Fit (table_of t) → Links (table_of t) ls → length t.kind ≡ 256 → Reads (table_of t) ls t.kind
given t ls f l k =
    record { fit = f; links = l; kind_of = λ c i. sym (kind-is t c (omega (arith, length-is t))); long = omega arith }

pub loop-path-init : goal.loop-path-init
loop-path-init c =
    let k : length c.args.t.now.kind ≡ 256 = search rules in
    let e = c.entered-at.ensures in (
      goes-start (table_of c.args.t.now) _ _ c.args.answers.now (given c.args.t.now _ c.requires.0 c.requires.1 k) (chain _ 0) refl c.args.list.now e.list_after,
      wrote_none _ _ e.wrote.0.few,
      omega (arith, c.entered-at.auto.list, c.requires.2),
      refl,
      e.wrote.1,
    )

pub turn-at-requires : goal.turn-at-requires
turn-at-requires c =
    let a = c.args in
    let l = c.loop-path in
    let g = goes-both c.goes_on.result l.at.halt l.at.count c.goes_on.ensures c.loop-path-test.true in
    (goes_turning (table_of a.t.now) _ _ a.answers.now (chain l.path l.at.count) l.at.used l.at.records l.list g.1 (rw g.0 at l.invariant.0) l.invariant.1.few l.invariant.2, l.invariant.4)

pub loop-path-smaller : goal.loop-path-smaller
loop-path-smaller c =
    let a = c.args in
    let l = c.loop-path in
    let g = goes-both c.goes_on.result l.at.halt l.at.count c.goes_on.ensures c.loop-path-test.true in
    rw g.0 (goes_less (table_of a.t.now) a.links.now a.t.now.kind a.answers.now (chain l.path l.at.count) l.at.used l.at.records l.list g.1 (rw g.0 at l.invariant.0) c.turn-at.ensures.list_after)

pub loop-path-preserved : goal.loop-path-preserved
loop-path-preserved c =
    let a = c.args in
    let l = c.loop-path in
    let g = goes-both c.goes_on.result l.at.halt l.at.count c.goes_on.ensures c.loop-path-test.true in (
      goes_turn (table_of a.t.now) a.links.now a.t.now.kind a.answers.now (chain l.path l.at.count) l.at.used l.at.records l.list g.1 (rw g.0 at l.invariant.0) c.turn-at.ensures.list_after,
      wrote_more l.invariant.1 c.turn-at.ensures.wrote.0,
      omega (arith, c.turn-at.auto.list, l.invariant.2),
      c.turn-at.auto.list ∙ l.invariant.3,
      c.turn-at.ensures.wrote.1,
    )

pub returns : goal.returns
returns c =
    let a = c.args in
    let l = c.loop-path in (
      goes_end (table_of a.t.now) a.links.now a.t.now.kind a.answers.now (chain l.path l.at.count) l.at.halt l.at.used l.at.records l.list l.invariant.0 (sym c.goes_on.ensures ∙ c.loop-path-test.false),
      wrote_more c.entered-at.ensures.wrote.0 l.invariant.1,
    )

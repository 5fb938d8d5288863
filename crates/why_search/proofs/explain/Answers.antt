use Rattle.why_search.proofs.Explaining.{explains_none, count_less, last_less, cells-inside, explains_some}
use native.Mathlib.Omega.{arith}
use Rattle.plan.proofs.Laws.Tables.{count-some, count_few}
use Rattle.why_search.proofs.explain.Goals as goal

pub span_of-span-requires : goal.span_of-span-requires
span_of-span-requires c = let h = c.requires.0 in (count-some c.args.t h, count_few c.args.t h)

pub returns-in_err-way : goal.returns-in_err-way
returns-in_err-way c = rw c.from_residual.ensures (explains_none c.args.t c.requires.0 c.args.positions.now c.args.allowance c.requires.3 _ c.look.ensures.0 _ _ c.span_of-span.ensures c.in_err-way.ensures)

pub trace-cells-requires : goal.trace-cells-requires
trace-cells-requires c =
    let a = c.args in (
      c.look.ensures.1,
      omega (arith, c.requires.2),
      count_less a.t c.requires.0 a.positions.now a.allowance c.requires.3 _ c.look.ensures.0 _ _ c.span_of-span.ensures _ c.in_ok-way.ensures,
      last_less a.t c.requires.0 a.positions.now a.allowance c.requires.3 _ c.look.ensures.0 _ _ c.span_of-span.ensures _ c.in_ok-way.ensures,
    )

pub rules_of-rules-requires : goal.rules_of-rules-requires
rules_of-rules-requires c =
    let a = c.args in (
      c.look.ensures.1,
      omega (arith, c.requires.2),
      count_less a.t c.requires.0 a.positions.now a.allowance c.requires.3 _ c.look.ensures.0 _ _ c.span_of-span.ensures _ c.in_ok-way.ensures,
      cells-inside a.t c.requires.0 a.positions.now a.allowance c.requires.3 _ c.look.ensures.0 _ _ c.span_of-span.ensures _ c.in_ok-way.ensures _ c.trace-cells.ensures,
    )

pub returns : goal.returns
returns c =
    explains_some c.args.t c.requires.0 c.args.positions.now c.args.allowance c.requires.3 _ c.look.ensures.0 _ _ c.span_of-span.ensures _ c.in_ok-way.ensures _ c.trace-cells.ensures _ c.rules_of-rules.ensures

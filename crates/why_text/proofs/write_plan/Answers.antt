use native.Mathlib.Omega.{arith}
use Rattle.printing.proofs.Laws.Taken.{taken_drawable}
use Rattle.why_text.proofs.Laws.Text.{plan-asked, plan_chain, plan_reasoned, plan-text}
use borrow.Author.Rules.{rules}
use Rattle.why_text.proofs.write_plan.Goals as goal

pub draw_over_zeros-drawn-requires : goal.draw_over_zeros-drawn-requires
draw_over_zeros-drawn-requires c = (taken_drawable _ _ c.requires.0 _ _ (search rules) (omega arith), search rules)

pub explain-requires : goal.explain-requires
explain-requires c = plan-asked _ _ c.requires.0 c.draw_over_zeros-drawn.ensures (omega (arith, c.draw_over_zeros-drawn.auto))

pub unwrap-chain-requires : goal.unwrap-chain-requires
unwrap-chain-requires c = plan_chain _ _ c.requires.0 c.draw_over_zeros-drawn.ensures (omega (arith, c.draw_over_zeros-drawn.auto)) _ c.explain.ensures

pub write_chain-requires : goal.write_chain-requires
write_chain-requires c =
    (plan_reasoned _ _ c.requires.0 c.draw_over_zeros-drawn.ensures (omega (arith, c.draw_over_zeros-drawn.auto)) _ c.explain.ensures c.unwrap-chain.ensures, omega (arith, c.requires.1))

pub returns : goal.returns
returns c = (plan-text _ _ c.requires.0 c.draw_over_zeros-drawn.ensures (omega (arith, c.draw_over_zeros-drawn.auto)) c.write_chain.ensures.0, c.write_chain.ensures.1)

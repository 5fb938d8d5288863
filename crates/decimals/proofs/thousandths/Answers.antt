use Rattle.std.proofs.Common.{T, sym, subst}
use lib.Ieee.{of_bits, neg}
use Rattle.decimals.proofs.Laws.Fixed.{held, not_low, not_high}
use Rattle.decimals.proofs.thousandths.Goals as goal

pub truncating_f64_to_u64-requires-clause-lower_bound : goal.truncating_f64_to_u64-requires-clause-lower_bound
unfolding of_bits neg
truncating_f64_to_u64-requires-clause-lower_bound c = subst T (sym c.if-y.true) tt

pub truncating_f64_to_u64-requires-clause-upper_bound : goal.truncating_f64_to_u64-requires-clause-upper_bound
unfolding of_bits neg
truncating_f64_to_u64-requires-clause-upper_bound c = subst T (sym c.if-y-2.true) tt

pub returns-then-y-2 : goal.returns-then-y-2
unfolding of_bits neg
returns-then-y-2 c = held _ _ c.scaled-y.ensures _ c.if-y.true c.if-y-2.true c.truncating_f64_to_u64.ensures

pub returns-else-y-2 : goal.returns-else-y-2
unfolding of_bits neg
returns-else-y-2 c = not_high _ _ c.scaled-y.ensures c.if-y.true c.if-y-2.false

pub returns-else-y : goal.returns-else-y
unfolding of_bits neg
returns-else-y c = not_low _ _ c.scaled-y.ensures c.if-y.false

use Rattle.why_search.proofs.Chains.{inside_few, between}
use Rattle.why_layers.proofs.Seeking.{ready}
use mathlib.Core.Path.{◌∙◌}
use Prim.Native.Nat.{◌+◌}
use native.Mathlib.Omega.{arith}
use Rattle.why_search.proofs.between.rule_at.Goals as goal

pub see-v-requires : goal.see-v-requires
see-v-requires c = let h = c.requires in inside_few _ _ _ _ c.args.j h.0 h.3 (omega (arith, h.4))

pub see-w-requires : goal.see-w-requires
see-w-requires c = let h = c.requires in inside_few _ _ _ _ (c.args.j + 1) h.0 h.3 (omega (arith, h.4))

pub rule_of-requires : goal.rule_of-requires
rule_of-requires c = let h = c.requires in rw (c.see-v.ensures, c.see-w.ensures) (ready _ _ _ _ _ h.0 (h.3.inside c.args.j (omega (arith, h.4))) (h.3.inside (c.args.j + 1) (omega (arith, h.4))) h.1)

pub returns : goal.returns
returns c = c.unwrap_or.ensures ∙ between _ _ _ _ _ _ _ c.see-v.ensures c.see-w.ensures c.rule_of.ensures

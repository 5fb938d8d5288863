use native.Mathlib.Omega.{arith}
use Rattle.looking.proofs.Searching.{none, rule_kept, rule_broken, last_rule}
use Rattle.looking.proofs.search.search.Goals as goal

pub returns-in_err-search_rule : goal.returns-in_err-search_rule
returns-in_err-search_rule c = rule_broken none c.in_err-search_rule.ensures c.from_residual.ensures.1 (omega arith)

pub returns-in_err-search_rule-2 : goal.returns-in_err-search_rule-2
returns-in_err-search_rule-2 c = rule_broken (rule_kept none c.in_ok-search_rule.ensures) c.in_err-search_rule-2.ensures c.from_residual-in_err-search_rule-2.ensures.1 (omega arith)

pub returns-in_err-search_rule-3 : goal.returns-in_err-search_rule-3
returns-in_err-search_rule-3 c = rule_broken (rule_kept (rule_kept none c.in_ok-search_rule.ensures) c.in_ok-search_rule-2.ensures) c.in_err-search_rule-3.ensures c.from_residual-in_err-search_rule-3.ensures.1 (omega arith)

pub returns-in_err-search_rule-4 : goal.returns-in_err-search_rule-4
returns-in_err-search_rule-4 c =
    rule_broken (rule_kept (rule_kept (rule_kept none c.in_ok-search_rule.ensures) c.in_ok-search_rule-2.ensures) c.in_ok-search_rule-3.ensures)
    c.in_err-search_rule-4.ensures c.from_residual-in_err-search_rule-4.ensures.1 (omega arith)

pub returns : goal.returns
returns c =
    last_rule _ (rule_kept (rule_kept (rule_kept (rule_kept none c.in_ok-search_rule.ensures) c.in_ok-search_rule-2.ensures) c.in_ok-search_rule-3.ensures) c.in_ok-search_rule-4.ensures)
    c.search_rule-5.ensures

use Rattle.std.specs.Prelude.{◌≡◌, ℕ, ◌<◌, length, ltb, Ok, ⊤}
use Rattle.std.proofs.Common.{sym, ap, ◌∙◌, arith}
use Rattle.std.proofs.Math.Dec.{ltb→lt}
use Rattle.plan.specs.declared.Columns.{Columns}
use Rattle.plan.specs.Questions.{asked, passed}
use Rattle.plan.proofs.Laws.Questions.{asked_yes}
use Rattle.plan.specs.Columns.{table_of}
use Rattle.plan.proofs.Laws.Answered.{passes}
use Rattle.plan.proofs.Laws.Tables.{length-is}
use Rattle.finishing_asks.proofs.Laws.Asks.{start-asks}
use Rattle.finishing_reach.proofs.Laws.Reaching.{reach-refused, reach_unnamed, reach-read}
use Rattle.finishing_reach.proofs.reach.Goals as goal

pub returns-in_err-start_refusal : goal.returns-in_err-start_refusal
returns-in_err-start_refusal c =
    reach-refused (table_of c.args.t.now) c.args.allowance c.args.scratch.now c.args.second.now c.args.cell _ _ c.in_err-start_refusal.ensures c.from_residual.ensures.1

-- question 16, of the table that the columns are
named : (t : Columns) (c : ℕ) → passed (asked 16 (ltb c t.count) 0) ≡ passed (asked 16 (ltb c (length (table_of t))) 0)
named t c = ap (λ (n : ℕ). passed (asked 16 (ltb c n) 0)) (sym (length-is t))

inside : (t : Columns) (c : ℕ) (u : ⊤) → Ok u ≡ passed (asked 16 (ltb c t.count) 0) → c < t.count
inside t c u h = ltb→lt c t.count (asked_yes 15 _ 0 (passes _ u h))

pub returns-in_err-asked : goal.returns-in_err-asked
returns-in_err-asked c =
    reach_unnamed (table_of c.args.t.now) c.args.allowance c.args.scratch.now c.args.second.now c.args.cell _ c.in_ok-start_refusal.ensures _ _
    (c.in_err-asked.ensures.numbered (omega arith) ∙ named c.args.t.now c.args.cell) c.from_residual-in_err-asked.ensures.1

pub reading-requires : goal.reading-requires
reading-requires c =
    let (fit, long, second) = start-asks (table_of c.args.t.now) c.args.allowance c.args.scratch.now c.args.second.now (passes _ _ c.in_ok-start_refusal.ensures) in
    (fit, omega (arith, long), second, inside c.args.t.now c.args.cell _ (c.in_ok-asked.ensures.numbered (omega arith)))

pub returns : goal.returns
returns c =
    let q = c.in_ok-asked.ensures.numbered (omega arith) in
    reach-read (table_of c.args.t.now) c.args.allowance c.args.scratch.now c.args.second.now c.args.cell _ c.in_ok-start_refusal.ensures _ (q ∙ named c.args.t.now c.args.cell)
    (omega (arith, inside c.args.t.now c.args.cell _ q, length-is c.args.t.now)) c.reading.ensures

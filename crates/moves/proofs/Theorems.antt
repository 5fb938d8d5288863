-- WHAT IS PROVED OF THE DRILL (document 02, E12), for every table that its questions do not refuse and every answer list. Assumes nothing.
use Rattle.std.specs.Prelude.{◌≡◌, ◌↔◌, List, ◌++◌, ℕ, suc, ◌≤◌, length, take}
use Rattle.plan.specs.Limits.{most_level, most_steps}
use Rattle.plan.specs.Plan.{Table, Is, kind, children}
use Rattle.plan.specs.Fit.{Fit}
use Rattle.moves.specs.Drill.{Outcome, finished, spent, wrong, full, Drill, unless_ended, by_kind, does, doing, drill_of}
use Rattle.moves.specs.Moves.{Stand, Reached, Stops, Ends, stopped, Spends, StepsOf}
use Rattle.moves.proofs.Laws.Drill as drill
use Rattle.moves.proofs.Laws.Passes as passes
use Rattle.moves.proofs.Laws.Moves as moves
use Rattle.moves.proofs.Laws.Beyond as beyond
use Rattle.moves.proofs.Laws.Steps as steps

module _ (t : Table) (fit : Fit t) (bs : List ℕ) where
  -- ---- the definition's levels never run out
  -- 32 levels are enough: with more, the drill is the same
  pub levels_enough : (m : ℕ) → suc most_level ≤ m → (d : Drill) → does t bs m 0 d ≡ doing t bs 0 d
  levels_enough = drill.levels_enough t fit bs

  -- so a cell does what its kind says, and its children do what theirs say: the definition without a number of levels
  pub cell-does : (c : ℕ) → Is t c → (d : Drill) → doing t bs c d ≡ unless_ended d.outcome (by_kind bs (doing t bs) (kind t c) c (children t c)) d
  cell-does = drill.doing-is t fit bs

  -- a pass through a cell ends the drill, or uses an answer byte or records a step
  pub every_pass : (c : ℕ) → Is t c → (d : Drill) → Spends d (doing t bs c d)
  every_pass = passes.every_pass t fit bs

  -- ---- "Each move is the one that this description dictates"
  -- the drill ends where the moves stop, with the bytes used and the steps recorded there
  pub ends_there : {o : Outcome} {p : Stand} → Reached t bs p → Stops t bs o p → drill_of t bs ≡ stopped o p
  ends_there = moves.ends_there t bs fit

  -- "finished" exactly when the moves reach a stand with nothing left to do,
  pub finished_exactly : ((drill_of t bs).outcome ≡ finished) ↔ Ends t bs finished
  finished_exactly = moves.ends_exactly t bs fit finished

  -- "spent" exactly when they reach one where a byte is needed and none is left,
  pub spent_exactly : ((drill_of t bs).outcome ≡ spent) ↔ Ends t bs spent
  spent_exactly = moves.ends_exactly t bs fit spent

  -- "wrong" exactly when they reach one where a choice's byte has no child or a wait's is above 1,
  pub wrong_exactly : ((drill_of t bs).outcome ≡ wrong) ↔ Ends t bs wrong
  wrong_exactly = moves.ends_exactly t bs fit wrong

  -- "full" exactly when they reach one where a step comes after 4,096 records
  pub full_exactly : ((drill_of t bs).outcome ≡ full) ↔ Ends t bs full
  full_exactly = moves.ends_exactly t bs fit full

  -- ---- bytes and records
  pub used_few : (drill_of t bs).used ≤ length bs
  used_few = beyond.used_few t bs fit

  pub records_few : length (drill_of t bs).steps ≤ most_steps
  records_few = beyond.records_few t bs fit

  -- each record is the number of a step
  pub steps_are : StepsOf t (drill_of t bs).steps
  steps_are = steps.steps_are t bs fit

  pub spent_uses_all : (drill_of t bs).outcome ≡ spent → (drill_of t bs).used ≡ length bs
  spent_uses_all = beyond.spent_all t bs fit

  pub full_has_all : (drill_of t bs).outcome ≡ full → length (drill_of t bs).steps ≡ most_steps
  full_has_all = beyond.full-all t bs fit

  -- more answer bytes after the last one used change nothing: any answer list that begins with the bytes used gives the same drill
  pub bytes-beyond : (cs : List ℕ) → ((drill_of t bs).outcome ≡ spent → ⊥) → take (drill_of t bs).used cs ≡ take (drill_of t bs).used bs → drill_of t cs ≡ drill_of t bs
  bytes-beyond cs = beyond.bytes-beyond t fit bs cs

  pub more_answers : (more : List ℕ) → ((drill_of t bs).outcome ≡ spent → ⊥) → drill_of t (bs ++ more) ≡ drill_of t bs
  more_answers more = beyond.more_answers t fit bs more

-- From the columns of a lent table to its records: Check and Ends answer the same. Nothing that a reader must believe stands here. Assumes nothing.
use Rattle.std.specs.Prelude.{◌≡◌, refl, List, [], ℕ, ◌<◌, length, ℤ, Result, Err}
use Rattle.std.proofs.Common.{sym, ◌∙◌}
use Rattle.plan.specs.Limits.{most_cells}
use Rattle.plan.specs.Lists.{mem, some}
use Rattle.plan.specs.Plan.{Table}
use Rattle.plan.specs.Columns.{table_of}
use Rattle.plan.specs.Records.{cells_of}
use Rattle.plan.specs.declared.Record.{Record}
use Rattle.plan.specs.declared.Columns.{Columns}
use Rattle.plan.specs.Questions.{in_file, puts, check, ends, check_given, ends_given}
use Rattle.plan.specs.declared.Refusal.{Refusal}
use Rattle.plan.proofs.Laws.Answered.{answered_some}
use Rattle.plan.proofs.Laws.Crowded.{refusal-crowded, crowded_refuses}
use Rattle.checker.specs.Checked.{checked_of}
use Rattle.checker.specs.declared.Verdict.{Verdict}
use Rattle.ends.specs.Ended.{ended_of}
use Rattle.ends.specs.declared.Ended.{Ended}
use Rattle.records.specs.Apart.{lent_columns}
use Rattle.records.proofs.Laws.Apart.{of-records}
use Rattle.entry_laws.proofs.Laws.Lent.{no}

check-crowded : (ps : List ℤ) (al : ℕ) (u : Table) → most_cells < length u → checked_of u ps al ≡ Err (no [])
unfolding checked_of check_given in_file puts mem some
check-crowded ps al u h = rw (refusal-crowded check (check_given u al ps) (λ _. refl) refl refl h) (answered_some (no []) _ (crowded_refuses _))

ends-crowded : (ps : List ℤ) (c : ℕ) (u : Table) → most_cells < length u → ended_of u ps c ≡ Err (no [])
unfolding ended_of ends_given in_file puts mem some
ends-crowded ps c u h = rw (refusal-crowded ends (ends_given u ps c) (λ _. refl) refl refl h) (answered_some (no []) _ (crowded_refuses _))

module _ (t : List Record) (r : Columns) (e : r ≡ lent_columns t) where
  pub check-lent : (ps : List ℤ) (al : ℕ) (d : Result Verdict Refusal) → d ≡ checked_of (table_of r) ps al → d ≡ checked_of (cells_of t) ps al
  check-lent ps al d h = of-records (λ u. d ≡ checked_of u ps al) t (λ u v p q g. g ∙ check-crowded ps al u p ∙ sym (check-crowded ps al v q)) (rw e at h)

  pub ends-lent : (ps : List ℤ) (c : ℕ) (d : Result Ended Refusal) → d ≡ ended_of (table_of r) ps c → d ≡ ended_of (cells_of t) ps c
  ends-lent ps c d h = of-records (λ u. d ≡ ended_of u ps c) t (λ u v p q g. g ∙ ends-crowded ps c u p ∙ sym (ends-crowded ps c v q)) (rw e at h)

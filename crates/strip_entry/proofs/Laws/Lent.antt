-- From the columns of a lent table to its records: Strip answers the same. Nothing that a reader must believe stands here. Assumes nothing.
use Rattle.std.specs.Prelude.{◌≡◌, ℕ, ◌<◌, length, ℤ, Result, Err, ⊤}
use Rattle.std.proofs.Math.Path.{refl, sym, ap}
use Rattle.std.proofs.Common.{◌∙◌}
use mathlib.Core.List.{List, []}
use Rattle.plan.specs.Limits.{most_cells}
use Rattle.plan.specs.Lists.{mem, some}
use Rattle.plan.specs.Plan.{Table}
use Rattle.plan.specs.Columns.{table_of}
use Rattle.plan.specs.Records.{cells_of}
use Rattle.plan.specs.declared.Record.{Record}
use Rattle.plan.specs.declared.Columns.{Columns}
use Rattle.plan.specs.Questions.{in_file, puts, refusal, strip, strip_given, passed}
use Rattle.plan.proofs.Laws.Crowded.{refusal-crowded, crowded_refuses}
use Rattle.plan.specs.declared.Refusal.{Refusal}
use Rattle.plan.proofs.Laws.Answered.{answered_some}
use Rattle.strips.specs.Stripped.{bytes_after, Strips}
use Rattle.records.specs.Apart.{lent_columns}
use Rattle.records.proofs.Laws.Apart.{of-records}
use Rattle.entry_laws.proofs.Laws.Lent.{no}

module _ (ps : List ℤ) (row first : ℕ) (bs bs' : List ℕ) (d : Result ⊤ Refusal) where
  strip-crowded : (u : Table) → most_cells < length u → refusal strip (strip_given u ps) ≡ no []
  unfolding strip_given in_file puts mem some
  strip-crowded u h = refusal-crowded strip (strip_given u ps) (λ _. refl) refl refl h

  strips_crowded : (u v : Table) → most_cells < length u → most_cells < length v → Strips u ps row first bs bs' d → Strips v ps row first bs bs' d
  unfolding bytes_after
  strips_crowded u v p q g =
      let e : d ≡ Err (no []) = g.answers ∙ ap passed (strip-crowded u p) ∙ answered_some _ tt (crowded_refuses _) in
      let k : d ≡ passed (refusal strip (strip_given v ps)) = g.answers ∙ ap passed (strip-crowded u p ∙ sym (strip-crowded v q)) in
      record { answers = k; bytes = rw e (rw e at g.bytes) }

module _ (t : List Record) (r : Columns) (e : r ≡ lent_columns t) where
  pub strip-lent : (ps : List ℤ) (row first : ℕ) (bs bs' : List ℕ) (d : Result ⊤ Refusal) → Strips (table_of r) ps row first bs bs' d → Strips (cells_of t) ps row first bs bs' d
  strip-lent ps row first bs bs' d h = of-records (λ u. Strips u ps row first bs bs' d) t (strips_crowded ps row first bs bs' d) (rw e at h)

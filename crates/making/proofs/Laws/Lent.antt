-- From the columns of a lent table to its records: the calls answer the same. Nothing that a reader must believe stands here. Assumes nothing.
use Rattle.std.specs.Prelude.{◌≡◌, List, [], ◌∷◌, ℕ, ◌<◌, length, take, ℤ, Option, Result, Err, ⊤}
use Rattle.std.proofs.Math.Path.{refl}
use Rattle.std.proofs.Common.{sym, ap, ◌∙◌}
use Rattle.plan.specs.Limits.{most_cells, scratch_size, second_size}
use Rattle.plan.specs.Lists.{mem, some}
use Rattle.plan.specs.Plan.{Table, cells}
use Rattle.plan.specs.Columns.{table_of}
use Rattle.plan.specs.Records.{cells_of}
use Rattle.plan.specs.declared.Record.{Record}
use Rattle.plan.specs.declared.Columns.{Columns}
use Rattle.plan.specs.Questions.{scratch, second_scratch, in_file, puts, start, step, reach, start_given, step_given, reach_given}
use Rattle.plan.proofs.Laws.Answered.{answered_some}
use Rattle.plan.proofs.Laws.Crowded.{refusal-crowded, crowded_refuses}
use Rattle.plan.specs.declared.Refusal.{Refusal}
use Rattle.finishing_order.specs.Postorder.{postorder}
use Rattle.finishing_asks.specs.Asks.{start_no, step_no, reach_no}
use Rattle.finishing.specs.Finishing.{started_of, started_as, Starts}
use Rattle.finishing_reach.specs.Reaching.{Reaches}
use Rattle.finishing_step.specs.Stepping.{Steps}
use Rattle.finishing_reach.specs.declared.Sides.{Sides}
use Rattle.records.specs.Apart.{lent_columns}
use Rattle.records.proofs.Laws.Apart.{of-records}
use Rattle.entry_laws.proofs.Laws.Lent.{no}

module _ (al s m : ℕ) where
  abbrev unmade : Refusal
  unmade = no (scratch s ∷ second_scratch m ∷ [])

  start-crowded : (u : Table) → most_cells < length u → start_no u al s m ≡ unmade
  unfolding start_given in_file puts mem some
  start-crowded u h = refusal-crowded start (start_given u al s m) (λ _. refl) refl refl h

  step-crowded : (p : ℕ) (u : Table) → most_cells < length u → step_no u al s m p ≡ unmade
  unfolding step_given in_file puts mem some
  step-crowded p u h = refusal-crowded step (step_given u al s m p) (λ _. refl) refl refl h

  reach-crowded : (finished : List ℕ) (c : ℕ) (u : Table) → most_cells < length u → reach_no u al s m finished c ≡ unmade
  unfolding reach_given in_file puts mem some
  reach-crowded finished c u h = refusal-crowded reach (reach_given u al s m finished c) (λ _. refl) refl refl h

starts-crowded : (al : ℕ) (xs xs' ms ms' : List ℕ) (d : Result ⊤ Refusal) (u v : Table) → most_cells < length u → most_cells < length v → Starts u al xs xs' ms ms' d → Starts v al xs xs' ms ms' d
starts-crowded al xs xs' ms ms' d u v p q g =
    let e : start_no u al (length xs) (length ms) ≡ start_no v al (length xs) (length ms) = start-crowded al (length xs) (length ms) u p ∙ sym (start-crowded al (length xs) (length ms) v q) in
    record { answers = g.answers ∙ ap started_of e; scratch = g.scratch ∙ ap (λ (r : Refusal). started_as r scratch_size xs) e; second = g.second ∙ ap (λ (r : Refusal). started_as r second_size ms) e }

steps-crowded : (al : ℕ) (xs xs' ms ms' : List ℕ) (ps ps' : List ℤ) (d : Result (Option ℕ) Refusal) (u v : Table) → most_cells < length u → most_cells < length v → Steps u al xs xs' ms ms' ps ps' d → Steps v al xs xs' ms ms' ps ps' d
steps-crowded al xs xs' ms ms' ps ps' d u v p q g =
    let ev = step-crowded al (length xs) (length ms) (length ps) v q in
    let e : step_no u al (length xs) (length ms) (length ps) ≡ step_no v al (length xs) (length ms) (length ps) = step-crowded al (length xs) (length ms) (length ps) u p ∙ sym ev in
    let refused : ¬ ((step_no v al (length xs) (length ms) (length ps)).number ≡ 0) = (λ z. crowded_refuses _ (ap (λ (r : Refusal). r.number) (sym ev) ∙ z)) in
    record {
      refuses = λ z. let (a, b) = g.refuses (λ y. z (ap (λ (r : Refusal). r.number) (sym e) ∙ y)) in (a ∙ ap Err e, b);
      steps = λ z. absurd (refused z);
      says = λ z. absurd (refused z);
      idle = g.idle;
    }

reaches_crowded : (al : ℕ) (xs ms : List ℕ) (c : ℕ) (d : Result Sides Refusal) (u v : Table) → most_cells < length u → most_cells < length v → Reaches u al xs ms c d → Reaches v al xs ms c d
reaches_crowded al xs ms c d u v p q g =
    let eu = reach-crowded al (length xs) (length ms) (cells u) c u p in
    let r = unmade al (length xs) (length ms) in
    let refused : ¬ ((reach_no u al (length xs) (length ms) (cells u) c).number ≡ 0) = (λ z. crowded_refuses _ (ap (λ (r : Refusal). r.number) (sym eu) ∙ z)) in
    let said : d ≡ Err r = g.refuses refused ∙ ap Err eu in
    record {
      refuses = λ _. said ∙ ap Err (sym (reach-crowded al (length xs) (length ms) (cells v) c v q));
      reads = λ k h. said ∙ rw (reach-crowded al (length xs) (length ms) (take k (postorder v)) c v q) (sym (answered_some r _ (crowded_refuses _)));
      says = λ z. absurd (crowded_refuses _ (ap (λ (r : Refusal). r.number) (sym (reach-crowded al (length xs) (length ms) (cells v) c v q)) ∙ z));
    }

module _ (t : List Record) (r : Columns) (e : r ≡ lent_columns t) where
  pub start-lent : (al : ℕ) (xs xs' ms ms' : List ℕ) (d : Result ⊤ Refusal) → Starts (table_of r) al xs xs' ms ms' d → Starts (cells_of t) al xs xs' ms ms' d
  start-lent al xs xs' ms ms' d h = of-records (λ u. Starts u al xs xs' ms ms' d) t (starts-crowded al xs xs' ms ms' d) (rw e at h)

  pub step-lent : (al : ℕ) (xs xs' ms ms' : List ℕ) (ps ps' : List ℤ) (d : Result (Option ℕ) Refusal) → Steps (table_of r) al xs xs' ms ms' ps ps' d → Steps (cells_of t) al xs xs' ms ms' ps ps' d
  step-lent al xs xs' ms ms' ps ps' d h = of-records (λ u. Steps u al xs xs' ms ms' ps ps' d) t (steps-crowded al xs xs' ms ms' ps ps' d) (rw e at h)

  pub reach-lent : (al : ℕ) (xs ms : List ℕ) (c : ℕ) (d : Result Sides Refusal) → Reaches (table_of r) al xs ms c d → Reaches (cells_of t) al xs ms c d
  reach-lent al xs ms c d h = of-records (λ u. Reaches u al xs ms c d) t (reaches_crowded al xs ms c d) (rw e at h)

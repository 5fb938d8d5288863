-- What holds where no question refuses a stroke. Nothing that a reader must believe stands here. Assumes nothing.
use Rattle.std.specs.Prelude.{◌≡◌, List, ℕ, ◌*◌, ◌≤◌, ◌<◌, T, length, ℤ}
use Rattle.std.proofs.Common.{sym, ◌∙◌, ap, subst, arith, ltb→lt}
use Rattle.plan.specs.Fit.{Fit}
use Rattle.plan.specs.Near.{Near}
use Rattle.plan.specs.Plan.{Table}
use Rattle.plan.specs.Pages.{fair}
use Rattle.plan.specs.Columns.{table_of}
use Rattle.plan.specs.Questions.{refusal, stroke, stroke_given, strokes_of}
use Rattle.plan.specs.Steps.{lent_refusal}
use Rattle.plan.proofs.Laws.Calls.{stroke-refusal}
use Rattle.plan.proofs.Laws.Fit.{lent_fit}
use Rattle.plan.proofs.Laws.Near.{near-accepted}
use Rattle.plan.proofs.Laws.Questions.{asked_yes, both-none}
use Rattle.plan.proofs.Laws.Tables.{length-is, count_few, count-some}
use Rattle.plan.specs.declared.Columns.{Columns}
use Rattle.plan.specs.declared.Page.{Page}
use Rattle.plan.specs.declared.Refusal.{Refusal}

-- a table, positions, a page and a number that no question refuses
pub record Passed (t : Table) (ps : List ℤ) (g : Page) (s : ℕ) : Type 0 where
  pub fit : Fit t
  pub near : Near ps (length t)
  pub page : T (fair g)
  pub number : s < strokes_of (length t)

pub passed : (t : Table) (ps : List ℤ) (g : Page) (s : ℕ) → (refusal stroke (stroke_given t ps g s)).number ≡ 0 → Passed t ps g s
passed t ps g s z =
    let (lent, r) = both-none _ _ (ap (λ (x : Refusal). x.number) (sym (stroke-refusal t ps g s)) ∙ z) in
    let (near, r2) = both-none _ _ r in
    let (paged, last) = both-none _ _ r2 in
    let h = lent_fit t (length ps) lent in
    record { fit = h.fit; near = near-accepted ps (length t) h.room near; page = asked_yes 16 _ 0 paged; number = ltb→lt s (strokes_of (length t)) (asked_yes 17 _ 0 last) }

pub accepted : (t : Columns) (ps : List ℤ) (g : Page) (s : ℕ) → (refusal stroke (stroke_given (table_of t) ps g s)).number ≡ 0
    → Fit (table_of t) × Near ps t.count × (s < strokes_of t.count)
accepted t ps g s z =
    let h = passed (table_of t) ps g s z in
    (h.fit, subst (λ (n : ℕ). Near ps n) (length-is t) h.near, subst (λ (n : ℕ). s < strokes_of n) (length-is t) h.number)

-- the count of a table that the first questions pass
pub lent_counts : (t : Columns) (p : ℕ) → (lent_refusal (table_of t) p).number ≡ 0 → (1 ≤ t.count) × (t.count ≤ 256) × (2 * t.count ≤ p)
lent_counts t p z =
    let h = lent_fit (table_of t) p z in
    (count-some t h.fit, count_few t h.fit, omega (arith, h.room, length-is t))

-- From what the search finds to Check's answer. Assumes nothing.
use mathlib.Core.Path.{◌≡◌, sym, ◌∙◌, ap, subst}
use mathlib.Core.List.{List}
use Prim.Native.Nat.{ℕ, ◌+◌, ◌-◌, ◌^◌, ◌≤◌, ◌<◌}
use lib.IntN.{ℤ}
use Rattle.plan.specs.declared.Columns.{Columns}
use Rattle.plan.specs.Fit.{Fit}
use Rattle.plan.specs.Near.{Near}
use Rattle.plan.specs.Limits.{most_allowance}
use Rattle.plan.specs.Questions.{refusal, check, check_given}
use Rattle.plan.specs.Columns.{table_of}
use Rattle.rules.specs.Verdict.{verdict, answer}
use Rattle.plan.proofs.Laws.Tables.{length-is, count-some}
use Rattle.looking_sights.specs.Sights.{Sights, Sighted}
use Rattle.looking.specs.Passes.{found_of, all_found}
use Rattle.looking_sights.specs.Sees.{Looked}
use Rattle.checker.specs.Spread.{Bounds, Spread}
use Rattle.rules.specs.Placement.{placed}
use Rattle.checker.specs.Checked.{answered}
use Rattle.looking.proofs.Laws.Meaning.{found-verdict}
use Rattle.checker.proofs.Laws.Checked as laws
use Rattle.checker.specs.declared.Verdict.TheVariants as checked
use Rattle.looking_sights.specs.declared.View.{View}
use Rattle.std.specs.Prelude.{Result, Ok, Err, ⊤}
use Rattle.plan.specs.declared.Breach.{Breach}
use Rattle.looking.proofs.Laws.Found.{found-broken, found-kept}

module _ (t : Columns) (fit : Fit (table_of t)) (ps : List ℤ) (al : ℕ) (s : Sights) (g : Looked (table_of t) (placed ps) s) where
  found-is : (f : Result ⊤ Breach) → f ≡ found_of (all_found s al t.count) → f ≡ found_of (verdict (table_of t) (placed ps) al)
  found-is f e =
      e ∙ ap (λ (n : ℕ). found_of (all_found s al n)) (sym (length-is t)) ∙ ap found_of (found-verdict (table_of t) (placed ps) s fit.sound g al)

  pub broken-answer : (f : Result ⊤ Breach) (b : Breach) → f ≡ found_of (all_found s al t.count) → f ≡ Err b
      → checked.Broken b ≡ answered (answer (table_of t) (placed ps) al)
  broken-answer f b e q = laws.answered-broken (table_of t) (placed ps) al b (found-broken _ (sym q ∙ found-is f e))

  pub kept-answer : (f : Result ⊤ Breach) (u : ⊤) (w : ℕ) (v : View) → f ≡ found_of (all_found s al t.count) → f ≡ Ok u → Spread s t.count w → v ≡ s 0
      → checked.Kept (record { width = w; rows = v.bottom - v.y + 1 }) ≡ answered (answer (table_of t) (placed ps) al)
  kept-answer f u w v e q h r =
      rw r
      (laws.answered-kept (table_of t) (placed ps) s fit.sound fit.some_cell g al w (found-kept _ (sym q ∙ found-is f e))
      (subst (λ (n : ℕ). Spread s n w) (sym (length-is t)) h))

  pub bounds : Bounds s t.count
  bounds =
      subst (λ (n : ℕ). Bounds s n) (length-is t)
      (laws.bounds (table_of t) (placed ps) s fit.sound fit.some_cell g fit.not_too_many)

  pub rows_fit : Sighted s t.count → (v : View) → v ≡ s 0 → (v.y ≤ v.bottom) × (v.bottom < 2 ^ 31)
  rows_fit h v r = rw r (laws.y-bottom (table_of t) (placed ps) s fit.sound fit.some_cell g, h.bottom_small 0 (count-some t fit))

pub accepted : (t : Columns) (al : ℕ) (ps : List ℤ) → (refusal check (check_given (table_of t) al ps)).number ≡ 0
    → Fit (table_of t) × Near ps t.count × (al ≤ most_allowance)
accepted t al ps e =
    let h = laws.accepted (table_of t) al ps e in
    (h.fit, subst (λ (n : ℕ). Near ps n) (length-is t) h.near, h.small)

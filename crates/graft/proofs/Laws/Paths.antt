-- Levels and rows of a joined table (questions 12 and 13). Assumes nothing.
use Rattle.std.specs.Prelude.{◌≡◌, length}
use Rattle.std.proofs.Math.Path.{refl, ap}
use Prim.Native.Nat.{ℕ, zero, suc, ◌+◌, ◌≤◌}
use native.Mathlib.Omega.{arith}
use Rattle.std.proofs.Math.Nat.{add-zero}
use Rattle.plan.specs.Plan.{Table, Is, Sound, parent, box_depth, level, row}
use Rattle.plan.proofs.Laws.Paths.{from_parents, lower, row_suc}
use Rattle.plan.proofs.Laws.Trees.{level_suc}
use Rattle.graft.specs.Joined.{joined}
use Rattle.graft.proofs.Laws.Joined.{first-parent, first_depth, root_parent, second-parent, second_depth, joined-sound}

module _ (t u : Table) (st : Sound t) (su : Sound u) (some_first : 1 ≤ length t) (some_second : 1 ≤ length u) (c : ℕ) (at : Is t c) where
  abbrev J : Table
  J = joined t u c

  sound : Sound J
  sound = joined-sound t u st some_first some_second c at su

  -- the first's as they were
  pub first-level : (a : ℕ) → Is t a → level J a ≡ level t a
  first-level = from_parents t st (λ a. Is t a → level J a ≡ level t a) (λ i. unfold level in refl) (λ m g i.
      omega (arith, level_suc J sound m, level_suc t st m, g (omega (arith, lower t st m)), ap (level J) (first-parent t u c (suc m) i)))

  pub first_row : (a : ℕ) → Is t a → row J a ≡ row t a
  first_row = from_parents t st (λ a. Is t a → row J a ≡ row t a) (λ i. unfold row in refl) (λ m g i.
      let p : Is t (parent t (suc m)) = omega (arith, lower t st m) in
      let e = first-parent t u c (suc m) i in
      omega (arith, row_suc J sound m, row_suc t st m, g p, first_depth t u c (parent t (suc m)) p, ap (row J) e, ap (box_depth J) e))

  level-step : (s p : ℕ) → 1 ≤ s → parent J s ≡ p → level J s ≡ suc (level J p)
  level-step zero p l e = absurd (omega arith)
  level-step (suc m) p l e = omega (arith, level_suc J sound m, ap (level J) e)

  row_step : (s p : ℕ) → 1 ≤ s → parent J s ≡ p → row J s ≡ box_depth J p + 1 + row J p
  row_step zero p l e = absurd (omega arith)
  row_step (suc m) p l e = omega (arith, row_suc J sound m, ap (row J) e, ap (box_depth J) e)

  -- the second's below those of the named cell
  pub second-level : (b : ℕ) → Is u b → level J (length t + b) ≡ level t c + 1 + level u b
  second-level = from_parents u su (λ b. Is u b → level J (length t + b) ≡ level t c + 1 + level u b)
      (λ i. let z : level u 0 ≡ 0 = unfold level in refl in rw add-zero (omega (arith, level-step (length t) c some_first (root_parent t u c i), first-level c at)))
      (λ m g i. omega (
        arith,
        level-step (length t + suc m) (length t + parent u (suc m)) (omega arith) (second-parent t u c (suc m) (omega arith) i),
        g (omega (arith, lower u su m)),
        level_suc u su m,
      ))

  pub second-row : (b : ℕ) → Is u b → row J (length t + b) ≡ row t c + box_depth t c + 1 + row u b
  second-row = from_parents u su (λ b. Is u b → row J (length t + b) ≡ row t c + box_depth t c + 1 + row u b)
      (λ i. let z : row u 0 ≡ 0 = unfold row in refl in
      rw add-zero (omega (arith, row_step (length t) c some_first (root_parent t u c i), first_row c at, first_depth t u c c at)))
      (λ m g i.
      let p : Is u (parent u (suc m)) = omega (arith, lower u su m) in
      omega (
        arith,
        row_step (length t + suc m) (length t + parent u (suc m)) (omega arith) (second-parent t u c (suc m) (omega arith) i),
        g p,
        second_depth t u c (parent u (suc m)) p,
        row_suc u su m,
      ))

-- What a link's test says.
use Rattle.std.specs.Prelude.{◌≡◌, false, ◌⊎◌, T, ℤ, ◌-ℤ◌}
use Prim.Native.Nat.{ℕ, zero, suc, ◌+◌, ◌≤◌}
use Rattle.std.proofs.Math.ListN.{length}
use Rattle.std.proofs.Math.IntN.{pos}
use Rattle.whole.specs.Says.{Says}
use Rattle.whole.proofs.Laws.Says.{itself, both, either, says_le, says_eq, says_eq_z}
use Rattle.plan.proofs.Laws.Lists.{Some, says_some}
use Rattle.plan.specs.Plan.{Table, box_width, box_depth, kind, children, child, appointed, path, row, dictated_bottom, next, earlier}
use Rattle.rules.specs.Tests.{flush, after_one, before_one}
use Rattle.why_spec.specs.Links.{box_meets, stem_meets, asks}

never : Says false ⊥
never = record { read = λ h. h; show = λ h. h }

module _ (t : Table) where
  -- b is the appointed child of a
  abbrev pub Flush : ℕ → ℕ → Type 0
  Flush a b = (1 ≤ length (children t a)) × (child t a (appointed (kind t a) (length (children t a))) ≡ b)

  says_flush : (a b : ℕ) → Says (flush t a b) (Flush a b)
  unfolding flush
  says_flush a b = both (says_le 1 _) (says_eq _ b)

  abbrev pub BoxMeets : ℕ → ℕ → Type 0
  BoxMeets a b = (row t a ≤ dictated_bottom t b) × (row t b ≤ row t a + box_depth t a)

  says_box : (a b : ℕ) → Says (box_meets t a b) (BoxMeets a b)
  unfolding box_meets
  says_box a b = both (says_le _ _) (says_le _ _)

  abbrev pub StemMeets : ℕ → ℕ → Type 0
  StemMeets a b = (1 ≤ length (children t a)) × ((row t a + box_depth t a + 1 ≤ dictated_bottom t b) × (row t b ≤ dictated_bottom t a))

  says_stem : (a b : ℕ) → Says (stem_meets t a b) (StemMeets a b)
  unfolding stem_meets
  says_stem a b = both (says_le 1 _) (both (says_le _ _) (says_le _ _))

  -- what the test says
  abbrev pub Asked : (al r a b : ℕ) → ℤ → Type 0
  Asked al zero a b d = ⊥
  Asked al (suc zero) a b d = ⊥
  Asked al (suc (suc zero)) a b d = (d ≡ pos 0) × (Flush a b ⊎ Flush b a)
  Asked al (suc (suc (suc zero))) a b d =
      ((d ≡ pos (box_width t a + 1)) × Some (λ u. next t u b) (path t a)) ⊎ ((d ≡ pos 1) × Some (λ v. next t a v) (path t b))
  Asked al (suc (suc (suc (suc zero)))) a b d =
      ((d ≡ pos (box_width t a + 1)) × (T (earlier t a b) × BoxMeets a b)) ⊎ ((d ≡ pos 1) × (T (earlier t a b) × StemMeets a b))
  Asked al (suc (suc (suc (suc (suc zero))))) a b d = (d ≡ pos (box_width t a + 1) -ℤ pos al) × T (earlier t a b)
  Asked al (suc (suc (suc (suc (suc (suc r)))))) a b d = ⊥

  pub says_asks : (al r a b : ℕ) (d : ℤ) → Says (asks t al r a b d) (Asked al r a b d)
  unfolding asks after_one before_one
  says_asks al zero a b d = never
  says_asks al (suc zero) a b d = never
  says_asks al (suc (suc zero)) a b d = both (says_eq_z d _) (either (says_flush a b) (says_flush b a))
  says_asks al (suc (suc (suc zero))) a b d =
      either (both (says_eq_z d _) (says_some (λ u. next t u b) (path t a))) (both (says_eq_z d _) (says_some (λ v. next t a v) (path t b)))
  says_asks al (suc (suc (suc (suc zero)))) a b d =
      either (both (says_eq_z d _) (both (itself (earlier t a b)) (says_box a b))) (both (says_eq_z d _) (both (itself (earlier t a b)) (says_stem a b)))
  says_asks al (suc (suc (suc (suc (suc zero))))) a b d = both (says_eq_z d _) (itself (earlier t a b))
  says_asks al (suc (suc (suc (suc (suc (suc r)))))) a b d = never

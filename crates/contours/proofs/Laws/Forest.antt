-- The siblings of a table as a forest: the form in which contours are joined and the rules are proved. Nothing that a reader must believe stands here.
-- Assumes nothing.
use Prim.Native.Nat.{ℕ, zero, suc, ◌+◌, ◌≤◌}
use mathlib.Core.List.{List, [], ◌∷◌, map}
use Rattle.std.specs.Prelude.{◌≡◌, length}
use Rattle.std.proofs.Math.Path.{refl}
use Rattle.std.proofs.Common.{arith}
use Rattle.plan.specs.Lists.{At}
use Rattle.plan.specs.Plan.{Table, Is, Sound, children}
use Rattle.plan.proofs.Laws.Paths.{child_less}
use Rattle.contours.specs.Contour.{Contour}
use Rattle.contours.specs.Sheet.{around, trace, contours}

-- siblings with all below them: none, or the first one's number, its children and the later ones
pub data Forest : Type 0 where
  none : Forest
  tree : ℕ → Forest → Forest → Forest

unfoldable pub count : Forest → ℕ
count none = 0
count (tree c ss r) = suc (count r)

-- their contours
unfoldable pub traces : Table → ℕ → Forest → List Contour
traces t al none = []
traces t al (tree c ss r) = around t al c (traces t al ss) ∷ traces t al r

-- F is the forest of the siblings cs, each with its own children
pub data Grown (t : Table) : List ℕ → Forest → Type 0 where
  nil : Grown t [] none
  cons : {c : ℕ} {cs : List ℕ} {F r : Forest} → Grown t (children t c) F → Grown t cs r → Grown t (c ∷ cs) (tree c F r)

-- the forest of the children of c, down to d levels
unfoldable pub each : (ℕ → Forest) → List ℕ → Forest
each f [] = none
each f (c ∷ cs) = tree c (f c) (each f cs)

unfoldable pub forest : Table → ℕ → ℕ → Forest
forest t zero c = none
forest t (suc d) c = each (forest t d) (children t c)

module _ (t : Table) (sound : Sound t) where
  no-children : (cs : List ℕ) → ((i s : ℕ) → At cs i s → ⊥) → Grown t cs none
  no-children [] h = Grown.nil
  no-children (c ∷ cs) h = absurd (h 0 c refl)

  each_grown : (f : ℕ → Forest) (cs : List ℕ) → ((i s : ℕ) → At cs i s → Grown t (children t s) (f s)) → Grown t cs (each f cs)
  unfolding each
  each_grown f [] h = Grown.nil
  each_grown f (c ∷ cs) h = Grown.cons (h 0 c refl) (each_grown f cs (λ i. h (suc i)))

  deep_grown : (d c : ℕ) → length t ≤ c + d → Grown t (children t c) (forest t d c)
  unfolding forest
  deep_grown zero c l = no-children (children t c) (λ i s a. omega (arith, child_less t sound c i s a))
  deep_grown (suc d) c l = each_grown (forest t d) (children t c) (λ i s a. deep_grown d s (omega (arith, child_less t sound c i s a)))

  pub grown : (c : ℕ) → Grown t (children t c) (forest t (length t) c)
  grown c = deep_grown (length t) c (omega arith)

  -- its contours are those of the sheet
  traces-deep : (al d : ℕ) {cs : List ℕ} {F : Forest} → Grown t cs F → ((i s : ℕ) → At cs i s → Is t s × (length t ≤ s + d)) → traces t al F ≡ map (trace t al d) cs
  unfolding traces trace
  traces-deep al d Grown.nil h = refl
  traces-deep al zero (Grown.cons {c = c} g b) h = absurd (omega (arith, h 0 c refl))
  traces-deep al (suc d) (Grown.cons {c = c} g b) h =
      cc (traces-deep al d g (λ i s a. ((child_less t sound c i s a).1, omega (arith, child_less t sound c i s a, h 0 c refl))), traces-deep al (suc d) b (λ i. h (suc i)))

  pub traces_are : (al c : ℕ) {F : Forest} → Grown t (children t c) F → traces t al F ≡ contours t al c
  unfolding contours
  traces_are al c g = traces-deep al (length t) g (λ i s a. ((child_less t sound c i s a).1, omega arith))

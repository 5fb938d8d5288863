-- The four measures are those of document 01. Assumes nothing.
use mathlib.Core.List.{[], ◌∷◌}
use Rattle.std.specs.Prelude.{◌≡◌, ℕ, ◌≤◌, length, T, ℤ, ◌+ℤ◌, ◌-ℤ◌}
use Rattle.std.proofs.Math.Path.{refl}
use Rattle.std.proofs.Common.{ap, inl, inr}
use Rattle.std.proofs.Math.IntN.{pos}
use Rattle.whole.proofs.Laws.Whole.{whole, sum}
use Rattle.plan.specs.Lists.{mem}
use Rattle.plan.proofs.Laws.Lists.{mem-here, mem_cases, mem-none}
use Rattle.plan.specs.Plan.{Table, Is, Sound}
use Rattle.plan.proofs.Laws.Plan.{cells-read, cells_show, subtree-read, subtree_show}
use Rattle.plan.proofs.Laws.Paths.{within-self}
use Rattle.rules.specs.Placement.{Placement, most, least, right, width, left_extent, right_extent}
use Rattle.rules.proofs.Laws.Extremes.{most-one, least-one}
use Rattle.why_spec.specs.Measures.{Measure, far, extent, across, leftward, rightward, between}

-- all of it is measured on cells of the table, and the two that are named are among them
pub record Measurable (t : Table) (μ : Measure) : Type 0 where
  pub start_in : T (mem μ.start μ.starts)
  pub end_in : T (mem μ.end μ.ends)
  pub starts_is : (a : ℕ) → T (mem a μ.starts) → Is t a
  pub ends_is : (b : ℕ) → T (mem b μ.ends) → Is t b

-- the only one of its list
pub only_one : (a c : ℕ) → T (mem a (c ∷ [])) → a ≡ c
only_one a c h = elim (mem_cases a c [] h) [ inl e ↦ e | inr k ↦ absurd (mem-none a k) ]

least_alone : (f : ℕ → ℤ) (c : ℕ) → least f (f c) (c ∷ []) ≡ f c
least_alone f c = least-one f (f c) (c ∷ []) (λ z. z ≡ f c) refl (λ a h. ap f (only_one a c h))

most_alone : (f : ℕ → ℤ) (c : ℕ) → most f (f c) (c ∷ []) ≡ f c
most_alone f c = most-one f (f c) (c ∷ []) (λ z. z ≡ f c) refl (λ a h. ap f (only_one a c h))

one-is : (t : Table) (c : ℕ) → Is t c → (a : ℕ) → T (mem a (c ∷ [])) → Is t a
one-is t c i a h = rw (only_one a c h) i

module _ (t : Table) (p : Placement) where
  pub width_is : extent (across t) p ≡ width t p
  unfolding extent far across width right
  width_is = refl

  pub left_is : (c : ℕ) → extent (leftward t c) p ≡ left_extent t p c
  unfolding extent far leftward left_extent
  left_is c =
      let z : p.x c +ℤ pos 0 ≡ p.x c = omega (whole, sum (p.x c) (pos 0)) in
      rw (most_alone (λ b. p.x b +ℤ pos 0) c, z)

  pub right_is : (c : ℕ) → extent (rightward t c) p ≡ right_extent t p c
  unfolding extent far rightward right_extent right
  right_is c = rw (least_alone p.x c)

pub between_is : (p : Placement) (u v : ℕ) → extent (between u v) p ≡ p.x v -ℤ p.x u
unfolding extent far between
between_is p u v =
    let z : p.x v +ℤ pos 0 ≡ p.x v = omega (whole, sum (p.x v) (pos 0)) in
    rw (most_alone (λ b. p.x b +ℤ pos 0) v, least_alone p.x u, z)

module _ (t : Table) where
  pub across-on : 1 ≤ length t → Measurable t (across t)
  unfolding across
  across-on h = record { start_in = cells_show t 0 h; end_in = cells_show t 0 h; starts_is = λ a k. cells-read t a k; ends_is = λ b k. cells-read t b k }

  module _ (sound : Sound t) (c : ℕ) (i : Is t c) where
    pub leftward-on : Measurable t (leftward t c)
    unfolding leftward
    leftward-on =
        record {
          start_in = subtree_show t c c i (within-self t sound c);
          end_in = mem-here c c [] refl;
          starts_is = λ a k. (subtree-read t c a k).0;
          ends_is = one-is t c i;
        }

    pub rightward-on : Measurable t (rightward t c)
    unfolding rightward
    rightward-on =
        record {
          start_in = mem-here c c [] refl;
          end_in = subtree_show t c c i (within-self t sound c);
          starts_is = one-is t c i;
          ends_is = λ b k. (subtree-read t c b k).0;
        }

  pub between-on : (u v : ℕ) → Is t u → Is t v → Measurable t (between u v)
  unfolding between
  between-on u v i j =
      record { start_in = mem-here u u [] refl; end_in = mem-here v v [] refl; starts_is = one-is t u i; ends_is = one-is t v j }

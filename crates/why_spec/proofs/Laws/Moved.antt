-- WHY THERE IS A REASON. Take a placement that keeps the rules and measures as little as any, and a set of cells that has all cells where the measure begins (those with the least x) and that no
-- tight link leaves. Move the set 1 to the right: no rule is broken, for a link that leaves the set had room. The least x has grown by 1. So some cell of the set is farthest to the right, or
-- the moved placement would measure less. One argument for the width, for a subtree's extents to either side and for two siblings' distance. Assumes nothing.
use Rattle.std.specs.Prelude.{◌≡◌, Bool, true, false, ℕ, zero, suc, ◌+◌, ◌≤◌, ◌<◌, ℤ, ◌+ℤ◌, ◌-ℤ◌, ◌≤ℤ◌}
use Rattle.std.proofs.Math.Path.{refl}
use Rattle.std.proofs.Common.{inl, inr, arith}
use Rattle.std.proofs.Math.Dec.{T}
use Rattle.std.proofs.Math.IntN.{pos}
use Rattle.whole.proofs.Laws.Whole.{whole, sum, diff, lt_or_le}
use Rattle.whole.specs.Says.{Says}
use Rattle.whole.proofs.Laws.Says.{itself, both, says_eq_z}
use Rattle.plan.specs.Lists.{from, mem}
use Rattle.plan.proofs.Laws.Lists.{from_show, some_show}
use Rattle.plan.specs.Plan.{Table, Is, Sound}
use Rattle.rules.specs.Placement.{Placement, most, least, base}
use Rattle.rules.specs.Rules.{S1, Keeps}
use Rattle.rules.proofs.Laws.Extremes.{most-all, most-one, least-all, least-one}
use Rattle.why_spec.specs.Measures.{Measure, far, extent}
use Rattle.why_spec.specs.Links.{Link, asks, Justified}
use Rattle.why_spec.specs.Search.{tight, tied, leftmost, rightmost}
use Rattle.why_spec.proofs.Laws.Links.{link_true, links-enough}
use Rattle.why_spec.proofs.Laws.Measures.{Measurable}

-- only S2 to S5 ask
asks_range : (t : Table) (al r a b : ℕ) (d : ℤ) → T (asks t al r a b d) → (2 ≤ r) × (r < 2 + 4)
unfolding asks
asks_range t al zero a b d h = absurd h
asks_range t al (suc zero) a b d h = absurd h
asks_range t al (suc (suc zero)) a b d h = (omega arith, omega arith)
asks_range t al (suc (suc (suc zero))) a b d h = (omega arith, omega arith)
asks_range t al (suc (suc (suc (suc zero)))) a b d h = (omega arith, omega arith)
asks_range t al (suc (suc (suc (suc (suc zero))))) a b d h = (omega arith, omega arith)
asks_range t al (suc (suc (suc (suc (suc (suc r)))))) a b d h = absurd h

-- a link without room ties its cells
pub no_room : (t : Table) (al : ℕ) (p : Placement) (l : Link) → Justified t al l → p.x l.from +ℤ l.apart ≡ p.x l.to → T (tied t al p l.from l.to)
unfolding tied tight
no_room t al p l j e =
    let d : l.apart ≡ p.x l.to -ℤ p.x l.from = omega (whole, sum (p.x l.from) l.apart, diff (p.x l.to) (p.x l.from)) in
    let (lo, hi) = asks_range t al l.rule l.from l.to l.apart j.asked in
    some_show _ (from 2 4) l.rule (from_show 2 4 l.rule lo hi) (rw d at j.asked)

pub says_leftmost : (μ : Measure) (p : Placement) (a : ℕ) → Says (leftmost μ p a) (T (mem a μ.starts) × (p.x a ≡ least p.x (p.x μ.start) μ.starts))
unfolding leftmost
says_leftmost μ p a = both (itself (mem a μ.starts)) (says_eq_z _ _)

pub says_rightmost : (μ : Measure) (p : Placement) (b : ℕ) → Says (rightmost μ p b) (T (mem b μ.ends) × (far μ p b ≡ most (far μ p) (far μ p μ.end) μ.ends))
unfolding rightmost
says_rightmost μ p b = both (itself (mem b μ.ends)) (says_eq_z _ _)

abbrev one : Bool → ℤ
one true = pos 1
one false = pos 0

module _ (t : Table) (sound : Sound t) (al : ℕ) (p : Placement) (keeps : Keeps t p al) (S : ℕ → Bool)
    (closed : (a b : ℕ) → Is t a → Is t b → T (S a) → T (tied t al p a b) → T (S b)) where
  -- the set moved 1 to the right, and all of it so that the root stays
  abbrev moved : Placement
  moved = record { x = λ c. p.x c +ℤ one (S c) -ℤ one (S 0); y = p.y }

  gap : (l : Link) → Justified t al l → (α β : Bool) → S l.from ≡ α → S l.to ≡ β
      → (p.x l.from +ℤ l.apart +ℤ one α) ≤ℤ (p.x l.to +ℤ one β)
  gap l j false false u v = omega (whole, link_true t sound al p keeps l j, sum (p.x l.from +ℤ l.apart) (pos 0), sum (p.x l.to) (pos 0))
  gap l j false true u v = omega (whole, link_true t sound al p keeps l j, sum (p.x l.from +ℤ l.apart) (pos 0), sum (p.x l.to) (pos 1))
  gap l j true true u v = omega (whole, link_true t sound al p keeps l j, sum (p.x l.from +ℤ l.apart) (pos 1), sum (p.x l.to) (pos 1))
  gap l j true false u v =
      elim (lt_or_le (p.x l.from +ℤ l.apart) (p.x l.to)) [
        | inl h ↦ omega (whole, sum (p.x l.from +ℤ l.apart) (pos 1), sum (p.x l.to) (pos 0))
        | inr h ↦
            let e : p.x l.from +ℤ l.apart ≡ p.x l.to = omega (whole, link_true t sound al p keeps l j) in
            absurd (rw v at (closed l.from l.to j.from_is j.to_is (rw u tt) (no_room t al p l j e)))
      ]

  moved_keeps : Keeps t moved al
  moved_keeps = links-enough t sound al moved s1 (λ l j. over (p.x l.from) (p.x l.to) l.apart (one (S l.from)) (one (S l.to)) (one (S 0)) (gap l j _ _ refl refl))
    where
      over : (a b d u v z : ℤ) → (a +ℤ d +ℤ u) ≤ℤ (b +ℤ v) → (a +ℤ u -ℤ z +ℤ d) ≤ℤ (b +ℤ v -ℤ z)
      over a b d u v z h =
          omega (whole, sum a d, sum (a +ℤ d) u, sum b v, sum a u, diff (a +ℤ u) z, sum (a +ℤ u -ℤ z) d, diff (b +ℤ v) z)

      s1 : S1 t moved
      s1 = record {
        root_x = omega (whole, keeps.s1.root_x, sum (p.x 0) (one (S 0)), diff (p.x 0 +ℤ one (S 0)) (one (S 0)));
        root_y = keeps.s1.root_y;
        drop = λ s i h. (unfold base in keeps.s1.drop s i h);
      }

  -- ---- what is measured
  module _ (μ : Measure) (on : Measurable t μ) (little : (q : Placement) → Keeps t q al → extent μ p ≤ℤ extent μ q) (starts : (a : ℕ) → Is t a → T (leftmost μ p a) → T (S a)) where
    -- where no cell of the set is farthest to the right, none passes what is
    stays : ((b : ℕ) → Is t b → T (S b) → ¬ T (rightmost μ p b)) → (a : ℕ) → T (mem a μ.ends) → (β : Bool) → S a ≡ β
        → (far μ p a +ℤ one β) ≤ℤ most (far μ p) (far μ p μ.end) μ.ends
    stays none a i false u = omega (whole, most-all (far μ p) (far μ p μ.end) μ.ends a i, sum (far μ p a) (pos 0))
    stays none a i true u =
        let M = most (far μ p) (far μ p μ.end) μ.ends in
        let h = most-all (far μ p) (far μ p μ.end) μ.ends a i in
        elim (lt_or_le (far μ p a) M) [
          | inl k ↦ omega (whole, sum (far μ p a) (pos 1))
          | inr k ↦
              let e : far μ p a ≡ M = omega whole in
              absurd (none a (on.ends_is a i) (rw u tt) ((says_rightmost μ p a).show (i, e)))
        ]

    -- the least x has grown
    grows : (a : ℕ) → T (mem a μ.starts) → (β : Bool) → S a ≡ β → (least p.x (p.x μ.start) μ.starts +ℤ pos 1) ≤ℤ (p.x a +ℤ one β)
    grows a i true u =
        let L = least p.x (p.x μ.start) μ.starts in
        omega (whole, least-all p.x (p.x μ.start) μ.starts a i, sum (p.x a) (pos 1), sum L (pos 1))
    grows a i false u =
        let L = least p.x (p.x μ.start) μ.starts in
        elim (lt_or_le L (p.x a)) [
          | inl k ↦ omega (whole, sum (p.x a) (pos 0), sum L (pos 1))
          | inr k ↦
              let e : p.x a ≡ L = omega (whole, least-all p.x (p.x μ.start) μ.starts a i) in
              absurd (rw u at (starts a (on.starts_is a i) ((says_leftmost μ p a).show (i, e))))
        ]

    pub reaches : ((b : ℕ) → Is t b → T (S b) → ¬ T (rightmost μ p b)) → ⊥
    unfolding extent far
    reaches none =
        let M = most (far μ p) (far μ p μ.end) μ.ends in
        let L = least p.x (p.x μ.start) μ.starts in
        let M' = most (far μ moved) (far μ moved μ.end) μ.ends in
        let L' = least moved.x (moved.x μ.start) μ.starts in
        let z = one (S 0) in
        let hi : (M' +ℤ z) ≤ℤ M = most-one (far μ moved) (far μ moved μ.end) μ.ends (λ e. (e +ℤ z) ≤ℤ M) (high μ.end on.end_in) high in
        let lo : (L +ℤ pos 1) ≤ℤ (L' +ℤ z) = least-one moved.x (moved.x μ.start) μ.starts (λ e. (L +ℤ pos 1) ≤ℤ (e +ℤ z)) (low μ.start on.start_in) low in
        less M L M' L' z hi lo (little moved moved_keeps)
      where
        high : (a : ℕ) → T (mem a μ.ends) → (p.x a +ℤ one (S a) -ℤ one (S 0) +ℤ pos (μ.past a) +ℤ one (S 0)) ≤ℤ most (far μ p) (far μ p μ.end) μ.ends
        high a i =
            omega (
              whole,
              stays none a i (S a) refl,
              sum (p.x a) (pos (μ.past a)),
              sum (p.x a +ℤ pos (μ.past a)) (one (S a)),
              sum (p.x a) (one (S a)),
              diff (p.x a +ℤ one (S a)) (one (S 0)),
              sum (p.x a +ℤ one (S a) -ℤ one (S 0)) (pos (μ.past a)),
              sum (p.x a +ℤ one (S a) -ℤ one (S 0) +ℤ pos (μ.past a)) (one (S 0)),
            )

        low : (a : ℕ) → T (mem a μ.starts) → (least p.x (p.x μ.start) μ.starts +ℤ pos 1) ≤ℤ (p.x a +ℤ one (S a) -ℤ one (S 0) +ℤ one (S 0))
        low a i =
            omega (
              whole,
              grows a i (S a) refl,
              sum (p.x a) (one (S a)),
              diff (p.x a +ℤ one (S a)) (one (S 0)),
              sum (p.x a +ℤ one (S a) -ℤ one (S 0)) (one (S 0)),
            )

        less : (M L M' L' z : ℤ) → (M' +ℤ z) ≤ℤ M → (L +ℤ pos 1) ≤ℤ (L' +ℤ z) → (M -ℤ L) ≤ℤ (M' -ℤ L') → ⊥
        less M L M' L' z h k n = omega (whole, sum M' z, sum L (pos 1), sum L' z, diff M L, diff M' L')

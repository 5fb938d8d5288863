-- The children joined one after another, as a program does it, give the contour's rows. Assumes nothing.
use Prim.Native.Nat.{ℕ, zero, suc, ◌+◌, ◌-◌, ◌≤◌, ◌<◌, max}
use mathlib.Core.List.{List, [], ◌∷◌, map, map-map, map-id}
use Rattle.std.specs.Prelude.{◌≡◌, ◌⊎◌, length}
use Rattle.std.proofs.Math.Path.{refl, sym, ap}
use Rattle.std.proofs.Common.{◌∙◌}
use Rattle.std.proofs.Math.Logic.{inl, inr}
use native.Mathlib.Omega.{arith}
use Rattle.std.proofs.Math.Nat.{zero-add}
use Rattle.contours.specs.Contour.{Contour, greatest, cover, clash, separation, stride, offset, lefts, rights}
use Rattle.plan.specs.Lists.{At}
use Rattle.contours.proofs.Laws.Contour.{at-cover, at_map, map_at, greatest-at, greatest_le, clash-at, clash_le, offset-from}

-- what is kept of the children so far: extents from the base, the latest child up to the appointed one, and how far past it the latest stands
pub record Merge : Type 0 where
  pub left : List ℕ
  pub right : List ℕ
  pub past : ℕ

-- a child up to the appointed one becomes the base; a later one is added at its distance
unfoldable pub upto : Merge → Contour → ℕ → Merge
upto s p g = record { left = cover (map (λ v. v + g) s.left) p.left; right = cover (map (λ v. v - g) s.right) p.right; past = 0 }

unfoldable pub beyond : Merge → Contour → ℕ → Merge
beyond s p g =
    record {
      left = cover s.left (map (λ v. v - (s.past + g)) p.left);
      right = cover s.right (map (λ v. (s.past + g) + v) p.right);
      past = s.past + g;
    }

-- the right extents from the latest child on
unfoldable pub near : Merge → List ℕ
near s = map (λ v. v - s.past) s.right

module _ (al : ℕ) where
  unfoldable pub separation_to : Merge → Contour → ℕ
  separation_to s p = separation al (record { left = []; right = near s }) p

  unfoldable pub joined : ℕ → Merge → List Contour → Merge
  joined m s [] = s
  joined zero s (p ∷ ps) = joined zero (beyond s p (separation_to s p)) ps
  joined (suc m) s (p ∷ ps) = joined m (upto s p (separation_to s p)) ps

-- laws of rows
cover-nil : (a : List ℕ) → cover a [] ≡ a
unfolding cover
cover-nil [] = refl
cover-nil (v ∷ a) = refl

cover_assoc : (a b c : List ℕ) → cover (cover a b) c ≡ cover a (cover b c)
unfolding cover
cover_assoc [] b c = refl
cover_assoc (u ∷ a) [] c = refl
cover_assoc (u ∷ a) (v ∷ b) [] = refl
cover_assoc (u ∷ a) (v ∷ b) (w ∷ c) = let e : max (max u v) w ≡ max u (max v w) = omega arith in λ i. e i ∷ cover_assoc a b c i

map-cover : (f : ℕ → ℕ) → ((v w : ℕ) → f (max v w) ≡ max (f v) (f w)) → (a b : List ℕ) → map f (cover a b) ≡ cover (map f a) (map f b)
unfolding cover
map-cover f h [] b = refl
map-cover f h (v ∷ a) [] = refl
map-cover f h (v ∷ a) (w ∷ b) = λ i. h v w i ∷ map-cover f h a b i

map_same : (f g : ℕ → ℕ) → ((v : ℕ) → f v ≡ g v) → (a : List ℕ) → map f a ≡ map g a
map_same f g h a = λ i. map (λ v. h v i) a

cover-top : (vs ws : List ℕ) (j w : ℕ) → At ws j w → ((v : ℕ) → At vs j v → v ≤ w) → At (cover vs ws) j w
unfolding cover
cover-top [] ws j w h q = h
cover-top (v ∷ vs) [] j w h q = absurd h
cover-top (v ∷ vs) (z ∷ ws) zero w h q = omega (arith, q v refl)
cover-top (v ∷ vs) (z ∷ ws) (suc j) w h q = cover-top vs ws j w h q

-- what is kept to the right, seen from the latest child o, is o's own
pub record Near (s : Merge) (o : Contour) : Type 0 where
  pub has : (j u : ℕ) → At o.right j u → At s.right j (s.past + u)
  pub only : (j v : ℕ) → At s.right j v → (v ≤ s.past) ⊎ ((u : ℕ) × At o.right j u × (v ≡ s.past + u))

near-greatest : (s : Merge) (o : Contour) → Near s o → greatest (near s) ≡ greatest o.right
unfolding near
near-greatest s o n = let a = le in let b = ge in omega arith
  where
    le : greatest (near s) ≤ greatest o.right
    le = elim (greatest-at (near s)) [
      | inl e ↦ omega arith
      | inr w ↦
          let (v, a, e) = at_map (λ v. v - s.past) s.right w.0 (greatest (near s)) w.1 in
          elim (n.only w.0 v a) [
            | inl l ↦ omega arith
            | inr q ↦ omega (arith, q.2, greatest_le o.right w.0 q.0 q.1)
          ]
    ]

    ge : greatest o.right ≤ greatest (near s)
    ge = elim (greatest-at o.right) [
      | inl e ↦ omega arith
      | inr w ↦
          omega (
            arith,
            greatest_le (near s) w.0 (s.past + greatest o.right - s.past)
                (map_at (λ v. v - s.past) s.right w.0 (s.past + greatest o.right) (n.has w.0 (greatest o.right) w.1)),
          )
    ]

near-clash : (s : Merge) (o : Contour) (l : List ℕ) → Near s o
    → (clash (near s) l ≤ max (clash o.right l) (greatest l + 1)) × (clash o.right l ≤ clash (near s) l)
unfolding near
near-clash s o l n = (
  clash_le (near s) l (max (clash o.right l) (greatest l + 1)) (λ j r v p q.
      let (u, a, e) = at_map (λ v. v - s.past) s.right j r p in
      elim (n.only j u a) [
        | inl h ↦ omega (arith, greatest_le l j v q)
        | inr w ↦ omega (arith, w.2, clash-at o.right l j w.0 v w.1 q)
      ]),
  clash_le o.right l (clash (near s) l) (λ j r v p q.
      omega (arith, clash-at (near s) l j (s.past + r - s.past) v (map_at (λ v. v - s.past) s.right j (s.past + r) (n.has j r p)) q)),
)

absorb : (a b c e d : ℕ) → c ≤ max e b → e ≤ c → max (max a b) (max c d) ≡ max (max a b) (max e d)
absorb a b c e d p q = omega arith

module _ (al : ℕ) where
  pub near-separation : (s : Merge) (o p : Contour) → Near s o → separation_to al s p ≡ separation al o p
  unfolding separation_to separation
  near-separation s o p n =
      let c = near-clash s o p.left n in
      rw (near-greatest s o n) (absorb _ _ _ _ _ c.0 c.1)

  separation_past : (o p : Contour) → greatest o.right < separation al o p
  unfolding separation
  separation_past o p = omega arith

  -- what was kept stays short of the next child
  low : (s : Merge) (o p : Contour) → Near s o → (j v : ℕ) → At s.right j v → v ≤ s.past + separation al o p
  low s o p n j v b =
      elim (n.only j v b) [
        | inl l ↦ omega arith
        | inr q ↦ omega (arith, q.2, greatest_le o.right j q.0 q.1, separation_past o p)
      ]

  -- the latest is near again after a step
  pub near-beyond : (s : Merge) (o p : Contour) → Near s o → Near (beyond s p (separation al o p)) p
  unfolding beyond
  near-beyond s o p n =
      record {
        has = λ j u a. cover-top s.right _ j _ (map_at (λ v. (s.past + separation al o p) + v) p.right j u a) (λ v b. omega (arith, low s o p n j v b));
        only = λ j v a.
            elim (at-cover s.right _ j v a) [
              | inl b ↦ inl (low s o p n j v b)
              | inr b ↦ inr (at_map (λ v. (s.past + separation al o p) + v) p.right j v b)
            ];
      }

  pub near-upto : (s : Merge) (o p : Contour) → s.past ≡ 0 → Near s o → Near (upto s p (separation al o p)) p
  unfolding upto
  near-upto s o p z n =
      record {
        has = λ j u a. rw zero-add (cover-top (map (λ v. v - separation al o p) s.right) p.right j u a (λ v b.
            let (w, c, e) = at_map (λ v. v - separation al o p) s.right j v b in omega (arith, low s o p n j w c)));
        only = λ j v a.
            elim (at-cover (map (λ v. v - separation al o p) s.right) p.right j v a) [
              | inl b ↦ let (w, c, e) = at_map (λ v. v - separation al o p) s.right j v b in inl (omega (arith, low s o p n j w c))
              | inr b ↦ inr (v, b, omega arith)
            ];
      }

  -- past the appointed child, which stands at P
  after : (os : List Contour) (s : Merge) (o : Contour) (P X : ℕ) → X ≡ P + s.past → Near s o
      → ((joined al zero s os).left ≡ cover s.left (lefts al P (X + stride al o os) os)) × ((joined al zero s os).right ≡ cover s.right (rights al P (X + stride al o os) os))
  unfolding joined lefts rights stride beyond
  after [] s o P X e n = (sym (cover-nil s.left), sym (cover-nil s.right))
  after (p ∷ ps) s o P X e n =
      let g = separation al o p in
      let (l, r) = after ps (beyond s p g) p P (X + g) (omega arith) (near-beyond s o p n) in (
        ap (λ g. (joined al zero (beyond s p g) ps).left) (near-separation s o p n) ∙ l ∙ cover_assoc s.left _ _
            ∙ ap (λ a. cover s.left (cover a (lefts al P (X + g + stride al p ps) ps))) (map_same (λ v. v - (s.past + g)) (λ v. (P + v) - (X + g)) (λ v. omega arith) p.left),
        ap (λ g. (joined al zero (beyond s p g) ps).right) (near-separation s o p n) ∙ r ∙ cover_assoc s.right _ _
            ∙ ap (λ a. cover s.right (cover a (rights al P (X + g + stride al p ps) ps))) (map_same (λ v. (s.past + g) + v) (λ v. (X + g + v) - P) (λ v. omega arith) p.right),
      )

  -- up to the appointed child, m further on
  before : (os : List Contour) (m : ℕ) (s : Merge) (o : Contour) (X : ℕ) → m ≤ length os → s.past ≡ 0 → Near s o
      → ((joined al m s os).left ≡ cover (map (λ v. (offset al X (o ∷ os) m + v) - X) s.left) (lefts al (offset al X (o ∷ os) m) (X + stride al o os) os))
      × ((joined al m s os).right ≡ cover (map (λ v. (X + v) - offset al X (o ∷ os) m) s.right) (rights al (offset al X (o ∷ os) m) (X + stride al o os) os))
  unfolding joined lefts rights stride offset upto
  before os zero s o X l z n =
      let (a, b) = after os s o X X (omega arith) n in (
        a ∙ ap (λ v. cover v (lefts al X (X + stride al o os) os)) (sym (map_same (λ v. (X + v) - X) (λ v. v) (λ v. omega arith) s.left ∙ map-id s.left)),
        b ∙ ap (λ v. cover v (rights al X (X + stride al o os) os)) (sym (map_same (λ v. (X + v) - X) (λ v. v) (λ v. omega arith) s.right ∙ map-id s.right)),
      )
  before [] (suc m) s o X l z n = absurd (omega arith)
  before (p ∷ ps) (suc m) s o X l z n =
      let g = separation al o p in
      let P = offset al (X + g) (p ∷ ps) m in
      let i : X + g ≤ P = offset-from al (p ∷ ps) m (X + g) in
      let (a, b) = before ps m (upto s p g) p (X + g) (omega arith) refl (near-upto s o p z n) in (
        ap (λ g. (joined al m (upto s p g) ps).left) (near-separation s o p n) ∙ a
            ∙ ap (λ v. cover v (lefts al P (X + g + stride al p ps) ps))
            (map-cover (λ v. (P + v) - (X + g)) (λ v w. omega arith) (map (λ v. v + g) s.left) p.left
            ∙ ap (λ v. cover v (map (λ v. (P + v) - (X + g)) p.left)) (map-map (λ v. (P + v) - (X + g)) (λ v. v + g) s.left ∙ map_same _ (λ v. (P + v) - X) (λ v. omega arith) s.left))
            ∙ cover_assoc _ _ _,
        ap (λ g. (joined al m (upto s p g) ps).right) (near-separation s o p n) ∙ b
            ∙ ap (λ v. cover v (rights al P (X + g + stride al p ps) ps))
            (map-cover (λ v. (X + g + v) - P) (λ v w. omega arith) (map (λ v. v - g) s.right) p.right
            ∙ ap (λ v. cover v (map (λ v. (X + g + v) - P) p.right)) (map-map (λ v. (X + g + v) - P) (λ v. v - g) s.right ∙ map_same _ (λ v. (X + v) - P) (λ v. omega arith) s.right))
            ∙ cover_assoc _ _ _,
      )

  pub first-near : (o : Contour) → Near (record { left = o.left; right = o.right; past = 0 }) o
  first-near o = record { has = λ j u a. rw zero-add a; only = λ j v a. inr (v, a, omega arith) }

  -- joining the children one after another gives the rows of the contour
  pub joined_is : (o : Contour) (os : List Contour) (m : ℕ) → m ≤ length os
      → ((joined al m (record { left = o.left; right = o.right; past = 0 }) os).left ≡ lefts al (offset al 0 (o ∷ os) m) 0 (o ∷ os))
      × ((joined al m (record { left = o.left; right = o.right; past = 0 }) os).right ≡ rights al (offset al 0 (o ∷ os) m) 0 (o ∷ os))
  unfolding lefts rights
  joined_is o os m l = before os m (record { left = o.left; right = o.right; past = 0 }) o 0 l refl (first-near o)

-- Lists of extents, a number for each row: what stands at a row of a cover, of a contour, of a clash. Assumes nothing.
use Prim.Native.Nat.{ℕ, zero, suc, ◌+◌, ◌-◌, ◌≤◌, ◌<◌, max}
use mathlib.Core.List.{List, [], ◌∷◌, ◌++◌, map}
use Rattle.std.specs.Prelude.{◌≡◌, refl, ◌⊎◌, replicate}
use Rattle.std.proofs.Common.{ap, ◌∙◌}
use Rattle.std.proofs.Math.Logic.{inl, inr}
use native.Mathlib.Omega.{arith, max_cases}
use Rattle.std.proofs.Math.Nat.{sub-zero, suc-sub-suc}
use Rattle.plan.specs.Lists.{At}
use Rattle.contours.specs.Contour.{Contour, greatest, cover, clash, separation, stride, offset, lefts}

-- a row of box rows with more below
pub at_boxes : (n a : ℕ) (ys : List ℕ) (j v : ℕ) → At (replicate n a ++ ys) j v → ((j < n) × (v ≡ a)) ⊎ ((n ≤ j) × At ys (j - n) v)
at_boxes zero a ys j v h = inr (omega arith, rw sub-zero h)
at_boxes (suc n) a ys zero v h = inl (omega arith, h)
at_boxes (suc n) a ys (suc j) v h = go (at_boxes n a ys j v h)
  where
    go : ((j < n) × (v ≡ a)) ⊎ ((n ≤ j) × At ys (j - n) v) → ((suc j < suc n) × (v ≡ a)) ⊎ ((suc n ≤ suc j) × At ys (suc j - suc n) v)
    go (inl p) = inl (omega arith, p.1)
    go (inr p) = inr (omega arith, rw suc-sub-suc p.1)

pub boxes_at : (n a : ℕ) (ys : List ℕ) (j : ℕ) → j < n → At (replicate n a ++ ys) j a
boxes_at zero a ys j h = absurd (omega arith)
boxes_at (suc n) a ys zero h = refl
boxes_at (suc n) a ys (suc j) h = boxes_at n a ys j (omega arith)

pub past_boxes : (n a : ℕ) (ys : List ℕ) (j v : ℕ) → n ≤ j → At ys (j - n) v → At (replicate n a ++ ys) j v
past_boxes zero a ys j v h p = rw sub-zero at p
past_boxes (suc n) a ys zero v h p = absurd (omega arith)
past_boxes (suc n) a ys (suc j) v h p = past_boxes n a ys j v (omega arith) (rw suc-sub-suc at p)

-- the rows of a cover are those of either list
pub at-cover : (vs ws : List ℕ) (j u : ℕ) → At (cover vs ws) j u → At vs j u ⊎ At ws j u
unfolding cover
at-cover [] ws j u h = inr h
at-cover (v ∷ vs) [] j u h = inl h
at-cover (v ∷ vs) (w ∷ ws) zero u h = max_cases v w ((u ≡ v) ⊎ (u ≡ w)) (λ p e. inr (h ∙ e)) (λ p e. inl (h ∙ e))
at-cover (v ∷ vs) (w ∷ ws) (suc j) u h = at-cover vs ws j u h

cover-left : (vs ws : List ℕ) (j v : ℕ) → At vs j v → (u : ℕ) × At (cover vs ws) j u × (v ≤ u)
unfolding cover
cover-left [] ws j v h = absurd h
cover-left (w ∷ vs) [] j v h = (v, h, omega arith)
cover-left (w ∷ vs) (z ∷ ws) zero v h = (max w z, refl, omega arith)
cover-left (w ∷ vs) (z ∷ ws) (suc j) v h = cover-left vs ws j v h

cover-right : (vs ws : List ℕ) (j v : ℕ) → At ws j v → (u : ℕ) × At (cover vs ws) j u × (v ≤ u)
unfolding cover
cover-right [] ws j v h = (v, h, omega arith)
cover-right (w ∷ vs) [] j v h = absurd h
cover-right (w ∷ vs) (z ∷ ws) zero v h = (max w z, refl, omega arith)
cover-right (w ∷ vs) (z ∷ ws) (suc j) v h = cover-right vs ws j v h

pub at_map : (f : ℕ → ℕ) (vs : List ℕ) (j u : ℕ) → At (map f vs) j u → (v : ℕ) × At vs j v × (u ≡ f v)
at_map f [] j u h = absurd h
at_map f (v ∷ vs) zero u h = (v, refl, h)
at_map f (v ∷ vs) (suc j) u h = at_map f vs j u h

pub map_at : (f : ℕ → ℕ) (vs : List ℕ) (j v : ℕ) → At vs j v → At (map f vs) j (f v)
map_at f [] j v h = absurd h
map_at f (w ∷ vs) zero v h = ap f h
map_at f (w ∷ vs) (suc j) v h = map_at f vs j v h

-- a row of a sibling's extents, moved, over those of the later siblings
pub cover_cases : (f : ℕ → ℕ) (vs ws : List ℕ) (j u : ℕ) → At (cover (map f vs) ws) j u → ((v : ℕ) × At vs j v × (u ≡ f v)) ⊎ At ws j u
cover_cases f vs ws j u h = elim (at-cover (map f vs) ws j u h) [ inl a ↦ inl (at_map f vs j u a) | inr a ↦ inr a ]

-- and what holds of a row in either, and of all greater numbers, holds of the row in both
pub cover_either : (f : ℕ → ℕ) (vs ws : List ℕ) (j : ℕ) (P Q : ℕ → Type 0) → ((v : ℕ) → P v → Q (f v)) → ((v u : ℕ) → v ≤ u → Q v → Q u)
    → ((v : ℕ) × At vs j v × P v) ⊎ ((v : ℕ) × At ws j v × Q v) → (u : ℕ) × At (cover (map f vs) ws) j u × Q u
cover_either f vs ws j P Q h up (inl (v, a, p)) = let (u, b, l) = cover-left (map f vs) ws j (f v) (map_at f vs j v a) in (u, b, up (f v) u l (h v p))
cover_either f vs ws j P Q h up (inr (v, a, q)) = let (u, b, l) = cover-right (map f vs) ws j v a in (u, b, up v u l q)

-- the greatest is 0 or stands in some row
pub greatest-at : (vs : List ℕ) → (greatest vs ≡ 0) ⊎ ((j : ℕ) × At vs j (greatest vs))
unfolding greatest
greatest-at [] = inl refl
greatest-at (v ∷ vs) =
    max_cases v (greatest vs) ((greatest (v ∷ vs) ≡ 0) ⊎ ((j : ℕ) × At (v ∷ vs) j (greatest (v ∷ vs))))
    (λ p e. go e (greatest-at vs)) (λ p e. inr (0, e))
  where
    go : max v (greatest vs) ≡ greatest vs → (greatest vs ≡ 0) ⊎ ((j : ℕ) × At vs j (greatest vs)) → (greatest (v ∷ vs) ≡ 0) ⊎ ((j : ℕ) × At (v ∷ vs) j (greatest (v ∷ vs)))
    go e (inl p) = inl (e ∙ p)
    go e (inr p) = inr (suc p.0, rw e p.1)

pub greatest_le : (vs : List ℕ) (j v : ℕ) → At vs j v → v ≤ greatest vs
unfolding greatest
greatest_le [] j v h = absurd h
greatest_le (w ∷ vs) zero v h = omega arith
greatest_le (w ∷ vs) (suc j) v h = omega (arith, greatest_le vs j v h)

pub clash-at : (rs ls : List ℕ) (j r l : ℕ) → At rs j r → At ls j l → r + l + 1 ≤ clash rs ls
unfolding clash
clash-at [] ls j r l p q = absurd p
clash-at (v ∷ rs) [] j r l p q = absurd q
clash-at (v ∷ rs) (w ∷ ls) zero r l p q = omega arith
clash-at (v ∷ rs) (w ∷ ls) (suc j) r l p q = omega (arith, clash-at rs ls j r l p q)

pub clash_le : (rs ls : List ℕ) (d : ℕ) → ((j r l : ℕ) → At rs j r → At ls j l → r + l + 1 ≤ d) → clash rs ls ≤ d
unfolding clash
clash_le [] ls d h = omega arith
clash_le (r ∷ rs) [] d h = omega arith
clash_le (r ∷ rs) (l ∷ ls) d h = omega (arith, h 0 r l refl refl, clash_le rs ls d (λ j. h (suc j)))

-- ---- siblings
module _ (al : ℕ) where
  -- the first stands at or before each sibling
  pub offset-from : (os : List Contour) (m X : ℕ) → X ≤ offset al X os m
  unfolding offset
  offset-from [] m X = omega arith
  offset-from (o ∷ os) zero X = omega arith
  offset-from (o ∷ os) (suc m) X = omega (arith, offset-from os m (X + stride al o os))

  -- siblings after column P do not extend to the left of it
  pub lefts-next : (o : Contour) (os : List Contour) (P X j v : ℕ) → P ≤ X → At (lefts al P (X + stride al o os) os) j v → v ≡ 0
  unfolding lefts stride separation
  lefts-next o [] P X j v g h = absurd h
  lefts-next o (p ∷ ps) P X j v g h =
      elim (cover_cases _ p.left _ j v h) [
        | inl q ↦ let (u, a, e) = q in omega (arith, greatest_le p.left j u a)
        | inr q ↦ lefts-next p ps P (X + separation al o p) j v (omega arith) q
      ]

-- ---- the separation is the least distance that the four parts allow
pub record Apart (al : ℕ) (o p : Contour) (d : ℕ) : Type 0 where
  pub ends : greatest o.right + 1 ≤ d
  pub starts : greatest p.left + 1 ≤ d
  pub rows : (j r l : ℕ) → At o.right j r → At p.left j l → r + l + 1 ≤ d
  pub overlap : greatest o.right + greatest p.left + 1 ≤ d + al

pub separation_apart : (al : ℕ) (o p : Contour) → Apart al o p (separation al o p)
unfolding separation
separation_apart al o p =
    record {
      ends = omega arith;
      starts = omega arith;
      rows = λ j r l a b. omega (arith, clash-at o.right p.left j r l a b);
      overlap = omega arith;
    }

pub separation-least : (al : ℕ) (o p : Contour) (d : ℕ) → Apart al o p d → separation al o p ≤ d
unfolding separation
separation-least al o p d h = omega (arith, clash_le o.right p.left d h.rows)

-- Rows by number: what stands at row j, 0 where there is none. Assumes nothing.
use Rattle.std.specs.Prelude.{ℕ, zero, suc, ◌+◌, ◌-◌, ◌≤◌, ◌<◌, max, Bool, true, false, cond, List, [], ◌∷◌, ◌++◌, map, ◌≡◌, refl, ltb, length, get_or, replicate}
use Rattle.std.proofs.Common.{sym, ◌∙◌, arith, le-ltb, lt-ltb, ltb-true, ltb-false, length-append}
use Rattle.std.proofs.lemmas.List.{length-replicate}
use Rattle.plan.specs.Lists.{At}
use Rattle.contours.specs.Contour.{greatest, cover}

pub at_get : (vs : List ℕ) (j v : ℕ) → At vs j v → (get_or vs j 0 ≡ v) × (j < length vs)
at_get [] j v h = absurd h
at_get (w ∷ vs) zero v h = (sym h, omega arith)
at_get (w ∷ vs) (suc j) v h = let q = at_get vs j v h in (q.0, omega arith)

pub get_past : (vs : List ℕ) (j : ℕ) → length vs ≤ j → get_or vs j 0 ≡ 0
get_past [] j l = refl
get_past (w ∷ vs) zero l = absurd (omega arith)
get_past (w ∷ vs) (suc j) l = get_past vs j (omega arith)

-- ---- the greatest
pub get_greatest : (vs : List ℕ) (j : ℕ) → get_or vs j 0 ≤ greatest vs
unfolding greatest
get_greatest [] j = omega arith
get_greatest (w ∷ vs) zero = omega arith
get_greatest (w ∷ vs) (suc j) = omega (arith, get_greatest vs j)

pub greatest-below : (vs : List ℕ) (b : ℕ) → ((j : ℕ) → get_or vs j 0 ≤ b) → greatest vs ≤ b
unfolding greatest
greatest-below [] b h = omega arith
greatest-below (v ∷ vs) b h = omega (arith, h 0, greatest-below vs b (λ j. h (suc j)))

pub greatest-same : (us vs : List ℕ) → ((j : ℕ) → get_or us j 0 ≡ get_or vs j 0) → greatest us ≡ greatest vs
greatest-same us vs h =
    omega (arith, greatest-below us (greatest vs) (λ j. omega (arith, h j, get_greatest vs j)), greatest-below vs (greatest us) (λ j. omega (arith, h j, get_greatest us j)))

-- ---- rows of a map, of a cover, of a box with what is below it
ltb_suc : (j n : ℕ) → ltb (suc j) (suc n) ≡ ltb j n
ltb_suc j n = go (ltb j n) refl
  where
    go : (b : Bool) → ltb j n ≡ b → ltb (suc j) (suc n) ≡ b
    go true q = let l = ltb-true j n q in lt-ltb (suc j) (suc n) (omega arith)
    go false q = let l = ltb-false j n q in le-ltb (suc j) (suc n) (omega arith)

pub get_map : (f : ℕ → ℕ) (vs : List ℕ) (j : ℕ) → get_or (map f vs) j 0 ≡ cond (ltb j (length vs)) (f (get_or vs j 0)) 0
get_map f [] j = rw (le-ltb j 0 (omega arith))
get_map f (v ∷ vs) zero = rw (lt-ltb 0 (suc (length vs)) (omega arith))
get_map f (v ∷ vs) (suc j) = rw (ltb_suc j (length vs)) (get_map f vs j)

pub get_cover : (us vs : List ℕ) (j : ℕ) → get_or (cover us vs) j 0 ≡ max (get_or us j 0) (get_or vs j 0)
unfolding cover
get_cover [] vs j = omega arith
get_cover (u ∷ us) [] j = omega arith
get_cover (u ∷ us) (v ∷ vs) zero = refl
get_cover (u ∷ us) (v ∷ vs) (suc j) = get_cover us vs j

pub get_box : (n w : ℕ) (vs : List ℕ) (j : ℕ) → get_or (replicate n w ++ vs) j 0 ≡ cond (ltb j n) w (get_or vs (j - n) 0)
get_box zero w vs j = let e : j - 0 ≡ j = omega arith in rw (le-ltb j 0 (omega arith), e)
get_box (suc n) w vs zero = rw (lt-ltb 0 (suc n) (omega arith))
get_box (suc n) w vs (suc j) = let e : suc j - suc n ≡ j - n = omega arith in rw (e, ltb_suc j n) (get_box n w vs j)

pub length-box : (n w : ℕ) (vs : List ℕ) → length (replicate n w ++ vs) ≡ n + length vs
length-box n w vs = length-append (replicate n w) vs ∙ rw length-replicate

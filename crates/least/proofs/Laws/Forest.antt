-- Which cells a forest has, and which rows they fill. Assumes nothing.
use Rattle.std.specs.Prelude.{ℕ, suc, ◌+◌, ◌≤◌, ◌<◌, ◌≡◌, refl, ◌⊎◌, length}
use Rattle.std.proofs.Common.{ap, inl, inr, arith, add-sub_cancel}
use Rattle.std.proofs.Math.Decide.{dec_le, dec_lt}
use Rattle.plan.specs.Plan.{Table, box_width, box_depth}
use Rattle.contours.proofs.Laws.Forest.{Forest, none, tree, count, traces}
use Rattle.least.proofs.Laws.ForestRules.{In, Fills, height, Keeps, Spread, Ours}

pub not_in_none : {a : ℕ} → In none a → ⊥
not_in_none p = elim p [ ]

pub not_fills_none : {t : Table} {j a e : ℕ} → Fills t none j a e → ⊥
not_fills_none p = elim p [ ]

pub split_in : {c a : ℕ} {ss r : Forest} → In (tree c ss r) a → In (tree c ss none) a ⊎ In r a
split_in In.top = inl In.top
split_in (In.under p) = inl (In.under p)
split_in (In.beside p) = inr p

pub split_fills : {t : Table} {c j a e : ℕ} {ss r : Forest} → Fills t (tree c ss r) j a e → Fills t (tree c ss none) j a e ⊎ Fills t r j a e
split_fills (Fills.box h) = inl (Fills.box h)
split_fills (Fills.stem h g) = inl (Fills.stem h g)
split_fills (Fills.under h p) = inl (Fills.under h p)
split_fills (Fills.beside p) = inr p

pub lone_in : {c a : ℕ} {ss : Forest} (r : Forest) → In (tree c ss none) a → In (tree c ss r) a
lone_in r In.top = In.top
lone_in r (In.under p) = In.under p
lone_in r (In.beside p) = absurd (not_in_none p)

pub lone_fills : {t : Table} {c j a e : ℕ} {ss : Forest} (r : Forest) → Fills t (tree c ss none) j a e → Fills t (tree c ss r) j a e
lone_fills r (Fills.box h) = Fills.box h
lone_fills r (Fills.stem h g) = Fills.stem h g
lone_fills r (Fills.under h p) = Fills.under h p
lone_fills r (Fills.beside p) = absurd (not_fills_none p)

pub fills_in : {t : Table} {j a e : ℕ} {F : Forest} → Fills t F j a e → In F a
fills_in (Fills.box h) = In.top
fills_in (Fills.stem h g) = In.top
fills_in (Fills.under h p) = In.under (fills_in p)
fills_in (Fills.beside p) = In.beside (fills_in p)

pub fills_wide : {t : Table} {j a e : ℕ} {F : Forest} → Fills t F j a e → e ≤ box_width t a
fills_wide (Fills.box h) = omega arith
fills_wide (Fills.stem h g) = omega arith
fills_wide (Fills.under h p) = fills_wide p
fills_wide (Fills.beside p) = fills_wide p

pub fills_row : {t : Table} {j a e : ℕ} {F : Forest} → Fills t F j a e → j < height t F
unfolding height
fills_row (Fills.box h) = omega arith
fills_row (Fills.stem h g) = omega arith
fills_row (Fills.under h p) = omega (arith, fills_row p)
fills_row (Fills.beside p) = omega (arith, fills_row p)

pub in_fills : {a : ℕ} {F : Forest} (t : Table) → In F a → (j : ℕ) × Fills t F j a (box_width t a)
in_fills t (In.top {c = c}) = (0, Fills.box {c = c} {j = 0} (omega arith))
in_fills t (In.under {c = c} {a = a} {ss = ss} p) =
    let (j, q) = in_fills t p in
    (j + (box_depth t c + 1), Fills.under {c = c} {j = j + (box_depth t c + 1)} {a = a} {e = box_width t a} {ss = ss} (omega arith) (rw add-sub_cancel q))
in_fills t (In.beside p) = let (j, q) = in_fills t p in (j, Fills.beside q)

-- each row of a forest is filled by some cell
pub filled : (t : Table) (F : Forest) (j : ℕ) → j < height t F → (a : ℕ) × (e : ℕ) × Fills t F j a e
unfolding height
filled t none j h = absurd (omega arith)
filled t (tree c ss r) j h =
    elim (dec_lt j (height t r)) [
      | yes p ↦ let (a, e, q) = filled t r j p in (a, e, Fills.beside q)
      | no p ↦ elim (dec_le j (box_depth t c)) [ yes q ↦ (c, box_width t c, Fills.box q) | no q ↦ (c, 0, Fills.stem {c = c} {j = j} {ss = ss} (omega arith) (omega arith)) ]
    ]

pub traces-count : (t : Table) (al : ℕ) (F : Forest) → length (traces t al F) ≡ count F
unfolding traces count
traces-count t al none = refl
traces-count t al (tree c ss r) = ap suc (traces-count t al r)

-- G is F, or a part of it: siblings from some one on, or the children of a cell of F
pub data Within (G : Forest) : Forest → Type 0 where
  self : Within G G
  under : {c : ℕ} {ss r : Forest} → Within G ss → Within G (tree c ss r)
  beside : {c : ℕ} {ss r : Forest} → Within G r → Within G (tree c ss r)

pub keeps_within : (t : Table) (al : ℕ) (x : ℕ → ℕ) {G F : Forest} → Within G F → Keeps t al x F → Keeps t al x G
keeps_within t al x Within.self h = h
keeps_within t al x (Within.under w) h = keeps_within t al x w h.children
keeps_within t al x (Within.beside w) h = keeps_within t al x w h.rest

abbrev Placed : Table → ℕ → (ℕ → ℕ) → Forest → Type 0
Placed t al x F = (b : ℕ) × (P : ℕ) × (X : ℕ) × Spread t al x b P X F × Ours t al x F

pub ours-within : (t : Table) (al : ℕ) (x : ℕ → ℕ) {G F : Forest} → Within G F → Placed t al x F → Placed t al x G
ours-within t al x Within.self h = h
ours-within t al x (Within.under w) (b, P, X, s, o) = ours-within t al x w (_, _, _, o.spread, o.children)
ours-within t al x (Within.beside w) (b, P, X, s, o) = ours-within t al x w (_, _, _, s.next, o.rest)

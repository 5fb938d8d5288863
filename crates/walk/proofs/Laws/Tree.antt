-- The tree of a table as the walk meets it: the children of a cell from some place on, and what is below them. Assumes nothing.
use Rattle.std.specs.Prelude.{◌≡◌, refl, List, [], ◌∷◌, ℕ, suc, ◌+◌, ◌≤◌, length, get_or}
use Rattle.std.proofs.Common.{subst, zero-add, add-zero}
use native.Mathlib.Omega.{arith}
use Rattle.plan.specs.Lists.{At, total}
use Rattle.plan.specs.Plan.{Table, Is, Sound, children, subtree}
use Rattle.plan.proofs.Laws.Plan.{child-read, child-place}
use Rattle.plan.proofs.Laws.Paths.{Below, below-within, child_less}
use Rattle.plan.proofs.Laws.Sums.{disjoint, total-parts}
use Rattle.contours.proofs.Laws.Forest.{Forest, none, tree, Grown}
use Rattle.folding.proofs.Laws.Lists.{at_get, get_past}

-- cs are the children of f from place o on
pub record Tail (t : Table) (f o : ℕ) (cs : List ℕ) : Type 0 where
  pub on : (i s : ℕ) → At cs i s → At (children t f) (o + i) s
  pub size : o + length cs ≡ length (children t f)

pub tail_all : (t : Table) (f : ℕ) → Tail t f 0 (children t f)
tail_all t f = record { on = λ i s h. rw zero-add h; size = omega arith }

module _ (t : Table) (f o : ℕ) where
  pub tail_head : (c : ℕ) (cs : List ℕ) → Tail t f o (c ∷ cs) → At (children t f) o c
  tail_head c cs h = rw add-zero at (h.on 0 c refl)

  pub tail_next : (c : ℕ) (cs : List ℕ) → Tail t f o (c ∷ cs) → Tail t f (suc o) cs
  tail_next c cs h = record { on = λ i s a. let e : o + suc i ≡ suc o + i = omega arith in rw e at (h.on (suc i) s a); size = omega (arith, h.size) }

  pub tail_first : (cs : List ℕ) → Tail t f o cs → get_or (children t f) o 0 ≡ get_or cs 0 0
  tail_first [] h = get_past (children t f) o (omega (arith, h.size))
  tail_first (c ∷ cs) h = (at_get (children t f) o c (tail_head c cs h)).0

-- x is at or below none of cs
abbrev pub Out : Table → ℕ → List ℕ → Type 0
Out t x cs = (i s : ℕ) → At cs i s → Below t x s → ⊥

pub below-below : {t : Table} {x y z : ℕ} → Below t x y → Below t y z → Below t x z
below-below w Below.here = w
below-below w (Below.down i s h v) = Below.down i s h (below-below w v)

-- f summed over the cells of a forest
unfoldable pub sum : (ℕ → ℕ) → Forest → ℕ
sum f none = 0
sum f (tree c ss r) = f c + sum f ss + sum f r

module _ (t : Table) (sound : Sound t) where
  pub below-most : {x s : ℕ} → Below t x s → s ≤ x
  below-most Below.here = omega arith
  below-most (Below.down {c = c} i s h w) = omega (arith, below-most w, child_less t sound c i s h)

  -- what is below a later sibling is not below an earlier one
  pub out_later : (f o c : ℕ) (cs : List ℕ) → Tail t f o (c ∷ cs) → (x i s : ℕ) → At cs i s → Below t x s → Below t x c → ⊥
  out_later f o c cs h x i s a w v =
      let hc = tail_head t f o c cs h in
      let hs = h.on (suc i) s a in
      let e : c ≡ s = disjoint t sound f c s x (child-read t f o c hc) (child-read t f (o + suc i) s hs) (below-within t sound v) (below-within t sound w) in
      let q : o ≡ o + suc i = child-place t f o (o + suc i) s (subst (At (children t f) o) e hc) hs in
      omega arith

  pub sum-within : (f : ℕ → ℕ) {cs : List ℕ} {F : Forest} → Grown t cs F → ((i s : ℕ) → At cs i s → Is t s) → sum f F ≤ total (λ s. total f (subtree t s)) cs
  unfolding sum total
  sum-within f Grown.nil h = omega arith
  sum-within f (Grown.cons {c = c} g b) h =
      omega (
        arith,
        sum-within f g (λ i s a. (child_less t sound c i s a).1),
        total-parts t sound f c (h 0 c refl),
        sum-within f b (λ i. h (suc i)),
      )
